use Rattle.std.proofs.Common.{refl}
use Rattle.jv_model.specs.Limits.{most_file_bytes}
use Rattle.load_model.specs.Loading.{file_at}
use Rattle.load_model.specs.LoadClasses.{class_in_bytes}
use Rattle.class_loader.specs.Outside.{read}
use Rattle.class_loader.specs.Classes.{class_read}
use Rattle.class_loader.proofs.Loaders.{unread, unread-follows, goes_on_with}
use Rattle.class_loader.proofs.PlacedLemmas.{placed_is_loaded}
use Rattle.class_loader.proofs.class.class_in_file.Goals as goal

pub returns-clause-loaded : goal.returns-clause-loaded
returns-clause-loaded g c =
    let files =
    read g.F.Files.folder g.F.Files.asked g.F.Files.faults c.args.files.now
    c.read_file.new.files in
    let bytes = c.in_ok-bytes.bytes.items in
    goes_on_with (λ folder. file_at folder c.args.name.now most_file_bytes c.args.number 0)
    (λ folder bytes. class_in_bytes c.args.number c.args.before bytes) bytes files (unread files)
    (unread-follows files) c.in_ok-bytes.ensures.loaded class_read c.class_in_bytes.result
    (placed_is_loaded class_read c.class_in_bytes.result files
    (λ folder. class_in_bytes c.args.number c.args.before bytes)
    (class_in_bytes c.args.number c.args.before bytes) (λ folder. refl)
    (rw c.as_slice.ensures at c.class_in_bytes.ensures.read))
