use Rattle.std.proofs.Common.{refl}
use Rattle.std.proofs.lemmas.Result.{err_from_is_err_and}
use Rattle.load_model.specs.LoadClasses.{class_data, class_of_item, load_class}
use Rattle.manifest_reader.specs.Items.{class_of}
use Rattle.class_loader.specs.Outside.{read}
use Rattle.class_loader.specs.Classes.{class_read, class_loaded}
use Rattle.class_loader.proofs.Loaders.{unread, unread-follows, goes_on_with, stops_first}
use Rattle.class_loader.proofs.PlacedLemmas.{placed_is_loaded}
use Rattle.class_loader.proofs.class.load_item.Goals as goal

pub returns-in_err-read-clause-loaded : goal.returns-in_err-read-clause-loaded
unfolding load_class
returns-in_err-read-clause-loaded g c =
    let error = err_from_is_err_and c.from_residual.result c.from_residual.ensures.1 in
    let files =
    read g.F.Files.folder g.F.Files.asked g.F.Files.faults c.args.files.now
    c.class_data.new.files in
    let asked = class_of c.args.asked.now in
    rw (error.1, error.2)
    (stops_first (λ folder. class_data folder c.args.number c.args.before asked.form)
    (λ folder. class_of_item c.args.number asked) files _ c.in_err-read.ensures.loaded)

pub returns-clause-loaded : goal.returns-clause-loaded
unfolding load_class
returns-clause-loaded g c =
    let files =
    read g.F.Files.folder g.F.Files.asked g.F.Files.faults c.args.files.now
    c.class_data.new.files in
    let asked = class_of c.args.asked.now in
    let found = class_read c.in_ok-read.read in
    goes_on_with (λ folder. class_data folder c.args.number c.args.before asked.form)
    (λ folder. class_of_item c.args.number asked) found files (unread files) (unread-follows files)
    c.in_ok-read.ensures.loaded class_loaded c.class_of_item.result
    (placed_is_loaded class_loaded c.class_of_item.result files
    (λ folder. class_of_item c.args.number asked found)
    (class_of_item c.args.number asked found) (λ folder. refl) c.class_of_item.ensures.class)
