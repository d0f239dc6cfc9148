use Rattle.std.proofs.lemmas.Result.{err_from_is_err_and}
use Rattle.class_loader.specs.Outside.{read}
use Rattle.manifest_reader.specs.Statements.{manifest_view}
use Rattle.class_loader.specs.Items.{classes_in}
use Rattle.jvolve_top.specs.Programs.{verified_of}
use Rattle.jvolve_top.proofs.LoadLemmas.{items_stop, items_go_on}
use Rattle.jvolve_top.proofs.load.load_manifest.Goals as goal

pub returns-in_err-classes-clause-loaded : goal.returns-in_err-classes-clause-loaded
returns-in_err-classes-clause-loaded g c =
    let error = err_from_is_err_and c.from_residual.result c.from_residual.ensures.1 in
    let files =
    read g.F.Files.folder g.F.Files.asked g.F.Files.faults c.args.files.now
    c.load_items.new.files in
    rw (error.1, error.2)
    (items_stop (manifest_view c.args.manifest.now) files _ c.in_err-classes.ensures.loaded)

pub returns-clause-loaded : goal.returns-clause-loaded
returns-clause-loaded g c =
    let files =
    read g.F.Files.folder g.F.Files.asked g.F.Files.faults c.args.files.now
    c.load_items.new.files in
    items_go_on (manifest_view c.args.manifest.now) verified_of c.verified_program.result files
    (classes_in c.in_ok-classes.classes) c.in_ok-classes.ensures.loaded
    c.verified_program.ensures.program
