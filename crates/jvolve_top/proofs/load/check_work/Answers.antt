use Rattle.std.proofs.lemmas.Result.{err_from_is_err_and}
use Rattle.class_loader.specs.Outside.{read}
use Rattle.jvolve_top.proofs.LoadLemmas.{check_work, check_work_stops}
use Rattle.jvolve_top.proofs.load.check_work.Goals as goal

pub returns-in_err-text-clause-loaded : goal.returns-in_err-text-clause-loaded
returns-in_err-text-clause-loaded g c =
    let error = err_from_is_err_and c.from_residual.result c.from_residual.ensures.1 in
    let files =
    read g.F.Files.folder g.F.Files.asked g.F.Files.faults c.args.files.now
    c.load_check.new.files in
    rw (error.1, error.2) (check_work_stops c.args.manifest.now files _ c.in_err-text.ensures)

pub returns-clause-loaded : goal.returns-clause-loaded
returns-clause-loaded g c =
    let files =
    read g.F.Files.folder g.F.Files.asked g.F.Files.faults c.args.files.now
    c.load_check.new.files in
    check_work c.args.manifest.now files c.in_ok-text.text.items c.in_ok-text.ensures
