use Rattle.std.proofs.lemmas.Result.{err_from_is_err_and}
use Rattle.class_loader.specs.Outside.{read}
use Rattle.straight_line.specs.Programs.{program}
use Rattle.jvolve_top.proofs.LoadLemmas.{run_work, run_work_stops}
use Rattle.jvolve_top.proofs.load.run_work.Goals as goal

pub returns-in_err-body-clause-loaded : goal.returns-in_err-body-clause-loaded
returns-in_err-body-clause-loaded g c =
    let error = err_from_is_err_and c.from_residual.result c.from_residual.ensures.1 in
    let files =
    read g.F.Files.folder g.F.Files.asked g.F.Files.faults c.args.files.now
    c.load_run.new.files in
    rw (error.1, error.2) (run_work_stops c.args.manifest.now files _ c.in_err-body.ensures.loaded)

pub returns-clause-loaded : goal.returns-clause-loaded
returns-clause-loaded g c =
    let files =
    read g.F.Files.folder g.F.Files.asked g.F.Files.faults c.args.files.now
    c.load_run.new.files in
    run_work c.args.manifest.now files (program c.in_ok-body.body) c.in_ok-body.ensures.loaded
