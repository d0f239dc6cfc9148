use Rattle.std.proofs.lemmas.Result.{err_from_is_err_and}
use Rattle.class_loader.specs.Outside.{read}
use Rattle.straight_line.specs.Programs.{program}
use Rattle.jvolve_top.specs.Programs.{verified_of}
use Rattle.jvolve_top.proofs.LoadLemmas.{run_stops, run_goes_on}
use Rattle.jvolve_top.proofs.load.load_run.Goals as goal

pub returns-in_err-verified-clause-loaded : goal.returns-in_err-verified-clause-loaded
returns-in_err-verified-clause-loaded g c =
    let error = err_from_is_err_and c.from_residual.result c.from_residual.ensures.1 in
    let files =
    read g.F.Files.folder g.F.Files.asked g.F.Files.faults c.args.files.now
    c.load_program.new.files in
    rw (error.1, error.2) (run_stops c.args.manifest.now files _ c.in_err-verified.ensures.loaded)

pub returns-clause-loaded : goal.returns-clause-loaded
returns-clause-loaded g c =
    let files =
    read g.F.Files.folder g.F.Files.asked g.F.Files.faults c.args.files.now
    c.load_program.new.files in
    run_goes_on c.args.manifest.now program c.runnable.result files
    (verified_of c.in_ok-verified.verified) c.in_ok-verified.ensures.loaded
    c.runnable.ensures.program
