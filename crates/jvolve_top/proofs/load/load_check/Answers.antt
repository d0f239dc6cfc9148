use Rattle.std.proofs.lemmas.Result.{err_from_is_err_and}
use Rattle.class_loader.specs.Outside.{read}
use Rattle.jvolve_top.specs.Programs.{verified_of}
use Rattle.jvolve_top.proofs.LoadLemmas.{check_stops, check_goes_on}
use Rattle.jvolve_top.proofs.load.load_check.Goals as goal

pub returns-in_err-verified : goal.returns-in_err-verified
returns-in_err-verified g c =
    let error = err_from_is_err_and c.from_residual.result c.from_residual.ensures.1 in
    let files =
    read g.F.Files.folder g.F.Files.asked g.F.Files.faults c.args.files.now
    c.load_program.new.files in
    rw (error.1, error.2)
    (check_stops c.args.manifest.now files _ c.in_err-verified.ensures.loaded)

pub returns : goal.returns
returns g c =
    let files =
    read g.F.Files.folder g.F.Files.asked g.F.Files.faults c.args.files.now
    c.load_program.new.files in
    check_goes_on c.args.manifest.now (λ text. text.items) c.check_text.result files
    (verified_of c.in_ok-verified.verified) c.in_ok-verified.ensures.loaded c.check_text.ensures
