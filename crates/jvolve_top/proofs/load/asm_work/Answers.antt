use Rattle.std.proofs.lemmas.Result.{err_from_is_err_and}
use Rattle.class_loader.specs.Outside.{read}
use Rattle.jvolve_top.proofs.LoadLemmas.{asm_work, asm_work_stops}
use Rattle.jvolve_top.proofs.load.asm_work.Goals as goal

pub returns-in_err-bytes-clause-loaded : goal.returns-in_err-bytes-clause-loaded
returns-in_err-bytes-clause-loaded g c =
    let error = err_from_is_err_and c.from_residual.result c.from_residual.ensures.1 in
    let files =
    read g.F.Files.folder g.F.Files.asked g.F.Files.faults c.args.files.now
    c.load_asm.new.files in
    rw (error.1, error.2) (asm_work_stops c.args.file.now files _ c.in_err-bytes.ensures)

pub returns-clause-loaded : goal.returns-clause-loaded
returns-clause-loaded g c =
    let files =
    read g.F.Files.folder g.F.Files.asked g.F.Files.faults c.args.files.now
    c.load_asm.new.files in
    asm_work c.args.file.now files c.in_ok-bytes.bytes.items c.in_ok-bytes.ensures
