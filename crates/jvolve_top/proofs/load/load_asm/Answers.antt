use Rattle.std.proofs.lemmas.Result.{err_from_is_err_and}
use Rattle.class_loader.specs.Outside.{read}
use Rattle.jvolve_top.proofs.LoadLemmas.{asm_stops, asm_goes_on}
use Rattle.jvolve_top.proofs.load.load_asm.Goals as goal

pub returns-in_err-text : goal.returns-in_err-text
returns-in_err-text g c =
    let error = err_from_is_err_and c.from_residual.result c.from_residual.ensures.1 in
    let files =
    read g.F.Files.folder g.F.Files.asked g.F.Files.faults c.args.files.now
    c.read_file.new.files in
    rw (error.1, error.2) (asm_stops c.args.file.now files _ c.in_err-text.ensures.loaded)

pub returns : goal.returns
returns g c =
    let files =
    read g.F.Files.folder g.F.Files.asked g.F.Files.faults c.args.files.now
    c.read_file.new.files in
    asm_goes_on c.args.file.now (λ bytes. bytes.items) c.class_file_of.result files
    c.in_ok-text.text.items c.in_ok-text.ensures.loaded
    (rw c.as_slice.ensures at c.class_file_of.ensures)
