use Rattle.std.proofs.Common.{sym}
use Rattle.jvolve_top.specs.Words.{invocation_view}
use Rattle.class_loader.specs.Outside.{read}
use Rattle.jvolve_top.specs.Loads.{work_of}
use Rattle.jvolve_top.proofs.OutcomeLemmas.{headline_of_work}
use Rattle.jvolve_top.proofs.call.jvolve_alone.Goals as goal

pub returns-in-Ok : goal.returns-in-Ok
returns-in-Ok g c =
    let files =
    read g.F.Files.folder g.F.Files.asked g.F.Files.faults c.args.files.now c.load.new.files in
    headline_of_work _ (invocation_view c.in-Some.invocation) (sym c.in-Some.ensures)
    (work_of c.in-Ok.work) c.in-Ok.ensures.loaded (c.do_work.ensures c.args.words.now files)
