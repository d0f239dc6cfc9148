use Rattle.vm_monitors.proofs.Entering as laws
use Rattle.vm_monitors.proofs.word.leaving_undoes_entering.Goals as goal

pub returns : goal.returns
returns c = laws.leaving_undoes_entering
