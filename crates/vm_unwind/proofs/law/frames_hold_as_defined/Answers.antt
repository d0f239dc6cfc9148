use Rattle.vm_unwind.proofs.Naming as laws
use Rattle.vm_unwind.proofs.law.frames_hold_as_defined.Goals as goal

pub returns : goal.returns
returns c = laws.frames_hold_as_defined
