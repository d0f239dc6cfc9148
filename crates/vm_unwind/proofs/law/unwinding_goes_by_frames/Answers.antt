use Rattle.vm_unwind.proofs.Stepwise as laws
use Rattle.vm_unwind.proofs.law.unwinding_goes_by_frames.Goals as goal

pub returns : goal.returns
returns c = laws.unwinding_goes_by_frames
