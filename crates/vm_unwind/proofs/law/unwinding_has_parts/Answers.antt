use Rattle.vm_unwind.proofs.Unwinding as laws
use Rattle.vm_unwind.proofs.law.unwinding_has_parts.Goals as goal

pub returns : goal.returns
returns c = laws.unwinding_has_parts
