use Rattle.vm_unwind.proofs.Naming as laws
use Rattle.vm_unwind.proofs.law.names_find_methods.Goals as goal

pub returns : goal.returns
returns c = laws.names_find_methods
