use Rattle.vm_unwind.proofs.Naming as laws
use Rattle.vm_unwind.proofs.law.places_are_catches.Goals as goal

pub returns : goal.returns
returns c = laws.places_are_catches
