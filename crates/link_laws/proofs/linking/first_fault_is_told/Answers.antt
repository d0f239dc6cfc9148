use Rattle.link_laws.proofs.Theorems.{first_fault}
use Rattle.link_laws.proofs.linking.first_fault_is_told.Goals as goal

pub returns : goal.returns
returns c = first_fault
