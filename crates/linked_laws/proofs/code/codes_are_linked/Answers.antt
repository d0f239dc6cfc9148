use Rattle.linked_laws.proofs.Methods.{codes_are_linked}
use Rattle.linked_laws.proofs.code.codes_are_linked.Goals as goal

pub returns : goal.returns
returns c = codes_are_linked
