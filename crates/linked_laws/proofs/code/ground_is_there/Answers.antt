use Rattle.linked_laws.proofs.Ground.{ground_is_there}
use Rattle.linked_laws.proofs.code.ground_is_there.Goals as goal

pub returns : goal.returns
returns c = ground_is_there
