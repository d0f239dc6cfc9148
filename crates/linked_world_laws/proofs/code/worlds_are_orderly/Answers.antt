use Rattle.linked_world_laws.proofs.Orders.{world_is_orderly}
use Rattle.linked_world_laws.proofs.code.worlds_are_orderly.Goals as goal

pub returns : goal.returns
returns c = world_is_orderly
