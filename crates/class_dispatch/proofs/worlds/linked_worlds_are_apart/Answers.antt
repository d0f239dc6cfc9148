use Rattle.class_dispatch.proofs.Linked.{linked_apart}
use Rattle.class_dispatch.proofs.worlds.linked_worlds_are_apart.Goals as goal

pub returns : goal.returns
returns c = linked_apart
