use Rattle.link_laws.proofs.Theorems.{linked_program}
use Rattle.class_dispatch.proofs.Linked.{linked_apart}
use Rattle.linked_samples.proofs.world.linked_world.Goals as goal

pub returns-clause-sound : goal.returns-clause-sound
returns-clause-sound c =
    let linked = c.in_ok-world.ensures in
    (linked_program linked.classes linked.main c.in_ok-world.world linked.links).sound

pub returns-clause-apart : goal.returns-clause-apart
returns-clause-apart c = (linked_apart c.in_ok-world.world c.in_ok-world.ensures).0

pub returns-clause-once : goal.returns-clause-once
returns-clause-once c = (linked_apart c.in_ok-world.world c.in_ok-world.ensures).1
