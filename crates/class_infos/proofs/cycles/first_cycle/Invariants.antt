use Rattle.class_world.specs.World.{world_of_infos}
use Rattle.class_infos.proofs.NoneCyclic.{NoneCyclic}
use Rattle.class_infos.proofs.cycles.first_cycle.Given as goal

-- no class so far is above itself
abbrev pub invariant-loop-number : goal.invariant-loop-number
invariant-loop-number l = NoneCyclic (world_of_infos l.classes) l.number
