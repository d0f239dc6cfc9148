use Rattle.std.proofs.Common.{◌≡◌, [], flat_map, drop}
use Rattle.world_literals.specs.Literals.{class_strings, world_strings}
use Rattle.world_literals.specs.Growing.{with_all}
use Rattle.world_literals.proofs.Named.{CoverSoFar}
use Rattle.world_literals.proofs.pools.literals.Given as goal

-- the texts so far, and those of the classes that are left
abbrev pub invariant-loop-class : goal.invariant-loop-class
invariant-loop-class l = record {
  texts : with_all l.texts (flat_map class_strings (drop l.class l.world.classes)) ≡ with_all [] (world_strings l.world);
  covered : CoverSoFar l.world l.class;
}
