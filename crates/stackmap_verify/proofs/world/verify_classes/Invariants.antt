use Rattle.std.proofs.Common.{◌≡◌, drop}
use Rattle.jv_model.specs.Partial.{first_of}
use Rattle.typing_model.specs.FailingPlace.{world_failure}
use Rattle.verifier_laws.proofs.Failures.{class_failure}
use Rattle.stackmap_verify.proofs.world.verify_classes.Given as goal

-- it's the first failure of the classes that are left
abbrev pub invariant-loop-class : goal.invariant-loop-class
invariant-loop-class g l = first_of (class_failure l.world) (drop l.class l.world.classes) ≡ world_failure l.world
