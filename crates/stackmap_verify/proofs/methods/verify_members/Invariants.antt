use Rattle.std.proofs.Common.{◌≡◌, drop}
use Rattle.jv_model.specs.Partial.{first_of}
use Rattle.link_model.specs.WorldOf.{class_of}
use Rattle.typing_model.specs.FailingPlace.{method_failure}
use Rattle.jv_types.specs.Loaded.{loaded_of}
use Rattle.verifier_laws.proofs.Failures.{class_failure}
use Rattle.stackmap_verify.proofs.methods.verify_members.Given as goal

-- it's the first failure of the methods that are left
abbrev pub invariant-loop-index : goal.invariant-loop-index
invariant-loop-index g l =
    first_of (method_failure l.world (class_of (loaded_of l.loaded))) (drop l.index (class_of (loaded_of l.loaded)).methods)
    ≡ class_failure l.world (class_of (loaded_of l.loaded))
