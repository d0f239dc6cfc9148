-- What the laws of verifying a world say (JVMS 4.10.1).
use Rattle.std.specs.Prelude.{◌≡◌, ◌↔◌, ℕ, Some, None, slice_get}
use Rattle.jv_model.specs.Refusal.{Cause}
use Rattle.world_model.specs.World.{World, Class}
use Rattle.typing_model.specs.FailingPlace.{world_failure}
use Rattle.verifier_laws.specs.Failures.{IsWellTypedClass, IsFirstFailure}

-- There is no failure exactly where each method of each class is well typed.
abbrev pub NoFailureIsTyped : Type 0
NoFailureIsTyped = (world : World) → (world_failure world ≡ None)
    ↔ ((k : ℕ) (class : Class) → slice_get world.classes k ≡ Some class → IsWellTypedClass world class)

-- The failure is exactly the first one.
abbrev pub FirstFailureIsTold : Type 0
FirstFailureIsTold = (world : World) (cause : Cause) → (world_failure world ≡ Some cause) ↔ IsFirstFailure world cause
