-- Which methods of a world are well typed, and which one is the first that isn't.
use Rattle.std.specs.Prelude.{◌≡◌, ℕ, ◌<◌, List, Some, slice_get}
use Rattle.jv_model.specs.Refusal.{Rule, Cause, not_verified}
use Rattle.world_model.specs.World.{World, Class, Method}
use Rattle.typing_model.specs.VerificationType.{TypeFrame}
use Rattle.typing_model.specs.Environment.{Environment, environment_of}
use Rattle.typing_model.specs.WellTyped.{IsTyping, FailsAt}

-- it has a typing, where it has code
abbrev pub IsWellTyped : World → Class → Method → Type 0
IsWellTyped world class method = (e : Environment) → environment_of world class method ≡ Some e
    → (frames : List TypeFrame) × IsTyping world class method frames

-- each of its first methods, so many, is well typed
abbrev pub IsWellTypedTo : World → Class → ℕ → Type 0
IsWellTypedTo world class count = (i : ℕ) (method : Method) → i < count → slice_get class.methods i ≡ Some method
    → IsWellTyped world class method

-- each of its methods is
abbrev pub IsWellTypedClass : World → Class → Type 0
IsWellTypedClass world class = (i : ℕ) (method : Method) → slice_get class.methods i ≡ Some method
    → IsWellTyped world class method

-- The method with that number of the class with that number fails first at a place, and it is told. No class before it
-- has a method that fails, nor is there one before it in its class.
pub record IsFirstFailure (world : World) (cause : Cause) : Type 0 where
  pub class_number : ℕ
  pub class : Class
  pub is_class : slice_get world.classes class_number ≡ Some class
  pub classes_before : (k : ℕ) (c : Class) → k < class_number → slice_get world.classes k ≡ Some c
      → IsWellTypedClass world c
  pub method_number : ℕ
  pub method : Method
  pub is_method : slice_get class.methods method_number ≡ Some method
  pub methods_before : IsWellTypedTo world class method_number
  pub pc : ℕ
  pub rule : Rule
  pub fails : FailsAt world class method pc rule
  pub told : not_verified class.name method.name method.descriptor pc rule ≡ cause
