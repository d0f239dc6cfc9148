-- What the laws of linked code say (JVMS 5.4).
use Rattle.std.specs.Prelude.{◌≡◌, ℕ, Some, true, slice_get}
use Rattle.jv_model.specs.Operand.{Operand}
use Rattle.jv_model.specs.Code.{Body}
use Rattle.world_model.specs.World.{World, Class, Method}
use Rattle.world_model.specs.BootNames.{java_object, java_string, java_throwable}
use Rattle.link_model.specs.UseFaults.{is_class_where}
use Rattle.linked_laws.specs.Worlds.{IsLinkedWorld}
use Rattle.linked_laws.specs.Code.{CodeIsLinked}

-- In a linked world all that the code of a method names is there.
abbrev pub CodesAreLinked : Type 0
CodesAreLinked = (world : World) → IsLinkedWorld world → (n k : ℕ) (class : Class) (method : Method) (body : Body Operand)
    → slice_get world.classes n ≡ Some class → slice_get class.methods k ≡ Some method → method.code ≡ Some body
    → CodeIsLinked world class method body

-- The classes that typing looks at whatever code names.
pub record TypingIsGrounded (world : World) : Type 0 where
  pub object : is_class_where world (λ (class : Class). true) java_object ≡ true
  pub string : is_class_where world (λ (class : Class). true) java_string ≡ true
  pub throwable : is_class_where world (λ (class : Class). true) java_throwable ≡ true

-- They are there in a linked world.
abbrev pub GroundIsThere : Type 0
GroundIsThere = (world : World) → IsLinkedWorld world → TypingIsGrounded world
