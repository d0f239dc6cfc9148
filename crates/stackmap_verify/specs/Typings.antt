-- What verifying a method says of it.
use Rattle.std.specs.Prelude.{◌≡◌, Some, Result, Ok, Err, slice_get}
use Rattle.world_model.specs.World.{World, Class, Method}
use Rattle.typing_model.specs.WellTyped.{FailsAt}
use Rattle.jv_types.specs.Refusal.{rule_of}
use Rattle.jv_types.specs.declared.number.MethodNo.{MethodNo}
use Rattle.stackmap_verify.specs.declared.error.VerifyError.{VerifyError}
use Rattle.stackmap_verify.specs.declared.error.VerifyError.TheVariants.{NotVerified, NoMemory}
use Rattle.stackmap_verify.specs.declared.typing.Typed.{Typed}
use Rattle.stackmap_verify.specs.Passed.{AreFramesOf, frames_of}

-- it's this method that isn't well typed, and it fails there by that rule
abbrev pub TellsPlace : World → Class → Method → VerifyError → Type 0
TellsPlace world class method (NotVerified name called descriptor pc rule) =
    (name.items ≡ class.name) × (called.items ≡ method.name) × (descriptor.items ≡ method.descriptor)
    × FailsAt world class method pc (rule_of rule)
TellsPlace world class method NoMemory = Unit {0}

-- it's well typed with these frames, or it isn't
abbrev pub Types : World → Class → Method → Result Typed VerifyError → Type 0
Types world class method (Ok typed) = AreFramesOf world class method (frames_of world typed.frames.items)
Types world class method (Err error) = TellsPlace world class method error

-- The same of a method by its number.
pub record TypesMethod (world : World) (number : MethodNo) (result : Result Typed VerifyError) : Type 0 where
  pub class : Class
  pub is_class : slice_get world.classes number.class.0 ≡ Some class
  pub method : Method
  pub is_method : slice_get class.methods number.index ≡ Some method
  pub types : Types world class method result
