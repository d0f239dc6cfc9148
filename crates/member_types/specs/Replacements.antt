-- Uninitialized types, and what takes their place.
use Rattle.std.specs.Prelude.{◌==◌, Bool, false, true, if◌then◌else◌, Option, Some, None}
use Rattle.type_rules.specs.declared.types.VerificationType.{VerificationType}
use Rattle.type_rules.specs.declared.types.VerificationType.TheVariants as types
use Rattle.instruction_types.specs.declared.operands.Wanted.{Wanted}
use Rattle.instruction_types.specs.declared.operands.Wanted.TheVariants as wanted_types
use Rattle.member_types.specs.declared.replacements.Uninitialized.{Uninitialized}
use Rattle.member_types.specs.declared.replacements.Uninitialized.TheVariants.{This, New}

-- the type is that one
abbrev pub is_uninitialized : Uninitialized → VerificationType → Bool
is_uninitialized This types.This = true
is_uninitialized This other = false
is_uninitialized (New pc) (types.New made) = pc == made
is_uninitialized (New pc) other = false

abbrev pub replaced : Uninitialized → VerificationType → VerificationType → VerificationType
replaced old fresh type = if is_uninitialized old type then fresh else type

abbrev pub type_of_uninitialized : Uninitialized → VerificationType
type_of_uninitialized This = types.This
type_of_uninitialized (New pc) = types.New pc

-- the uninitialized type that a type is, where it is one
abbrev pub uninitialized_of : VerificationType → Option Uninitialized
uninitialized_of types.This = Some This
uninitialized_of (types.New pc) = Some (New pc)
uninitialized_of other = None

-- what an operand of that type is held to
abbrev pub wanted_of : Uninitialized → Wanted
wanted_of This = wanted_types.This
wanted_of (New pc) = wanted_types.New pc
