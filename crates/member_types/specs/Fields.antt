-- Which field of the definitions a `Field` is.
use Rattle.std.specs.Prelude.{◌≡◌, Option, Some, None}
use Rattle.jv_model.specs.Operand.{Operand, MemberReference}
use Rattle.world_model.specs.World.{World}
use Rattle.typing_model.specs.Environment.{member_of}
use Rattle.typing_model.specs.MemberTypes.{type_of_field}
use Rattle.class_world.specs.World.{name_at}
use Rattle.type_rules.specs.Types.{type_of, IsKnown, IsKnownType}
use Rattle.member_types.specs.declared.fields.Field.{Field}

-- The operand names that field, of a class that is there and of a type whose class is there.
pub record IsField (world : World) (operand : Operand) (field : Field) : Type 0 where
  pub member : MemberReference
  pub is_member : member_of operand ≡ Some member
  pub is_type : type_of_field member ≡ Some (type_of world field.field_type)
  pub class_name : name_at world field.class ≡ member.class
  pub name : field.name.now ≡ member.name
  pub descriptor : field.descriptor.now ≡ member.descriptor
  pub class_there : IsKnown world field.class
  pub type_there : IsKnownType world field.field_type

abbrev pub FindsField : World → Operand → Option Field → Type 0
FindsField world operand (Some field) = IsField world operand field
FindsField world operand None = member_of operand ≡ None
