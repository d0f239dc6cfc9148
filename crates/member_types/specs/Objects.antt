-- Types that operands name, and what a `new` made.
use Rattle.std.specs.Prelude.{◌≡◌, ℕ, Option, Some, None, List}
use Rattle.jv_model.specs.Operand.{Operand}
use Rattle.world_model.specs.World.{World}
use Rattle.typing_model.specs.Environment.{class_of, named_type}
use Rattle.type_rules.specs.declared.types.FieldType.{FieldType}
use Rattle.type_rules.specs.Types.{field_type_of, IsKnownElement}

-- The operand names that type, and its class is there.
pub record NamesType (world : World) (operand : Operand) (type : FieldType) : Type 0 where
  pub name : List ℕ
  pub is_name : class_of operand ≡ Some name
  pub is_type : field_type_of world type ≡ named_type name
  pub known : IsKnownElement world type.element

abbrev pub IsNamedType : World → Operand → Option FieldType → Type 0
IsNamedType world operand (Some type) = NamesType world operand type
IsNamedType world operand None = class_of operand ≡ None
