-- What an operand has to be, as a test of the definitions.
use Rattle.std.specs.Prelude.{◌&&◌, if◌then◌else◌, List, map}
use Rattle.std.specs.List.{All}
use Rattle.world_model.specs.World.{World}
use Rattle.typing_model.specs.VerificationType.{VerificationType, this, new_at, class, is_of_kind, is_this, is_same}
use Rattle.typing_model.specs.Environment as model
use Rattle.typing_model.specs.Transition.{Test, to}
use Rattle.typing_model.specs.ArrayTypes.{is_array_of, is_any_array}
use Rattle.jv_types.specs.Instruction.{element_kind_of, value_kind_of}
use Rattle.jv_types.specs.declared.instruction.ElementKind.{ElementKind}
use Rattle.jv_types.specs.declared.instruction.ElementKind.TheVariants as kinds
use Rattle.type_rules.specs.declared.types.ElementType.{ElementType}
use Rattle.type_rules.specs.declared.types.ElementType.TheVariants as elements
use Rattle.type_rules.specs.declared.types.FieldType.{FieldType}
use Rattle.instruction_types.specs.declared.environment.Environment.{Environment}
use Rattle.class_world.specs.World.{name_at}
use Rattle.type_rules.specs.Types.{type_of, IsKnown, IsKnownType}
use Rattle.instruction_types.specs.declared.operands.Wanted.{Wanted}
use Rattle.instruction_types.specs.declared.operands.Wanted.TheVariants.{Of, AnyArray, To, ArrayOf, Both, Owner, This, New}

-- the components of an array of a kind
abbrev pub element_of_kind : Environment → ElementKind → ElementType
element_of_kind here kinds.Int = elements.Int
element_of_kind here kinds.Long = elements.Long
element_of_kind here kinds.Reference = elements.Class here.object
element_of_kind here kinds.Byte = elements.Byte
element_of_kind here kinds.Char = elements.Char
element_of_kind here kinds.Short = elements.Short

abbrev pub component_of : Environment → ElementKind → FieldType
component_of here kind = record { dimensions = 0; element = element_of_kind here kind }

abbrev pub test_of : World → model.Environment → Wanted → Test
test_of world e (Of kind) = is_of_kind (value_kind_of kind)
test_of world e AnyArray = is_any_array
test_of world e (To type) = to e (type_of world type)
test_of world e (ArrayOf kind) = is_array_of e (element_kind_of kind)
test_of world e (Both one other) =
    λ (type : VerificationType). to e (class (name_at world one)) type && to e (class (name_at world other)) type
test_of world e (Owner takes_this owner) =
    λ (type : VerificationType). if is_this type then takes_this else to e (class (name_at world owner)) type
test_of world e This = is_same this
test_of world e (New pc) = is_same (new_at pc)

abbrev pub tests_of : World → model.Environment → List Wanted → List Test
tests_of world e wanted = map (test_of world e) wanted

-- the classes that it names are there
abbrev pub IsKnownWanted : World → Wanted → Type 0
IsKnownWanted world (To type) = IsKnownType world type
IsKnownWanted world (Both one other) = IsKnown world one × IsKnown world other
IsKnownWanted world (Owner takes_this owner) = IsKnown world owner
IsKnownWanted world other = Unit {0}

abbrev pub AreKnownWanted : World → List Wanted → Type 0
AreKnownWanted world wanted = All (IsKnownWanted world) wanted
