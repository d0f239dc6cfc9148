-- Which types of the definitions the types by number are, in a world.
use Rattle.std.specs.Prelude.{◌≡◌, ℕ, zero, suc, Bool, false, Some, bytes_eq}
use Rattle.jv_model.specs.Descriptors as descriptors
use Rattle.world_model.specs.World.{World}
use Rattle.world_model.specs.BootNames.{java_object}
use Rattle.typing_model.specs.VerificationType as model
use Rattle.jv_types.specs.declared.number.ClassNo.{ClassNo}
use Rattle.class_world.specs.World.{number_of, name_at}
use Rattle.type_rules.specs.declared.types.ElementType.{ElementType}
use Rattle.type_rules.specs.declared.types.ElementType.TheVariants as elements
use Rattle.type_rules.specs.declared.types.FieldType.{FieldType}
use Rattle.type_rules.specs.declared.types.VerificationType.{VerificationType}
use Rattle.type_rules.specs.declared.types.VerificationType.TheVariants as types

abbrev pub element_of : World → ElementType → descriptors.FieldType
element_of world elements.Byte = descriptors.byte_type
element_of world elements.Char = descriptors.char_type
element_of world elements.Double = descriptors.double_type
element_of world elements.Float = descriptors.float_type
element_of world elements.Int = descriptors.int_type
element_of world elements.Long = descriptors.long_type
element_of world elements.Short = descriptors.short_type
element_of world elements.Boolean = descriptors.boolean_type
element_of world (elements.Class class) = descriptors.class_type (name_at world class)

-- the letter that its descriptor begins with
abbrev pub letter_of : ElementType → ℕ
letter_of elements.Byte = 0x42
letter_of elements.Char = 0x43
letter_of elements.Double = 0x44
letter_of elements.Float = 0x46
letter_of elements.Int = 0x49
letter_of elements.Long = 0x4A
letter_of elements.Short = 0x53
letter_of elements.Boolean = 0x5A
letter_of (elements.Class class) = 0x4C

-- an array of so many dimensions
abbrev pub in_arrays : ℕ → descriptors.FieldType → descriptors.FieldType
in_arrays zero element = element
in_arrays (suc more) element = descriptors.array_of (in_arrays more element)

abbrev pub field_type_of : World → FieldType → descriptors.FieldType
field_type_of world type = in_arrays type.dimensions (element_of world type.element)

abbrev pub type_of : World → VerificationType → model.VerificationType
type_of world types.Top = model.top
type_of world types.Int = model.int
type_of world types.Long = model.long
type_of world types.Null = model.null
type_of world types.This = model.this
type_of world (types.New pc) = model.new_at pc
type_of world (types.Class class) = model.class (name_at world class)
type_of world (types.Array component) = model.array (field_type_of world component)

-- ---- classes that are there

-- it's the number of the class that its name finds
abbrev pub IsKnown : World → ClassNo → Type 0
IsKnown world class = number_of world (name_at world class) ≡ Some class

abbrev pub IsKnownElement : World → ElementType → Type 0
IsKnownElement world (elements.Class class) = IsKnown world class
IsKnownElement world other = Unit {0}

abbrev pub IsKnownType : World → VerificationType → Type 0
IsKnownType world (types.Class class) = IsKnown world class
IsKnownType world (types.Array component) = IsKnownElement world component.element
IsKnownType world other = Unit {0}

-- ---- arrays

abbrev pub names_object : descriptors.FieldType → Bool
names_object (descriptors.class_type name) = bytes_eq name java_object
names_object other = false
