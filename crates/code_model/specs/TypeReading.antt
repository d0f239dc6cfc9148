-- Descriptors as texts (JVMS 4.2.1, 4.3.2, 4.3.3).
use Rattle.std.specs.Prelude.{ℕ, zero, suc, ◌+◌, List, [], ◌∷◌, ◌++◌, Bool, true, false, ◌&&◌, ◌||◌, not, if◌then◌else◌, ◌==◌, nat_le, Option, Some, None, bytes_eq, codes, option_map, sum, map}
use Rattle.std.specs.List.{flat_map}
use Rattle.jv_model.specs.Partial.{◌>>=◌}
use Rattle.jv_model.specs.Descriptors.{FieldType, byte_type, char_type, double_type, float_type, int_type, long_type, short_type, boolean_type, class_type, array_of, MethodType}

-- ---- names of classes (JVMS 4.2.1)

-- a unit that stands in a part of a name: none of . ; [
abbrev pub is_part_unit : ℕ → Bool
is_part_unit unit = not ((unit == 0x2E) || (unit == 0x3B) || (unit == 0x5B))

-- Parts with / between them, none of them empty; the first has a unit in front already, or not.
unfoldable pub are_parts : Bool → List ℕ → Bool
are_parts begun [] = begun
are_parts begun (unit ∷ units) =
    if unit == 0x2F then begun && are_parts false units
    else is_part_unit unit && are_parts true units

abbrev pub is_class_name : List ℕ → Bool
is_class_name name = are_parts false name

-- ---- from texts to types

-- what was read from the front of a text, and what is left
abbrev pub Front : Type 0 → Type 0
Front A = Option (A × List ℕ)

-- the units before the first ; and those behind it
unfoldable pub before_semicolon : List ℕ → Front (List ℕ)
before_semicolon [] = None
before_semicolon (unit ∷ units) =
    if unit == 0x3B then Some ([], units)
    else before_semicolon units >>= λ others. Some (unit ∷ others.0, others.1)

abbrev pub class_type_at : List ℕ → Front FieldType
class_type_at units =
    before_semicolon units >>= λ name.
    if is_class_name name.0 then Some (class_type name.0, name.1) else None

-- the types of one letter: B C D F I J S Z
abbrev pub base_type : ℕ → Option FieldType
base_type unit =
    if unit == 0x42 then Some byte_type
    else if unit == 0x43 then Some char_type
    else if unit == 0x44 then Some double_type
    else if unit == 0x46 then Some float_type
    else if unit == 0x49 then Some int_type
    else if unit == 0x4A then Some long_type
    else if unit == 0x53 then Some short_type
    else if unit == 0x5A then Some boolean_type
    else None

-- FieldType: a base type, L and a class name and ;, or [ and a type
unfoldable pub type_at : List ℕ → Front FieldType
type_at [] = None
type_at (unit ∷ units) =
    if unit == 0x5B then (type_at units >>= λ component. Some (array_of component.0, component.1))
    else if unit == 0x4C then class_type_at units
    else base_type unit >>= λ base. Some (base, units)

unfoldable pub dimensions : FieldType → ℕ
dimensions (array_of component) = dimensions component + 1
dimensions other = 0

abbrev pub most_dimensions : ℕ
most_dimensions = 255

-- a type of at most 255 dimensions
abbrev pub field_type_at : List ℕ → Front FieldType
field_type_at units =
    type_at units >>= λ type.
    if nat_le (dimensions type.0) most_dimensions then Some type else None

-- the whole text is read
abbrev pub whole : {A : Type 0} → Front A → Option A
whole (Some (x, [])) = Some x
whole other = None

-- the type of a field descriptor, where it is well formed
abbrev pub field_type_of : List ℕ → Option FieldType
field_type_of units = whole (field_type_at units)

-- the words that a value of a type takes (JVMS 2.6.1, 2.6.2)
abbrev pub words_of_type : FieldType → ℕ
words_of_type long_type = 2
words_of_type double_type = 2
words_of_type other = 1

-- of all parameters, without `this`
abbrev pub parameter_words : MethodType → ℕ
parameter_words type = sum (map words_of_type type.parameters)

abbrev pub most_parameter_words : ℕ
most_parameter_words = 255

-- ParameterDescriptors up to ), at most so many
unfoldable pub parameters_within : ℕ → List ℕ → Front (List FieldType)
parameters_within most [] = None
parameters_within zero (unit ∷ units) = if unit == 0x29 then Some ([], units) else None
parameters_within (suc most) (unit ∷ units) =
    if unit == 0x29 then Some ([], units)
    else do
      first ← field_type_at (unit ∷ units)
      others ← parameters_within most first.1
      Some (first.0 ∷ others.0, others.1)

-- ReturnDescriptor: V or a type
abbrev pub result_of : List ℕ → Option (Option FieldType)
result_of units =
    if bytes_eq units (codes "V") then Some None else option_map Some (field_type_of units)

-- the type of a method descriptor, where it is well formed
abbrev pub method_type_of : List ℕ → Option MethodType
method_type_of [] = None
method_type_of (unit ∷ units) = if unit == 0x28 then (do
  parameters ← parameters_within most_parameter_words units
  result ← result_of parameters.1
  type ← Some (record { parameters = parameters.0; result = result })
  if nat_le (parameter_words type) most_parameter_words then Some type else None) else None

-- ---- from types to texts

-- the descriptor of a type
unfoldable pub descriptor_of : FieldType → List ℕ
descriptor_of byte_type = codes "B"
descriptor_of char_type = codes "C"
descriptor_of double_type = codes "D"
descriptor_of float_type = codes "F"
descriptor_of int_type = codes "I"
descriptor_of long_type = codes "J"
descriptor_of short_type = codes "S"
descriptor_of boolean_type = codes "Z"
descriptor_of (class_type name) = codes "L" ++ name ++ codes ";"
descriptor_of (array_of component) = codes "[" ++ descriptor_of component

-- V where a method gives nothing
abbrev pub result_descriptor : Option FieldType → List ℕ
result_descriptor None = codes "V"
result_descriptor (Some type) = descriptor_of type

abbrev pub method_descriptor_of : MethodType → List ℕ
method_descriptor_of type =
    codes "(" ++ (flat_map descriptor_of type.parameters
    ++ (codes ")" ++ result_descriptor type.result))
