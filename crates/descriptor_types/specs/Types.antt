-- Which types of the definitions these types are, and what is read from the front of a text.
use Rattle.std.specs.Prelude.{ℕ, zero, suc, List, [], ◌∷◌, Bool, false, ◌==◌, Option, option_map, map}
use Rattle.std.specs.Borrow.{Bor}
use Rattle.jv_model.specs.Descriptors as model
use Rattle.code_model.specs.TypeReading.{Front}
use Rattle.descriptor_types.specs.declared.types.ElementType.{ElementType}
use Rattle.descriptor_types.specs.declared.types.ElementType.TheVariants.{Byte, Char, Double, Float, Int, Long, Short, Boolean, Class}
use Rattle.descriptor_types.specs.declared.types.FieldType.{FieldType}
use Rattle.descriptor_types.specs.declared.types.MethodType.{MethodType}

abbrev pub element_of : ElementType → model.FieldType
element_of Byte = model.byte_type
element_of Char = model.char_type
element_of Double = model.double_type
element_of Float = model.float_type
element_of Int = model.int_type
element_of Long = model.long_type
element_of Short = model.short_type
element_of Boolean = model.boolean_type
element_of (Class name) = model.class_type name.now

-- an array of so many dimensions more
abbrev pub nested : ℕ → model.FieldType → model.FieldType
nested zero type = type
nested (suc dimensions) type = nested dimensions (model.array_of type)

abbrev pub field_type_of : FieldType → model.FieldType
field_type_of type = nested type.dimensions (element_of type.element)

abbrev pub field_types_of : List FieldType → List model.FieldType
field_types_of types = map field_type_of types

abbrev pub method_type_of : MethodType → model.MethodType
method_type_of type = record {
  parameters = field_types_of type.parameters.items;
  result = option_map field_type_of type.result;
}

-- a unit stands first
abbrev pub is_there : ℕ → List ℕ → Bool
is_there unit [] = false
is_there unit (first ∷ others) = first == unit

-- a type behind so many brackets
abbrev pub arrays : ℕ → Front model.FieldType → Front model.FieldType
arrays dimensions front = option_map (λ read. (nested dimensions read.0, read.1)) front

-- these types, where there are units behind them
abbrev pub behind_types : List FieldType → Option (Bor (List ℕ)) → Front (List model.FieldType)
behind_types types behind = option_map (λ (rest : Bor (List ℕ)). (field_types_of types, rest.now)) behind
