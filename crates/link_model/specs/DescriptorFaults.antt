-- Which descriptors and array types that a class uses are ill formed, or of types that this machine hasn't (JVMS 4.3).
use Rattle.std.specs.Prelude.{ℕ, List, [], ◌∷◌, Bool, true, false, ◌&&◌, ◌||◌, not, if◌then◌else◌, Option, option_map, option_to_list, flat_map}
use Rattle.std.specs.List.{list_all}
use Rattle.jv_model.specs.Partial.{passes, least}
use Rattle.jv_model.specs.Refusal.{Cause, wrong_descriptor}
use Rattle.jv_model.specs.ClassData.{Const}
use Rattle.jv_model.specs.ConstantPool.{const_at, units_at}
use Rattle.jv_model.specs.Descriptors.{FieldType, double_type, float_type, array_of, MethodType}
use Rattle.jv_model.specs.Operand.{is_array_name}
use Rattle.jv_model.specs.LoadedClass.{LoadedClass}
use Rattle.code_model.specs.TypeReading.{field_type_of, method_type_of}
use Rattle.link_model.specs.WorldOf.{name_of}
use Rattle.link_model.specs.Uses.{Use, as_field_descriptor, as_method_descriptor, as_field, as_method, Used, name_index, uses_of}

-- neither float nor double, nor an array of them
unfoldable pub is_supported : FieldType → Bool
is_supported float_type = false
is_supported double_type = false
is_supported (array_of component) = is_supported component
is_supported other = true

abbrev pub are_supported : MethodType → Bool
are_supported type = list_all is_supported type.parameters && list_all is_supported (option_to_list type.result)

abbrev pub is_field_descriptor : List ℕ → Bool
is_field_descriptor text = passes is_supported (field_type_of text)

abbrev pub is_method_descriptor : List ℕ → Bool
is_method_descriptor text = passes are_supported (method_type_of text)

abbrev pub is_type_name : List ℕ → Bool
is_type_name name = not (is_array_name name) || is_field_descriptor name

-- the index, unless the text there passes
abbrev pub unless_text : (List ℕ → Bool) → List Const → ℕ → List ℕ
unless_text test pool index = if test (units_at pool index) then [] else index ∷ []

-- The index of the wrong text of a used entry, where it has one. The class of a member reference isn't looked at.
abbrev pub wrong_text_of : List Const → ℕ → Use → List ℕ
wrong_text_of pool index as_field_descriptor = unless_text is_field_descriptor pool index
wrong_text_of pool index as_method_descriptor = unless_text is_method_descriptor pool index
wrong_text_of pool index (as_field is_static) = []
wrong_text_of pool index (as_method is_static) = []
wrong_text_of pool index other = unless_text is_type_name pool (name_index (const_at pool index))

abbrev pub wrong_texts : LoadedClass → List ℕ
wrong_texts loaded = flat_map (λ (u : Used). wrong_text_of loaded.file.pool u.index u.use_as) (uses_of loaded)

abbrev pub descriptor_fault : LoadedClass → Option Cause
descriptor_fault loaded = option_map (wrong_descriptor (name_of loaded)) (least (wrong_texts loaded))
