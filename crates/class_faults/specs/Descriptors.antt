-- Which texts are wrong, and the lesser of two indices.
use Rattle.std.specs.Prelude.{ℕ, List, Bool, Option, Some, None, min}
use Rattle.jv_model.specs.ClassData.{Const}
use Rattle.link_model.specs.DescriptorFaults.{is_field_descriptor, is_method_descriptor, is_type_name, unless_text}
use Rattle.class_faults.specs.declared.descriptors.Form.{Form}
use Rattle.class_faults.specs.declared.descriptors.Form.TheVariants.{FieldType, MethodType, TypeName}
use Rattle.class_faults.specs.declared.descriptors.TextUse.{TextUse}

abbrev pub spells : Form → List ℕ → Bool
spells FieldType text = is_field_descriptor text
spells MethodType text = is_method_descriptor text
spells TypeName text = is_type_name text

-- the index of a text, unless it spells what it has to
abbrev pub wrong_text : List Const → TextUse → List ℕ
wrong_text pool text = unless_text (spells text.form) pool text.index

abbrev pub lesser : Option ℕ → Option ℕ → Option ℕ
lesser None other = other
lesser (Some n) None = Some n
lesser (Some n) (Some m) = Some (min n m)
