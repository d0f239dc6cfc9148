-- The entries of the constant pool that an instruction may name (JVMS 4.9.1, 6.5).
use Rattle.std.specs.Prelude.{ℕ, List, [], ◌∷◌, Bool, if◌then◌else◌, nat_le}
use Rattle.std.specs.List.{list_any}
use Rattle.jv_model.specs.ClassData.{Const}
use Rattle.jv_model.specs.ConstantPool.{has_tag, integer_tag, float_tag, long_tag, double_tag, class_tag, string_tag, fieldref_tag, methodref_tag, interface_methodref_tag, method_handle_tag, method_type_tag, invoke_dynamic_tag}

-- What kind of entry an instruction needs.
pub data EntryKind : Type 0 where
  -- an Integer or a String
  a_loadable : EntryKind
  a_long : EntryKind
  a_field : EntryKind
  a_method : EntryKind
  -- a method of a class or, from major version 52 on, of an interface
  a_method_of_any : EntryKind
  a_method_of_interface : EntryKind
  a_class : EntryKind

-- the tags of the entries of that kind
abbrev pub tags_of_kind : ℕ → EntryKind → List ℕ
tags_of_kind major a_loadable = integer_tag ∷ string_tag ∷ []
tags_of_kind major a_long = long_tag ∷ []
tags_of_kind major a_field = fieldref_tag ∷ []
tags_of_kind major a_method = methodref_tag ∷ []
tags_of_kind major a_method_of_any =
    methodref_tag ∷ (if nat_le 52 major then interface_methodref_tag ∷ [] else [])
tags_of_kind major a_method_of_interface = interface_methodref_tag ∷ []
tags_of_kind major a_class = class_tag ∷ []

abbrev pub is_of_kind : ℕ → EntryKind → Const → Bool
is_of_kind major kind entry = list_any (has_tag entry) (tags_of_kind major kind)

-- the tags of entries that this machine doesn't use, whatever names them
abbrev pub unused_tags : List ℕ
unused_tags = float_tag ∷ double_tag ∷ method_handle_tag ∷ method_type_tag ∷ invoke_dynamic_tag ∷ []

-- nor does it push a class
abbrev pub unsupported_tags : EntryKind → List ℕ
unsupported_tags a_loadable = class_tag ∷ unused_tags
unsupported_tags other = unused_tags

abbrev pub is_unsupported : EntryKind → Const → Bool
is_unsupported kind entry = list_any (has_tag entry) (unsupported_tags kind)
