-- Entries of a constant pool (JVMS 4.4), with names in place of indices.
use Rattle.std.specs.Prelude.{ℕ, ℤ, List, [], ◌∷◌, Bool, true, false, ◌&&◌, int_le, bytes_eq}
use Rattle.jv_model.specs.Operand.{MemberReference}
use Rattle.assembler_model.specs.AssemblerTerms.{ReferenceKind, to_field, to_method, to_interface_method}

-- An entry, with names in place of indices.
pub data Entry : Type 0 where
  text_entry : List ℕ → Entry
  int_entry : ℤ → Entry
  long_entry : ℤ → Entry
  class_entry : List ℕ → Entry
  string_entry : List ℕ → Entry
  name_and_type_entry : List ℕ → List ℕ → Entry
  member_entry : ReferenceKind → MemberReference → Entry

-- two numbers are equal
abbrev pub same_int : ℤ → ℤ → Bool
same_int a b = int_le a b && int_le b a

-- two kinds are equal
abbrev pub same_kind : ReferenceKind → ReferenceKind → Bool
same_kind to_field to_field = true
same_kind to_method to_method = true
same_kind to_interface_method to_interface_method = true
same_kind a b = false

-- two references are equal
abbrev pub same_reference : MemberReference → MemberReference → Bool
same_reference a b = bytes_eq a.class b.class && bytes_eq a.name b.name && bytes_eq a.descriptor b.descriptor

-- two entries are equal
unfoldable pub same_entry : Entry → Entry → Bool
same_entry (text_entry a) (text_entry b) = bytes_eq a b
same_entry (int_entry a) (int_entry b) = same_int a b
same_entry (long_entry a) (long_entry b) = same_int a b
same_entry (class_entry a) (class_entry b) = bytes_eq a b
same_entry (string_entry a) (string_entry b) = bytes_eq a b
same_entry (name_and_type_entry a b) (name_and_type_entry c d) = bytes_eq a c && bytes_eq b d
same_entry (member_entry a b) (member_entry c d) = same_kind a c && same_reference b d
same_entry a b = false

-- an entry behind its parts
unfoldable pub with_parts : Entry → List Entry
with_parts (class_entry name) = text_entry name ∷ class_entry name ∷ []
with_parts (string_entry text) = text_entry text ∷ string_entry text ∷ []
with_parts (name_and_type_entry name descriptor) =
    text_entry name ∷ text_entry descriptor ∷ name_and_type_entry name descriptor ∷ []
with_parts (member_entry kind reference) =
    text_entry reference.class ∷ class_entry reference.class ∷ text_entry reference.name
    ∷ text_entry reference.descriptor
    ∷ name_and_type_entry reference.name reference.descriptor ∷ member_entry kind reference ∷ []
with_parts entry = entry ∷ []
