-- The constant pool (JVMS 4.4): the tags of its entries, which are their kinds, and what an index names.
use Rattle.std.specs.Prelude.{ℕ, List, [], ◌∷◌, Bool, true, false, ◌||◌, ◌==◌, bytes_eq, slice_get, unwrap_or}
use Rattle.std.specs.List.{list_any}
use Rattle.jv_model.specs.ClassData.{Const, gap, utf8, integer, float, long, double, class, string, fieldref, methodref, interface_methodref, name_and_type, method_handle, method_type, invoke_dynamic}

-- ---- tags (JVMS table 4.4-A)

abbrev pub utf8_tag : ℕ
utf8_tag = 1

abbrev pub integer_tag : ℕ
integer_tag = 3

abbrev pub float_tag : ℕ
float_tag = 4

abbrev pub long_tag : ℕ
long_tag = 5

abbrev pub double_tag : ℕ
double_tag = 6

abbrev pub class_tag : ℕ
class_tag = 7

abbrev pub string_tag : ℕ
string_tag = 8

abbrev pub fieldref_tag : ℕ
fieldref_tag = 9

abbrev pub methodref_tag : ℕ
methodref_tag = 10

abbrev pub interface_methodref_tag : ℕ
interface_methodref_tag = 11

abbrev pub name_and_type_tag : ℕ
name_and_type_tag = 12

abbrev pub method_handle_tag : ℕ
method_handle_tag = 15

abbrev pub method_type_tag : ℕ
method_type_tag = 16

abbrev pub invoke_dynamic_tag : ℕ
invoke_dynamic_tag = 18

-- An entry's tag. A gap has none, and 0 is no entry's.
abbrev pub tag_of : Const → ℕ
tag_of gap = 0
tag_of (utf8 units) = utf8_tag
tag_of (integer value) = integer_tag
tag_of (float bits) = float_tag
tag_of (long value) = long_tag
tag_of (double bits) = double_tag
tag_of (class name) = class_tag
tag_of (string text) = string_tag
tag_of (fieldref owner pair) = fieldref_tag
tag_of (methodref owner pair) = methodref_tag
tag_of (interface_methodref owner pair) = interface_methodref_tag
tag_of (name_and_type name descriptor) = name_and_type_tag
tag_of (method_handle kind member) = method_handle_tag
tag_of (method_type descriptor) = method_type_tag
tag_of (invoke_dynamic method pair) = invoke_dynamic_tag

abbrev pub has_tag : Const → ℕ → Bool
has_tag constant tag = tag_of constant == tag

-- A Long or a Double takes the index behind it too, where a gap stands (JVMS 4.4.5).
abbrev pub is_wide : Const → Bool
is_wide constant = has_tag constant long_tag || has_tag constant double_tag

abbrev pub is_gap : Const → Bool
is_gap gap = true
is_gap other = false

-- ---- what an index names

-- the entry at an index, or a gap where none is
abbrev pub const_at : List Const → ℕ → Const
const_at pool index = unwrap_or (slice_get pool index) gap

-- an index names an entry with this tag, or with one of these
abbrev pub names : List Const → ℕ → ℕ → Bool
names pool tag index = has_tag (const_at pool index) tag

abbrev pub names_one_of : List Const → List ℕ → ℕ → Bool
names_one_of pool tags index = list_any (has_tag (const_at pool index)) tags

abbrev pub units_in : Const → List ℕ
units_in (utf8 units) = units
units_in other = []

-- the text at an index, where a Utf8 entry is there
abbrev pub units_at : List Const → ℕ → List ℕ
units_at pool index = units_in (const_at pool index)

-- an entry is this text
abbrev pub has_units : Const → List ℕ → Bool
has_units (utf8 units) text = bytes_eq units text
has_units other text = false

-- an index names this text
abbrev pub is_named : List Const → List ℕ → ℕ → Bool
is_named pool text index = has_units (const_at pool index) text
