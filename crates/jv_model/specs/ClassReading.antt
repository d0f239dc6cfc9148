-- Reading a class file from its front (JVMS 4.1): what it says, or the first refusal and its place.
use Rattle.std.specs.Prelude.{ℕ, zero, suc, ◌+◌, ◌-◌, List, [], ◌∷◌, Bool, true, false, ◌&&◌, ◌||◌, not, if◌then◌else◌, ◌==◌, nat_le, Option, Some, None, Result, Ok, Err, length}
use Rattle.std.specs.Int.{w32, w64, cast_signed}
use Rattle.byteorder.specs.Endian.{big_number}
use Rattle.jv_model.specs.Fallible.{unless, where_true, ◌>>=◌}
use Rattle.jv_model.specs.Limits.{most_file_bytes}
use Rattle.jv_model.specs.Refusal.{Cause, wrong_magic, wrong_version, wrong_constant, wrong_text, wrong_attribute, extra_bytes, above_limit, whole_file}
use Rattle.jv_model.specs.ModifiedUtf8.{units_of}
use Rattle.jv_model.specs.ClassData.{Const, gap, utf8, integer, float, long, double, class, string, fieldref, methodref, interface_methodref, name_and_type, method_handle, method_type, invoke_dynamic, Attr, Member, ClassData}
use Rattle.jv_model.specs.ClassBytes.{magic_number}
use Rattle.jv_model.specs.ConstantPool.{utf8_tag, integer_tag, float_tag, long_tag, double_tag, class_tag, string_tag, fieldref_tag, methodref_tag, interface_methodref_tag, name_and_type_tag, method_handle_tag, method_type_tag, invoke_dynamic_tag, is_wide, names, names_one_of, units_at, is_named}
use Rattle.jv_model.specs.Profile.{names_right, value_tags, constant_value, code, has_code, is_version}
use Rattle.jv_model.specs.Input.{Input, whole_of, number_at, bytes_at, in_front}

-- ---- the constant pool (JVMS 4.4)

abbrev pub text_read : ℕ → Option (List ℕ) → Input → Result (Const × Input) Cause
text_read index (Some units) rest = Ok (utf8 units, rest)
text_read index None rest = Err (wrong_text index)

unfoldable pub utf8_at : ℕ → Input → Result (Const × Input) Cause
utf8_at index input = do
  count ← number_at 2 input
  bytes ← bytes_at count.0 count.1
  text_read index (units_of bytes.0) bytes.1

-- an entry of one number of so many bytes, and of two numbers
unfoldable pub single_at : ℕ → (ℕ → Const) → Input → Result (Const × Input) Cause
single_at width make input = do
  number ← number_at width input
  Ok (make number.0, number.1)

unfoldable pub pair_at : ℕ → (ℕ → ℕ → Const) → Input → Result (Const × Input) Cause
pair_at width make input = do
  first ← number_at width input
  second ← number_at 2 first.1
  Ok (make first.0 second.0, second.1)

-- an entry behind its tag, at that index
abbrev pub tagged_at : ℕ → ℕ → Input → Result (Const × Input) Cause
tagged_at index tag input =
    if tag == utf8_tag then utf8_at index input
    else if tag == integer_tag then single_at 4 (λ bits. integer (cast_signed w32 bits)) input
    else if tag == float_tag then single_at 4 float input
    else if tag == long_tag then single_at 8 (λ bits. long (cast_signed w64 bits)) input
    else if tag == double_tag then single_at 8 double input
    else if tag == class_tag then single_at 2 class input
    else if tag == string_tag then single_at 2 string input
    else if tag == fieldref_tag then pair_at 2 fieldref input
    else if tag == methodref_tag then pair_at 2 methodref input
    else if tag == interface_methodref_tag then pair_at 2 interface_methodref input
    else if tag == name_and_type_tag then pair_at 2 name_and_type input
    else if tag == method_handle_tag then pair_at 1 method_handle input
    else if tag == method_type_tag then single_at 2 method_type input
    else if tag == invoke_dynamic_tag then pair_at 2 invoke_dynamic input
    else Err (wrong_constant index)

-- An entry at that index. The last index has no room for a Long or a Double.
unfoldable pub constant_at : ℕ → Bool → Input → Result (Const × Input) Cause
constant_at index is_last input = do
  tag ← number_at 1 input
  if is_last && ((tag.0 == long_tag) || (tag.0 == double_tag)) then Err (wrong_constant index) else tagged_at index tag.0 tag.1

-- The entries from that index on, where so many indices are left.
unfoldable pub entries_at : ℕ → ℕ → Input → Result (List Const × Input) Cause
entries_at index zero input = Ok ([], input)
entries_at index (suc zero) input = constant_at index true input >>= λ last. Ok (last.0 ∷ [], last.1)
entries_at index (suc (suc left)) input =
    constant_at index false input >>= λ first.
    if is_wide first.0 then in_front (first.0 ∷ gap ∷ []) (entries_at (index + 2) left first.1)
    else in_front (first.0 ∷ []) (entries_at (index + 1) (suc left) first.1)

-- what is wrong with the first entry, from that index on, that names entries of wrong kinds
abbrev pub first_wrong : ℕ → List Const → ℕ → List Const → Option Cause
first_wrong major pool index [] = None
first_wrong major pool index (constant ∷ others) =
    if names_right major pool constant then first_wrong major pool (index + 1) others else Some (wrong_constant index)

-- the count is one more than there are indices, of which the first is 1; what an entry names is looked at once all
-- are read
unfoldable pub pool_at : ℕ → Input → Result (List Const × Input) Cause
pool_at major input = do
  count ← number_at 2 input
  entries ← entries_at 1 (count.0 - 1) count.1
  unless (first_wrong major (gap ∷ entries.0) 0 (gap ∷ entries.0)) (gap ∷ entries.0, entries.1)

-- ---- indices of the pool

-- an index that names an entry with that tag
unfoldable pub index_at : List Const → ℕ → Input → Result (ℕ × Input) Cause
index_at pool tag input = do
  index ← number_at 2 input
  where_true (names pool tag index.0) (wrong_constant index.0) index

unfoldable pub classes_at : List Const → ℕ → Input → Result (List ℕ × Input) Cause
classes_at pool zero input = Ok ([], input)
classes_at pool (suc count) input = do
  first ← index_at pool class_tag input
  others ← classes_at pool count first.1
  Ok (first.0 ∷ others.0, others.1)

-- ---- attributes (JVMS 4.7)

-- What has the attributes that are read.
pub data Owner : Type 0 where
  the_class : Owner
  -- a field: the index of its descriptor, and whether a constant value may still come
  the_field : ℕ → Bool → Owner
  -- a method: the place of its flags, and whether its code is still to come
  the_method : ℕ → Bool → Owner

-- what is wrong with an attribute of that name, which begins at that place
abbrev pub name_fault : List Const → Owner → ℕ → ℕ → Option Cause
name_fault pool the_class name place = None
name_fault pool (the_field descriptor may_come) name place =
    if is_named pool constant_value name && not may_come then Some (wrong_attribute place) else None
name_fault pool (the_method flags is_due) name place =
    if is_named pool code name && not is_due then Some (wrong_attribute flags) else None

-- what is wrong with its length
abbrev pub length_fault : List Const → Owner → ℕ → ℕ → ℕ → Option Cause
length_fault pool (the_field descriptor may_come) name place count =
    if is_named pool constant_value name && not (count == 2) then Some (wrong_attribute place) else None
length_fault pool other name place count = None

-- what is wrong with its bytes
abbrev pub contents_fault : List Const → Owner → ℕ → List ℕ → Option Cause
contents_fault pool (the_field descriptor may_come) name bytes =
    if is_named pool constant_value name
    && not (names_one_of pool (value_tags (units_at pool descriptor)) (big_number 2 bytes))
    then Some (wrong_constant (big_number 2 bytes)) else None
contents_fault pool other name bytes = None

-- the owner behind an attribute of that name
abbrev pub owner_behind : List Const → Owner → ℕ → Owner
owner_behind pool the_class name = the_class
owner_behind pool (the_field descriptor may_come) name =
    the_field descriptor (may_come && not (is_named pool constant_value name))
owner_behind pool (the_method flags is_due) name = the_method flags (is_due && not (is_named pool code name))

unfoldable pub attribute_at : List Const → Owner → Input → Result (Attr × Input) Cause
attribute_at pool owner input = do
  name ← index_at pool utf8_tag input
  named ← unless (name_fault pool owner name.0 input.at) name
  count ← number_at 4 named.1
  counted ← unless (length_fault pool owner name.0 input.at count.0) count
  bytes ← bytes_at counted.0 counted.1
  unless (contents_fault pool owner name.0 bytes.0) (record { name = name.0; bytes = bytes.0 }, bytes.1)

-- behind the last attribute, a code that is still to come is missing
abbrev pub missing_fault : Owner → Option Cause
missing_fault (the_method flags true) = Some (wrong_attribute flags)
missing_fault other = None

-- so many attributes
unfoldable pub attributes_at : List Const → Owner → ℕ → Input → Result (List Attr × Input) Cause
attributes_at pool owner zero input = unless (missing_fault owner) ([], input)
attributes_at pool owner (suc count) input = do
  first ← attribute_at pool owner input
  others ← attributes_at pool (owner_behind pool owner first.0.name) count first.1
  Ok (first.0 ∷ others.0, others.1)

-- ---- fields and methods (JVMS 4.5, 4.6)

pub data MemberKind : Type 0 where
  field : MemberKind
  method : MemberKind

-- a member whose flags stand at that place
abbrev pub owner_of : MemberKind → ℕ → ℕ → ℕ → Owner
owner_of field place flags descriptor = the_field descriptor true
owner_of method place flags descriptor = the_method place (has_code flags)

unfoldable pub member_at : List Const → MemberKind → Input → Result (Member × Input) Cause
member_at pool kind input = do
  flags ← number_at 2 input
  name ← index_at pool utf8_tag flags.1
  descriptor ← index_at pool utf8_tag name.1
  count ← number_at 2 descriptor.1
  attributes ← attributes_at pool (owner_of kind input.at flags.0 descriptor.0) count.0 count.1
  Ok (record { flags = flags.0; name = name.0; descriptor = descriptor.0; attributes = attributes.0 }, attributes.1)

unfoldable pub members_at : List Const → MemberKind → ℕ → Input → Result (List Member × Input) Cause
members_at pool kind zero input = Ok ([], input)
members_at pool kind (suc count) input = do
  first ← member_at pool kind input
  others ← members_at pool kind count first.1
  Ok (first.0 ∷ others.0, others.1)

-- ---- the class file

-- the magic number, the minor version and the major version
unfoldable pub versions_at : Input → Result ((ℕ × ℕ) × Input) Cause
versions_at input = do
  magic ← number_at 4 input
  begun ← where_true (magic.0 == magic_number) wrong_magic magic.1
  minor ← number_at 2 begun
  major ← number_at 2 minor.1
  where_true (is_version major.0) (wrong_version major.0) ((minor.0, major.0), major.1)

-- what stands behind the pool
unfoldable pub class_body_at : ℕ → ℕ → List Const → Input → Result (ClassData × Input) Cause
class_body_at minor major pool input = do
  flags ← number_at 2 input
  this ← index_at pool class_tag flags.1
  super ← index_at pool class_tag this.1
  interface_count ← number_at 2 super.1
  interfaces ← classes_at pool interface_count.0 interface_count.1
  field_count ← number_at 2 interfaces.1
  fields ← members_at pool field field_count.0 field_count.1
  method_count ← number_at 2 fields.1
  methods ← members_at pool method method_count.0 method_count.1
  attribute_count ← number_at 2 methods.1
  attributes ← attributes_at pool the_class attribute_count.0 attribute_count.1
  Ok (
    record {
      minor = minor;
      major = major;
      pool = pool;
      flags = flags.0;
      this_class = this.0;
      super_class = super.0;
      interfaces = interfaces.0;
      fields = fields.0;
      methods = methods.0;
      attributes = attributes.0;
    },
    attributes.1,
  )

unfoldable pub class_at : Input → Result (ClassData × Input) Cause
class_at input = do
  versions ← versions_at input
  pool ← pool_at versions.0.1 versions.1
  class_body_at versions.0.0 versions.0.1 pool.0 pool.1

-- What the bytes of a class file say, all of them, or the first refusal. The limit comes before all others.
unfoldable pub class_of : List ℕ → Result ClassData Cause
class_of bytes = do
  file ← where_true (nat_le (length bytes) most_file_bytes) (above_limit whole_file (length bytes)) (whole_of bytes)
  read ← class_at file
  where_true (length read.1.bytes == 0) (extra_bytes read.1.at) read.0
