-- Which class data are those of a class file of Java SE 7 or 8 (JVMS 4.1, 4.4 to 4.7): they are in the profile, and
-- no list of theirs is longer than its count can say.
use Rattle.std.specs.Prelude.{◌≡◌, IsFalse, ℕ, ◌^◌, ◌<◌, ◌≤◌, List, [], ◌∷◌, Bool, true, false, ◌&&◌, ◌||◌, not, if◌then◌else◌, ◌==◌, nat_le, None, IsTrue, length, codes, bytes_eq, count_by, FitsSigned, bit_and}
use Rattle.std.specs.Int.{w32, w64}
use Rattle.std.specs.List.{AllByRecursion, list_all}
use Rattle.byteorder.specs.Endian.{big_number}
use Rattle.jv_model.specs.ModifiedUtf8.{text_bytes, SpellsText}
use Rattle.jv_model.specs.ClassData.{Const, gap, utf8, integer, float, long, double, class, string, fieldref, methodref, interface_methodref, name_and_type, method_handle, method_type, invoke_dynamic, Attr, Member, ClassData}
use Rattle.jv_model.specs.ConstantPool.{utf8_tag, integer_tag, float_tag, long_tag, double_tag, class_tag, string_tag, fieldref_tag, methodref_tag, interface_methodref_tag, name_and_type_tag, is_wide, is_gap, names, names_one_of, units_at, is_named}
use Rattle.jv_model.specs.ClassBytes.{class_bytes}
use Rattle.jv_model.specs.ClassLimits.{first_limit}

-- ---- numbers

abbrev pub IsU1 : ℕ → Type 0
IsU1 n = n < 2 ^ 8

abbrev pub IsU2 : ℕ → Type 0
IsU2 n = n < 2 ^ 16

abbrev pub IsU4 : ℕ → Type 0
IsU4 n = n < 2 ^ 32

-- ---- the constant pool

-- What a method handle of a kind may be of (JVMS 4.4.8): 1 to 4 are of fields, 5 and 8 of methods, 6 and 7 of methods
-- and, from major version 52 on, of those of interfaces, 9 of those of interfaces.
abbrev pub handle_tags : ℕ → ℕ → List ℕ
handle_tags major kind =
    if nat_le 1 kind && nat_le kind 4 then fieldref_tag ∷ []
    else if (kind == 5) || (kind == 8) then methodref_tag ∷ []
    else if (kind == 6) || (kind == 7)
    then methodref_tag ∷ (if nat_le 52 major then interface_methodref_tag ∷ [] else [])
    else if kind == 9 then interface_methodref_tag ∷ [] else []

-- an entry names entries of the kinds that it needs
abbrev pub names_right : ℕ → List Const → Const → Bool
names_right major pool gap = true
names_right major pool (utf8 units) = true
names_right major pool (integer value) = true
names_right major pool (float bits) = true
names_right major pool (long value) = true
names_right major pool (double bits) = true
names_right major pool (class name) = names pool utf8_tag name
names_right major pool (string text) = names pool utf8_tag text
names_right major pool (fieldref owner pair) = names pool class_tag owner && names pool name_and_type_tag pair
names_right major pool (methodref owner pair) = names pool class_tag owner && names pool name_and_type_tag pair
names_right major pool (interface_methodref owner pair) =
    names pool class_tag owner && names pool name_and_type_tag pair
names_right major pool (name_and_type name descriptor) = names pool utf8_tag name && names pool utf8_tag descriptor
names_right major pool (method_handle kind member) = names_one_of pool (handle_tags major kind) member
names_right major pool (method_type descriptor) = names pool utf8_tag descriptor
names_right major pool (invoke_dynamic method pair) = names pool name_and_type_tag pair

-- the numbers and texts of an entry fit the file
abbrev pub FitsConst : Const → Type 0
FitsConst gap = Unit {0}
FitsConst (utf8 units) = SpellsText (text_bytes units) units
FitsConst (integer value) = FitsSigned w32 value
FitsConst (float bits) = IsU4 bits
FitsConst (long value) = FitsSigned w64 value
FitsConst (double bits) = bits < 2 ^ 64
FitsConst (class name) = IsU2 name
FitsConst (string text) = IsU2 text
FitsConst (fieldref owner pair) = IsU2 owner × IsU2 pair
FitsConst (methodref owner pair) = IsU2 owner × IsU2 pair
FitsConst (interface_methodref owner pair) = IsU2 owner × IsU2 pair
FitsConst (name_and_type name descriptor) = IsU2 name × IsU2 descriptor
FitsConst (method_handle kind member) = IsU1 kind × IsU2 member
FitsConst (method_type descriptor) = IsU2 descriptor
FitsConst (invoke_dynamic method pair) = IsU2 method × IsU2 pair

-- behind index 0: each wide entry, and nothing else, has a gap behind it
abbrev pub HasGaps : List Const → Type 0
HasGaps [] = Unit {0}
HasGaps (long value ∷ gap ∷ others) = HasGaps others
HasGaps (double bits ∷ gap ∷ others) = HasGaps others
HasGaps (constant ∷ others) = IsFalse (is_wide constant || is_gap constant) × HasGaps others

-- the pool begins with the gap at index 0
abbrev pub BeginsWithGap : List Const → Type 0
BeginsWithGap (gap ∷ entries) = HasGaps entries × AllByRecursion FitsConst entries
BeginsWithGap other = ⊥

pub record IsPool (major : ℕ) (pool : List Const) : Type 0 where
  pub entries : BeginsWithGap pool
  pub names_right : IsTrue (list_all (names_right major pool) pool)

-- ---- attributes and members

-- its bytes are no list with a count of two bytes, so what it says of their number stands here
pub record IsAttr (pool : List Const) (attribute : Attr) : Type 0 where
  pub name : IsU2 attribute.name × IsTrue (names pool utf8_tag attribute.name)
  pub bytes : IsU4 (length attribute.bytes) × AllByRecursion IsU1 attribute.bytes

-- what a field with this descriptor may have as its constant (JVMS 4.7.2); other descriptors have none
abbrev pub value_tags : List ℕ → List ℕ
value_tags descriptor =
    if bytes_eq descriptor (codes "Z") || bytes_eq descriptor (codes "B") || bytes_eq descriptor (codes "C")
    || bytes_eq descriptor (codes "S") || bytes_eq descriptor (codes "I")
    then integer_tag ∷ []
    else if bytes_eq descriptor (codes "J") then long_tag ∷ []
    else if bytes_eq descriptor (codes "F") then float_tag ∷ []
    else if bytes_eq descriptor (codes "D") then double_tag ∷ []
    else if bytes_eq descriptor (codes "Ljava/lang/String;") then string_tag ∷ []
    else []

abbrev pub constant_value : List ℕ
constant_value = codes "ConstantValue"

abbrev pub code : List ℕ
code = codes "Code"

-- An attribute of a field that is its constant value has two bytes, the index of the constant.
abbrev pub is_value_right : List Const → ℕ → Attr → Bool
is_value_right pool descriptor attribute =
    not (is_named pool constant_value attribute.name)
    || ((length attribute.bytes == 2)
    && names_one_of pool (value_tags (units_at pool descriptor)) (big_number 2 attribute.bytes))

abbrev pub count_named : List Const → List ℕ → List Attr → ℕ
count_named pool text attributes = count_by (λ attribute. is_named pool text attribute.name) attributes

pub record IsMember (pool : List Const) (member : Member) : Type 0 where
  pub flags : IsU2 member.flags
  pub name : IsU2 member.name × IsTrue (names pool utf8_tag member.name)
  pub descriptor : IsU2 member.descriptor × IsTrue (names pool utf8_tag member.descriptor)
  pub attributes : AllByRecursion (IsAttr pool) member.attributes

-- a field has one constant value at the most
pub record IsField (pool : List Const) (field : Member) : Type 0 where
  pub member : IsMember pool field
  pub values : IsTrue (list_all (is_value_right pool field.descriptor) field.attributes)
  pub at_most_one : count_named pool constant_value field.attributes ≤ 1

-- a method that is native (0x100) or abstract (0x400) has no code, and any other has one
abbrev pub has_code : ℕ → Bool
has_code flags = (bit_and flags 0x100 == 0) && (bit_and flags 0x400 == 0)

pub record IsMethod (pool : List Const) (method : Member) : Type 0 where
  pub member : IsMember pool method
  pub one_code : count_named pool code method.attributes ≡ (if has_code method.flags then 1 else 0)

-- ---- the class file

abbrev pub IsClassIndex : List Const → ℕ → Type 0
IsClassIndex pool index = IsU2 index × IsTrue (names pool class_tag index)

-- the major versions of Java SE 7 and 8
abbrev pub is_version : ℕ → Bool
is_version major = (major == 51) || (major == 52)

-- kinds, gaps, numbers, and the rules on attributes
pub record IsInProfile (file : ClassData) : Type 0 where
  pub minor : IsU2 file.minor
  pub major : IsTrue (is_version file.major)
  pub pool : IsPool file.major file.pool
  pub flags : IsU2 file.flags
  pub this_class : IsClassIndex file.pool file.this_class
  pub super_class : IsClassIndex file.pool file.super_class
  pub interfaces : AllByRecursion (IsClassIndex file.pool) file.interfaces
  pub fields : AllByRecursion (IsField file.pool) file.fields
  pub methods : AllByRecursion (IsMethod file.pool) file.methods
  pub attributes : AllByRecursion (IsAttr file.pool) file.attributes

-- no list is longer than its count can say
abbrev pub IsCounted : ClassData → Type 0
IsCounted file = first_limit file ≡ None

pub record IsClassFile (file : ClassData) : Type 0 where
  pub in_profile : IsInProfile file
  pub counted : IsCounted file

-- the bytes are those of the class file, which is one
pub record SpellsClass (bytes : List ℕ) (file : ClassData) : Type 0 where
  pub is_class_file : IsClassFile file
  pub spelled : bytes ≡ class_bytes file
