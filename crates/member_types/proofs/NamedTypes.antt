-- The types that the names in Class entries stand for.
use Rattle.std.proofs.Common.{◌≡◌, ℕ, Bool, true, false, leb, List, [], ◌∷◌, Option, Some, None, if◌then◌else◌, ap, sym, ◌∙◌, refl, arith}
use Rattle.jv_model.specs.Partial.{◌>>=◌, passes}
use Rattle.jv_model.specs.Descriptors.{FieldType, byte_type, char_type, double_type, float_type, int_type, long_type, short_type, boolean_type, class_type, array_of}
use Rattle.jv_model.specs.Operand.{Operand, class_named, member_named, int_constant, long_constant, string_constant, is_array_name}
use Rattle.code_model.specs.TypeReading.{Front, type_at, dimensions, field_type_at, whole, field_type_of}
use Rattle.world_model.specs.World.{World, Class}
use Rattle.link_model.specs.UseFaults.{is_class_where, is_type_there, names_type}
use Rattle.typing_model.specs.VerificationType.{TypeFrame}
use Rattle.typing_model.specs.Environment.{class_of, named_type, array_or_class}
use Rattle.method_descriptors.specs.Parameters.{is_there}
use Rattle.numbered_types.proofs.Descriptors.{no_dimensions, pair_parts}
use Rattle.linked_laws.specs.Operands.{ClassIsLinked}

pub linked-class : (world : World) (operand : Operand) (name : List ℕ) → class_of operand ≡ Some name → ClassIsLinked world operand
    → names_type world (λ (class : Class). true) name ≡ true
linked-class world (class_named n) name is linked =
    let same : n ≡ name = cc in ap (names_type world (λ (class : Class). true)) (sym same) ∙ linked
linked-class world (member_named member) name is linked = absurd cc
linked-class world (int_constant number) name is linked = absurd cc
linked-class world (long_constant number) name is linked = absurd cc
linked-class world (string_constant text) name is linked = absurd cc

module _ (world : World) (name : List ℕ) (linked : names_type world (λ (class : Class). true) name ≡ true) where
  pub array-there : is_array_name name ≡ true → passes (is_type_there world) (field_type_of name) ≡ true
  array-there is =
      sym (ap (λ (b : Bool). if b then passes (is_type_there world) (field_type_of name) else is_class_where world (λ (class : Class). true) name) is)
      ∙ linked

  pub class-there : is_array_name name ≡ false → is_class_where world (λ (class : Class). true) name ≡ true
  class-there is =
      sym (ap (λ (b : Bool). if b then passes (is_type_there world) (field_type_of name) else is_class_where world (λ (class : Class). true) name) is)
      ∙ linked

-- ---- what is read, and how it begins

-- Some units were read as the type.
pub record IsRead (read : Front FieldType) (type : FieldType) : Type 0 where
  pub behind : List ℕ
  pub is_read : read ≡ Some (type, behind)

whole-read : (read : Front FieldType) (type : FieldType) → whole read ≡ Some type → IsRead read type
whole-read None type is = absurd cc
whole-read (Some (t, [])) type is = let same : t ≡ type = cc in record { behind = []; is_read = λ i. Some (same i, []) }
whole-read (Some (t, unit ∷ units)) type is = absurd cc

limited-read : (read : Front FieldType) (type : FieldType)
    → IsRead (read >>= λ t. if (leb (dimensions t.0) 255) then Some t else None) type → IsRead read type
limited-read None type is = let none = is.is_read in absurd cc
limited-read (Some r) type is = by (leb (dimensions r.0) 255) is.is_read
  where
    by : (few : Bool) → (if few then Some r else None) ≡ Some (type, is.behind) → IsRead (Some r) type
    by true same = record { behind = is.behind; is_read = same }
    by false same = absurd cc

type-read : (units : List ℕ) (type : FieldType) → field_type_of units ≡ Some type → IsRead (type_at units) type
type-read units type is = limited-read (type_at units) type (whole-read (field_type_at units) type is)

bracket-read : (read : Front FieldType) (type : FieldType)
    → IsRead (read >>= λ component. Some (array_of component.0, component.1)) type → (component : FieldType) × (type ≡ array_of component)
bracket-read None type is = let none = is.is_read in absurd cc
bracket-read (Some r) type is = (r.0, sym (pair_parts (array_of r.0) type r.1 is.behind is.is_read).0)

-- what begins with a bracket is an array
array-read : (units : List ℕ) (type : FieldType) → is_array_name units ≡ true → IsRead (type_at units) type
    → (component : FieldType) × (type ≡ array_of component)
unfolding type_at
array-read [] type begins is = absurd cc
array-read (unit ∷ units) type begins is = bracket-read (type_at units) type (rw begins at is)

pub array-named : (units : List ℕ) (type : FieldType) → is_array_name units ≡ true → field_type_of units ≡ Some type
    → type ≡ named_type units
array-named units type begins is =
    let array = array-read units type begins (type-read units type is) in
    array.1 ∙ ap (λ (t : FieldType). array_or_class units (Some t)) (sym array.1) ∙ ap (array_or_class units) (sym is)

flat-named : (units : List ℕ) (type : FieldType) → dimensions type ≡ 0 → array_or_class units (Some type) ≡ class_type units
unfolding dimensions
flat-named units (array_of component) flat = absurd (omega (arith, flat))
flat-named units byte_type flat = refl
flat-named units char_type flat = refl
flat-named units double_type flat = refl
flat-named units float_type flat = refl
flat-named units int_type flat = refl
flat-named units long_type flat = refl
flat-named units short_type flat = refl
flat-named units boolean_type flat = refl
flat-named units (class_type name) flat = refl

begins-alike : (units : List ℕ) → is_array_name units ≡ false → is_there 0x5B units ≡ false
begins-alike [] is = refl
begins-alike (unit ∷ units) is = is

pub class-named : (units : List ℕ) → is_array_name units ≡ false → named_type units ≡ class_type units
class-named units begins = by (field_type_of units) refl
  where
    by : (read : Option FieldType) → field_type_of units ≡ read → named_type units ≡ class_type units
    by None is = ap (array_or_class units) is
    by (Some type) is =
        let read = type-read units type is in
        let flat = no_dimensions units (begins-alike units begins) type read.behind read.is_read in
        ap (array_or_class units) is ∙ flat-named units type flat

-- ---- rules that begin with a name

module _ (rule : List ℕ → Option TypeFrame) where
  of_name : Option (List ℕ) → Option TypeFrame
  of_name name = name >>= rule

  pub class-rule : (operand : Operand) (name : List ℕ) → class_of operand ≡ Some name → (class_of operand >>= rule) ≡ rule name
  unfolding of_name
  class-rule operand name is = ap of_name is
