-- Types that are read unit by unit.
use Rattle.std.proofs.Common.{◌≡◌, ℕ, zero, suc, ◌+◌, ◌-◌, ◌<◌, ◌≤◌, Bool, true, false, ◌&&◌, if◌then◌else◌, cond, eqb, List, [], ◌∷◌, ◌++◌, length, take, drop, Option, Some, None, option_map, get_or, refl, sym, ap, ◌∙◌, arith, append_assoc, drop-cons, length-drop}
use Rattle.std.specs.Prelude.{unwrap_or}
use Rattle.std.proofs.lemmas.List.{append-nil, take_more, take_all}
use Rattle.std.proofs.Math.ListN.{drop_of_length-le}
use Rattle.std.proofs.lemmas.Bool.{ne_eqb}
use Rattle.jv_model.specs.Partial.{◌>>=◌}
use Rattle.jv_model.specs.Descriptors.{FieldType, byte_type, char_type, double_type, float_type, int_type, long_type, short_type, boolean_type, class_type, array_of}
use Rattle.code_model.specs.TypeReading.{Front, before_semicolon, are_parts, is_class_name, is_part_unit, base_type, class_type_at, type_at, dimensions}
use Rattle.method_descriptors.specs.Parameters.{is_there, nested, arrays}

-- what is left behind a place, as a slice of the rest
pub rest_is : (units : List ℕ) (at : ℕ) → take (length units - at) (drop at units) ≡ drop at units
rest_is units at = take_all (length units - at) (drop at units) (omega (arith, length-drop at units))

pub rest_cons : (units : List ℕ) (at : ℕ) → at < length units
    → drop at units ≡ get_or units at 0 ∷ drop (at + 1) units
rest_cons units at within =
    let next : suc at ≡ at + 1 = omega arith in
    drop-cons units at 0 within ∙ ap (λ n. get_or units at 0 ∷ drop n units) next

-- what two pairs say of their parts
abbrev pub pair : {A B : Type 0} → A → B → Option (A × B)
pair a b = Some (a, b)

-- what there may be, and what is after it
abbrev pub with_rest : {A : Type 0} → List ℕ → Option A → Option (A × List ℕ)
with_rest rest found = option_map (λ x. (x, rest)) found

pub pair_parts : {A B : Type 0} (a c : A) (b d : B) → pair a b ≡ pair c d → (a ≡ c) × (b ≡ d)
pair_parts {A = A} {B = B} a c b d e =
    let default : A × B = (a, b) in (
      ap (λ (o : Option (A × B)). (unwrap_or o default).0) e,
      ap (λ (o : Option (A × B)). (unwrap_or o default).1) e,
    )

-- ---- the units before a semicolon

-- these units in front
abbrev pub units_in_front : List ℕ → Front (List ℕ) → Front (List ℕ)
units_in_front front read = option_map (λ parts. (front ++ parts.0, parts.1)) read

pub semicolon_here : (units : List ℕ) (at : ℕ) → at < length units → get_or units at 0 ≡ 0x3B
    → units_in_front (take at units) (before_semicolon (drop at units))
    ≡ Some (take at units, drop (at + 1) units)
unfolding before_semicolon
semicolon_here units at within is =
    rw (drop-cons units at 0 within, is)
    (let front : take at units ++ [] ≡ take at units = append-nil (take at units) in
    let next : suc at ≡ at + 1 = omega arith in
    rw (front, next) refl)

in_front_unit : (front : List ℕ) (unit : ℕ) (read : Front (List ℕ))
    → units_in_front front (read >>= λ others. Some (unit ∷ others.0, others.1))
    ≡ units_in_front (front ++ unit ∷ []) read
in_front_unit front unit None = refl
in_front_unit front unit (Some parts) =
    ap (λ (units : List ℕ). Some (units, parts.1)) (sym (append_assoc front (unit ∷ []) parts.0))

other_unit : (unit : ℕ) (units : List ℕ) → eqb unit 0x3B ≡ false
    → before_semicolon (unit ∷ units)
    ≡ (before_semicolon units >>= λ others. Some (unit ∷ others.0, others.1))
unfolding before_semicolon
other_unit unit units differs = rw differs refl

pub semicolon_later : (units : List ℕ) (at : ℕ) → at < length units
    → eqb (get_or units at 0) 0x3B ≡ false
    → units_in_front (take (at + 1) units) (before_semicolon (drop (at + 1) units))
    ≡ units_in_front (take at units) (before_semicolon (drop at units))
semicolon_later units at within differs =
    let unit : ℕ = get_or units at 0 in
    let rest = rest_cons units at within in
    ap (λ front. units_in_front front (before_semicolon (drop (at + 1) units)))
    (take_more units at 0 within)
    ∙ sym (in_front_unit (take at units) unit (before_semicolon (drop (at + 1) units)))
    ∙ ap (units_in_front (take at units)) (sym (other_unit unit (drop (at + 1) units) differs))
    ∙ ap (λ (left : List ℕ). units_in_front (take at units) (before_semicolon left)) (sym rest)

pub no_semicolon : (units : List ℕ) (at : ℕ) → length units ≤ at
    → units_in_front (take at units) (before_semicolon (drop at units)) ≡ None
unfolding before_semicolon
no_semicolon units at end = rw (drop_of_length-le units end) refl

-- ---- names

pub parts_step : (name : List ℕ) (at : ℕ) (begun : Bool) → at < length name
    → are_parts begun (drop at name)
    ≡ cond (eqb (get_or name at 0) 0x2F) (begun && are_parts false (drop (at + 1) name))
    (is_part_unit (get_or name at 0) && are_parts true (drop (at + 1) name))
unfolding are_parts
parts_step name at begun within = ap (are_parts begun) (rest_cons name at within)

-- a slash behind no part
pub slash_first : (name : List ℕ) (at : ℕ) (begun : Bool) → at < length name
    → get_or name at 0 ≡ 0x2F → begun ≡ false → are_parts begun (drop at name) ≡ false
slash_first name at begun within is none = parts_step name at begun within ∙ rw (is, none) refl

-- a slash behind a part
pub slash_on : (name : List ℕ) (at : ℕ) (begun : Bool) → at < length name
    → get_or name at 0 ≡ 0x2F → begun ≡ true
    → are_parts begun (drop at name) ≡ are_parts false (drop (at + 1) name)
slash_on name at begun within is some = parts_step name at begun within ∙ rw (is, some) refl

pub no_part : (name : List ℕ) (at : ℕ) (begun : Bool) → at < length name
    → (get_or name at 0 ≡ 0x2F → ⊥) → is_part_unit (get_or name at 0) ≡ false
    → are_parts begun (drop at name) ≡ false
no_part name at begun within differs wrong =
    parts_step name at begun within
    ∙ rw (ne_eqb (get_or name at 0) 0x2F differs) (ap (λ b. b && are_parts true (drop (at + 1) name)) wrong)

pub part_on : (name : List ℕ) (at : ℕ) (begun : Bool) → at < length name
    → (get_or name at 0 ≡ 0x2F → ⊥) → is_part_unit (get_or name at 0) ≡ true
    → are_parts begun (drop at name) ≡ are_parts true (drop (at + 1) name)
part_on name at begun within differs right =
    parts_step name at begun within
    ∙ rw (ne_eqb (get_or name at 0) 0x2F differs) (ap (λ b. b && are_parts true (drop (at + 1) name)) right)

pub parts_end : (name : List ℕ) (at : ℕ) (begun : Bool) → length name ≤ at
    → are_parts begun (drop at name) ≡ begun
unfolding are_parts
parts_end name at begun end = rw (drop_of_length-le name end) refl

-- ---- arrays

pub dimensions_nested : (n : ℕ) (type : FieldType)
    → dimensions (nested n type) ≡ n + dimensions type
unfolding dimensions
dimensions_nested zero type = omega arith
dimensions_nested (suc n) type = dimensions_nested n (array_of type) ∙ omega arith

arrays_more : (n : ℕ) (read : Front FieldType)
    → arrays n (read >>= λ component. Some (array_of component.0, component.1))
    ≡ arrays (suc n) read
arrays_more n None = refl
arrays_more n (Some read) = refl

pub bracket_here : (units : List ℕ) (at : ℕ) → at < length units → get_or units at 0 ≡ 0x5B
    → arrays (at + 1) (type_at (drop (at + 1) units)) ≡ arrays at (type_at (drop at units))
unfolding type_at
bracket_here units at within is =
    let next : at + 1 ≡ suc at = omega arith in
    rw (next, drop-cons units at 0 within, is)
    (sym (arrays_more at (type_at (drop (suc at) units))))

pub there_is : (units : List ℕ) (at unit : ℕ) → at < length units
    → is_there unit (drop at units) ≡ eqb (get_or units at 0) unit
there_is units at unit within = rw (drop-cons units at 0 within) refl

pub none_there : (units : List ℕ) (at unit : ℕ) → length units ≤ at
    → is_there unit (drop at units) ≡ false
none_there units at unit end = rw (drop_of_length-le units end) refl

-- ---- a type without brackets has no dimensions

abbrev pub IsFlat : Front FieldType → Type 0
IsFlat read = (type : FieldType) (behind : List ℕ) → read ≡ Some (type, behind)
    → dimensions type ≡ 0

flat_row : (b : Bool) (x : FieldType) (y : Option FieldType) → dimensions x ≡ 0
    → ((type : FieldType) → y ≡ Some type → dimensions type ≡ 0) → (type : FieldType)
    → cond b (Some x) y ≡ Some type → dimensions type ≡ 0
flat_row true x y flat others type e =
    let same : x ≡ type = cc in ap (λ (t : FieldType). dimensions t) (sym same) ∙ flat
flat_row false x y flat others type e = others type e

none_flat : (type : FieldType) → None ≡ Some type → dimensions type ≡ 0
none_flat type e = absurd cc

base_flat : (unit : ℕ) (type : FieldType) → base_type unit ≡ Some type → dimensions type ≡ 0
unfolding dimensions
base_flat unit =
    flat_row _ byte_type _ refl (flat_row _ char_type _ refl (flat_row _ double_type _ refl (
    flat_row _ float_type _ refl (flat_row _ int_type _ refl (flat_row _ long_type _ refl (
    flat_row _ short_type _ refl (flat_row _ boolean_type _ refl none_flat)))))))

abbrev class_where : Bool → List ℕ → List ℕ → Front FieldType
class_where is name rest = if is then Some (class_type name, rest) else None

class_cases : (b : Bool) (name rest : List ℕ) (type : FieldType) (behind : List ℕ)
    → class_where b name rest ≡ Some (type, behind) → dimensions type ≡ 0
unfolding dimensions
class_cases true name rest type behind e =
    ap (λ (t : FieldType). dimensions t) (sym (pair_parts (class_type name) type rest behind e).0)
class_cases false name rest type behind e = absurd cc

abbrev class_of : Front (List ℕ) → Front FieldType
class_of read =
    read >>= λ name. if is_class_name name.0 then Some (class_type name.0, name.1) else None

class_flat : (read : Front (List ℕ)) (type : FieldType) (behind : List ℕ)
    → class_of read ≡ Some (type, behind) → dimensions type ≡ 0
class_flat None type behind e = absurd cc
class_flat (Some name) type behind e = class_cases (is_class_name name.0) name.0 name.1 type behind e

abbrev base_front : Option FieldType → List ℕ → Front FieldType
base_front read units = read >>= λ base. Some (base, units)

base_read : (unit : ℕ) (read : Option FieldType) (units : List ℕ) (type : FieldType)
    (behind : List ℕ) → base_type unit ≡ read
    → base_front read units ≡ Some (type, behind) → dimensions type ≡ 0
base_read unit None units type behind is e = absurd cc
base_read unit (Some base) units type behind is e =
    base_flat unit type (is ∙ ap Some (pair_parts base type units behind e).0)

flat_cases : (is_class : Bool) (unit : ℕ) (units : List ℕ) (type : FieldType) (behind : List ℕ)
    → (if is_class then class_type_at units else base_front (base_type unit) units)
    ≡ Some (type, behind) → dimensions type ≡ 0
flat_cases true unit units type behind e = class_flat (before_semicolon units) type behind e
flat_cases false unit units type behind e =
    base_read unit (base_type unit) units type behind refl e

pub no_dimensions : (units : List ℕ) → is_there 0x5B units ≡ false → IsFlat (type_at units)
unfolding type_at
no_dimensions [] first type behind e = absurd cc
no_dimensions (unit ∷ units) first type behind e =
    flat_cases (eqb unit 0x4C) unit units type behind (rw first at e)
