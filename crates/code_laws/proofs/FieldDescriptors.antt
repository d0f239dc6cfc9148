-- A type has one descriptor (JVMS 4.3.2).
use Rattle.std.proofs.Common.{◌≡◌, ℕ, ◌≤◌, Bool, true, false, ◌&&◌, ◌||◌, cond, eqb, leb, not, List, [], ◌∷◌, ◌++◌, Option, Some, None, refl, sym, ap, subst, ◌∙◌, append_assoc, append-nil, IsTrue, inl, inr}
use Rattle.std.specs.Prelude.{codes}
use Rattle.std.proofs.lemmas.Bool.{eqb-true, cases_Bool, and_parts, leb-true, le-leb}
use Rattle.jv_model.specs.Descriptors.{FieldType, byte_type, char_type, double_type, float_type, int_type, long_type, short_type, boolean_type, class_type, array_of}
use Rattle.code_model.specs.TypeReading.{is_part_unit, are_parts, is_class_name, Front, before_semicolon, class_type_at, base_type, type_at, dimensions, most_dimensions, field_type_at, whole, field_type_of, descriptor_of}
use Rattle.code_model.specs.Laws.{HasClassName, IsFieldType, OneFieldDescriptor}
use Rattle.code_laws.proofs.Options.{some_is, none_is, option_bind, passes}

-- ---- names of classes

-- the name before the first ; and what stands behind it
semicolon_taken :
    (units name rest : List ℕ) → before_semicolon units ≡ Some (name, rest)
    → units ≡ name ++ (0x3B ∷ rest)
unfolding before_semicolon
semicolon_taken [] name rest e = none_is (name, rest) e
semicolon_taken (unit ∷ units) name rest e =
    elim (cases_Bool (eqb unit 0x3B)) [
      | inl is ↦
          let same = some_is ([], units) (name, rest) (rw is at e) in
          subst (λ (f : List ℕ × List ℕ). unit ∷ units ≡ f.0 ++ (0x3B ∷ f.1)) same
          (ap (λ (u : ℕ). u ∷ units) (eqb-true unit 0x3B is))
      | inr other ↦
          let others =
          option_bind (before_semicolon units) (λ others. Some (unit ∷ others.0, others.1))
          (name, rest) (rw other at e) in
          let same = some_is (unit ∷ others.0.0, others.0.1) (name, rest) others.2 in
          let behind = semicolon_taken units others.0.0 others.0.1 others.1 in
          subst (λ (f : List ℕ × List ℕ). unit ∷ units ≡ f.0 ++ (0x3B ∷ f.1)) same
          (ap (λ (us : List ℕ). unit ∷ us) behind)
    ]

-- a unit of a part isn't ;
no_semicolon : (unit : ℕ) → IsTrue (is_part_unit unit) → eqb unit 0x3B ≡ false
no_semicolon unit is = by_tests (eqb unit 0x2E) (eqb unit 0x3B) (eqb unit 0x5B) is
  where
    by_tests :
        (dot semicolon bracket : Bool) → IsTrue (not (dot || semicolon || bracket))
        → semicolon ≡ false
    by_tests true semicolon bracket is = absurd cc
    by_tests false true bracket is = absurd cc
    by_tests false false bracket is = refl

-- a name of parts stands before the first ; behind it
semicolon_found :
    (begun : Bool) (name rest : List ℕ) → IsTrue (are_parts begun name)
    → before_semicolon (name ++ (0x3B ∷ rest)) ≡ Some (name, rest)
unfolding before_semicolon are_parts
semicolon_found begun [] rest is = refl
semicolon_found begun (unit ∷ name) rest is =
    elim (cases_Bool (eqb unit 0x2F)) [
      | inl slash ↦
          let e : unit ≡ 0x2F = eqb-true unit 0x2F slash in
          let its : IsTrue (begun && are_parts false name) = rw slash at is in
          let others =
          semicolon_found false name rest (and_parts begun (are_parts false name) its).1 in
          let other : eqb unit 0x3B ≡ false = rw e refl in
          rw (other, others) refl
      | inr plain ↦
          let its : IsTrue (is_part_unit unit && are_parts true name) = rw plain at is in
          let both = and_parts (is_part_unit unit) (are_parts true name) its in
          let others = semicolon_found true name rest both.1 in
          rw (no_semicolon unit both.0, others) refl
    ]

-- ---- types

-- a type that was read of the front of a text
pub record TakenType (units : List ℕ) (type : FieldType) (rest : List ℕ) : Type 0 where
  pub units_are : units ≡ descriptor_of type ++ rest
  pub named : HasClassName type

-- a class that was read stands in front, between L and ;
class_taken :
    (units rest : List ℕ) (type : FieldType) → class_type_at units ≡ Some (type, rest)
    → TakenType (0x4C ∷ units) type rest
unfolding descriptor_of
class_taken units rest type e =
    let name =
    option_bind (before_semicolon units)
    (λ name. cond (is_class_name name.0) (Some (class_type name.0, name.1)) None)
    (type, rest) e in
    let its = passes (is_class_name name.0.0) (class_type name.0.0, name.0.1) (type, rest) name.2 in
    let made = semicolon_taken units name.0.0 name.0.1 name.1 in
    let here : TakenType (0x4C ∷ units) (class_type name.0.0) name.0.1 =
    record {
      units_are =
          ap (λ (us : List ℕ). 0x4C ∷ us) (made ∙ sym (append_assoc name.0.0 (codes ";") name.0.1));
      named = its.0;
    } in
    subst (λ (f : FieldType × List ℕ). TakenType (0x4C ∷ units) f.0 f.1) its.1 here

-- a base type's letter is its descriptor
base_taken :
    (unit : ℕ) (rest : List ℕ) (type : FieldType) → base_type unit ≡ Some type
    → TakenType (unit ∷ rest) type rest
unfolding descriptor_of
base_taken unit rest type =
    letter 0x42 byte_type _ refl tt
    (letter 0x43 char_type _ refl tt (letter 0x44 double_type _ refl tt (
    letter 0x46 float_type _ refl tt
    (letter 0x49 int_type _ refl tt (letter 0x4A long_type _ refl tt (
    letter 0x53 short_type _ refl tt (letter 0x5A boolean_type _ refl tt (none_is type))))))))
  where
    letter :
        (this : ℕ) (its : FieldType) (others : Option FieldType)
        → this ∷ rest ≡ descriptor_of its ++ rest
        → HasClassName its → (others ≡ Some type → TakenType (unit ∷ rest) type rest)
        → cond (eqb unit this) (Some its) others ≡ Some type → TakenType (unit ∷ rest) type rest
    letter this its others spelled named go e =
        elim (cases_Bool (eqb unit this)) [
          | inl is ↦
              let same = some_is its type (rw is at e) in
              subst (λ (t : FieldType). TakenType (unit ∷ rest) t rest) same
              (record { units_are = rw (eqb-true unit this is) spelled; named = named })
          | inr other ↦ go (rw other at e)
        ]

-- the type that is read of a text stands at its front
pub type_taken :
    (units rest : List ℕ) (type : FieldType) → type_at units ≡ Some (type, rest)
    → TakenType units type rest
unfolding type_at descriptor_of
type_taken [] rest type e = none_is (type, rest) e
type_taken (unit ∷ units) rest type e =
    elim (cases_Bool (eqb unit 0x5B)) [
      | inl is ↦
          let component =
          option_bind (type_at units) (λ component. Some (array_of component.0, component.1))
          (type, rest) (rw is at e) in
          let same = some_is (array_of component.0.0, component.0.1) (type, rest) component.2 in
          let behind = type_taken units component.0.1 component.0.0 component.1 in
          subst (λ (f : FieldType × List ℕ). TakenType (unit ∷ units) f.0 f.1) same
          (record {
            units_are =
                ap (λ (u : ℕ). u ∷ units) (eqb-true unit 0x5B is)
                ∙ ap (λ (us : List ℕ). 0x5B ∷ us) behind.units_are;
            named = behind.named;
          })
      | inr not_array ↦
          elim (cases_Bool (eqb unit 0x4C)) [
            | inl is ↦
                subst (λ (u : ℕ). TakenType (u ∷ units) type rest) (sym (eqb-true unit 0x4C is))
                (class_taken units rest type (rw (not_array, is) at e))
            | inr not_class ↦
                let base =
                option_bind (base_type unit) (λ base. Some (base, units)) (type, rest)
                (rw (not_array, not_class) at e) in
                let same = some_is (base.0, units) (type, rest) base.2 in
                subst (λ (f : FieldType × List ℕ). TakenType (unit ∷ units) f.0 f.1) same
                (base_taken unit units base.0 base.1)
          ]
    ]

-- a type is read where its descriptor stands
pub type_found :
    (type : FieldType) (rest : List ℕ) → HasClassName type
    → type_at (descriptor_of type ++ rest) ≡ Some (type, rest)
unfolding type_at descriptor_of
type_found byte_type rest named = refl
type_found char_type rest named = refl
type_found double_type rest named = refl
type_found float_type rest named = refl
type_found int_type rest named = refl
type_found long_type rest named = refl
type_found short_type rest named = refl
type_found boolean_type rest named = refl
type_found (class_type name) rest named =
    let front = semicolon_found false name rest named in
    rw (append_assoc name (codes ";") rest, front, named) refl
type_found (array_of component) rest named = rw (type_found component rest named) refl

-- ---- the types of fields

-- a type of a field that was read of the front of a text
pub field_taken :
    (units rest : List ℕ) (type : FieldType) → field_type_at units ≡ Some (type, rest)
    → (units ≡ descriptor_of type ++ rest) × IsFieldType type
field_taken units rest type e =
    let read =
    option_bind (type_at units)
    (λ type. cond (leb (dimensions type.0) most_dimensions) (Some type) None)
    (type, rest) e in
    let its = passes (leb (dimensions read.0.0) most_dimensions) read.0 (type, rest) read.2 in
    let few : dimensions read.0.0 ≤ most_dimensions = leb-true _ _ its.0 in
    let taken = type_taken units read.0.1 read.0.0 read.1 in
    subst (λ (f : FieldType × List ℕ). (units ≡ descriptor_of f.0 ++ f.1) × IsFieldType f.0) its.1
    (taken.units_are, (taken.named, few))

-- it's read where its descriptor stands
pub field_found :
    (type : FieldType) (rest : List ℕ) → IsFieldType type
    → field_type_at (descriptor_of type ++ rest) ≡ Some (type, rest)
field_found type rest is =
    let few : leb (dimensions type) most_dimensions ≡ true = le-leb _ _ is.1 in
    rw (type_found type rest is.0, few) refl

-- what was read is the whole text
whole_taken : {A : Type 0} (front : Front A) (x : A) → whole front ≡ Some x → front ≡ Some (x, [])
whole_taken None x e = none_is x e
whole_taken (Some (y, [])) x e = ap (λ z. Some (z, [])) (some_is y x e)
whole_taken (Some (y, unit ∷ units)) x e = none_is x e

-- a text is a field descriptor of a type exactly where it's the type's
pub one_field_descriptor : OneFieldDescriptor
one_field_descriptor units type = (taken, λ both. found both.0 both.1)
  where
    taken : field_type_of units ≡ Some type → (units ≡ descriptor_of type) × IsFieldType type
    taken e =
        let its = field_taken units [] type (whole_taken (field_type_at units) type e) in
        (its.0 ∙ append-nil (descriptor_of type), its.1)

    found : units ≡ descriptor_of type → IsFieldType type → field_type_of units ≡ Some type
    found e is =
        let read : field_type_at (descriptor_of type) ≡ Some (type, []) =
        subst (λ (us : List ℕ). field_type_at us ≡ Some (type, []))
        (append-nil (descriptor_of type)) (field_found type [] is) in
        rw (e, read) refl
