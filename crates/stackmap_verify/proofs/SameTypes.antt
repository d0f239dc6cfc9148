-- Types that `==` finds the same are the same.
use Rattle.std.proofs.Common.{◌≡◌, eqb, Bool, true, false, not, ◌&&◌, List, [], ◌∷◌, ap, refl}
use Rattle.std.proofs.lemmas.Bool.{eqb-true}
use lib.Pointwise.{pointwise}
use Rattle.jv_types.specs.declared.number.ClassNo.{ClassNo}
use Rattle.type_rules.specs.declared.types.ElementType.{ElementType}
use Rattle.type_rules.specs.declared.types.ElementType.TheVariants as elements
use Rattle.type_rules.specs.declared.types.FieldType.{FieldType}
use Rattle.type_rules.specs.declared.types.VerificationType.{VerificationType}
use Rattle.type_rules.specs.declared.types.VerificationType.TheVariants as types
use Rattle.type_rules.specs.contracts.types.ElementTypePartialEq.TheImpl as element_eq
use Rattle.type_rules.specs.contracts.types.FieldTypePartialEq.TheImpl as field_eq
use Rattle.type_rules.specs.contracts.types.VerificationTypePartialEq.TheImpl as type_eq

both : (s t : Bool) → (s && t) ≡ true → (s ≡ true) × (t ≡ true)
both true t is = (refl, is)
both false t is = absurd cc

class_sound : (a b : ClassNo) → eqb a.0 b.0 ≡ true → a ≡ b
class_sound a b is = let same = eqb-true a.0 b.0 is in λ i. record { 0 = same i }

element_sound : (a b : ElementType) → (element_eq.eq-value).it a b ≡ true → a ≡ b
element_sound elements.Byte elements.Byte is = refl
element_sound elements.Byte other is = absurd cc
element_sound elements.Char elements.Char is = refl
element_sound elements.Char other is = absurd cc
element_sound elements.Double elements.Double is = refl
element_sound elements.Double other is = absurd cc
element_sound elements.Float elements.Float is = refl
element_sound elements.Float other is = absurd cc
element_sound elements.Int elements.Int is = refl
element_sound elements.Int other is = absurd cc
element_sound elements.Long elements.Long is = refl
element_sound elements.Long other is = absurd cc
element_sound elements.Short elements.Short is = refl
element_sound elements.Short other is = absurd cc
element_sound elements.Boolean elements.Boolean is = refl
element_sound elements.Boolean other is = absurd cc
element_sound (elements.Class a) (elements.Class b) is = ap elements.Class (class_sound a b is)
element_sound (elements.Class a) other is = absurd cc

field_sound : (a b : FieldType) → (field_eq.eq-value).it a b ≡ true → a ≡ b
field_sound a b is =
    let same : (eqb a.dimensions b.dimensions && (element_eq.eq-value).it a.element b.element) ≡ true = is in
    let parts = both (eqb a.dimensions b.dimensions) ((element_eq.eq-value).it a.element b.element) same in
    let dimensions = eqb-true a.dimensions b.dimensions parts.0 in
    let element = element_sound a.element b.element parts.1 in
    λ i. record { dimensions = dimensions i; element = element i }

type_sound : (a b : VerificationType) → (type_eq.eq-value).it a b ≡ true → a ≡ b
type_sound types.Top types.Top is = refl
type_sound types.Top other is = absurd cc
type_sound types.Int types.Int is = refl
type_sound types.Int other is = absurd cc
type_sound types.Long types.Long is = refl
type_sound types.Long other is = absurd cc
type_sound types.Null types.Null is = refl
type_sound types.Null other is = absurd cc
type_sound types.This types.This is = refl
type_sound types.This other is = absurd cc
type_sound (types.New a) (types.New b) is = ap types.New (eqb-true a b is)
type_sound (types.New a) other is = absurd cc
type_sound (types.Class a) (types.Class b) is = ap types.Class (class_sound a b is)
type_sound (types.Class a) other is = absurd cc
type_sound (types.Array a) (types.Array b) is = ap types.Array (field_sound a b is)
type_sound (types.Array a) other is = absurd cc

pub same_types : (xs ys : List VerificationType) → pointwise (type_eq.eq-value).it xs ys ≡ true → xs ≡ ys
same_types [] [] is = refl
same_types [] (y ∷ ys) is = absurd cc
same_types (x ∷ xs) [] is = absurd cc
same_types (x ∷ xs) (y ∷ ys) is =
    let parts = both ((type_eq.eq-value).it x y) (pointwise (type_eq.eq-value).it xs ys) is in
    let first = type_sound x y parts.0 in
    let others = same_types xs ys parts.1 in
    λ i. first i ∷ others i

pub not_false : (b : Bool) → not b ≡ false → b ≡ true
not_false true is = refl
not_false false is = absurd cc
