-- Components of arrays, by their dimensions.
use Rattle.std.proofs.Common.{◌≡◌, ℕ, zero, suc, ◌<◌, ◌==◌, Bool, true, false, refl, true≢false, arith}
use Rattle.std.proofs.lemmas.Bool.Decides.{Decides-eqb}
use Rattle.jv_model.specs.Descriptors.{FieldType}
use Rattle.world_model.specs.World.{World}
use Rattle.typing_model.specs.VerificationType.{is_same_field_type}
use Rattle.typing_model.specs.Assignable.{component_assignable}
use Rattle.type_rules.specs.declared.types.ElementType.{ElementType}
use Rattle.type_rules.specs.declared.types.ElementType.TheVariants.{Byte, Char, Double, Float, Int, Long, Short, Boolean, Class}
use Rattle.type_rules.specs.Types.{element_of, in_arrays, letter_of, names_object}

abbrev pub is_class : ElementType → Bool
is_class (Class class) = true
is_class other = false

pub unequal : (m n : ℕ) → (m ≡ n → ⊥) → (m == n) ≡ false
unequal m n differ = by (m == n) refl
  where
    by : (b : Bool) → (m == n) ≡ b → (m == n) ≡ false
    by false is = is
    by true is = absurd (differ ((Decides-eqb m n).0 is))

-- types that are no classes are the same where their letters are
pub same_letters : (world : World) (from to : ElementType) → is_class from ≡ false
    → (letter_of from == letter_of to) ≡ component_assignable world (element_of world from) (element_of world to)
unfolding component_assignable is_same_field_type
same_letters world (Class class) to no_class = absurd (true≢false no_class)
same_letters world Byte Byte no_class = refl
same_letters world Char Char no_class = refl
same_letters world Double Double no_class = refl
same_letters world Float Float no_class = refl
same_letters world Int Int no_class = refl
same_letters world Long Long no_class = refl
same_letters world Short Short no_class = refl
same_letters world Boolean Boolean no_class = refl
same_letters world from to no_class = refl

module _ (world : World) where
  -- as many on both sides
  pub component_assignable-as_many : (n : ℕ) (from to : FieldType)
      → component_assignable world (in_arrays n from) (in_arrays n to) ≡ component_assignable world from to
  unfolding component_assignable
  component_assignable-as_many zero from to = refl
  component_assignable-as_many (suc n) from to = component_assignable-as_many n from to

  -- what is an array goes to Object alone
  pub component_assignable-more : (m n : ℕ) (from : FieldType) (to : ElementType) → n < m
      → component_assignable world (in_arrays m from) (in_arrays n (element_of world to)) ≡ names_object (element_of world to)
  unfolding component_assignable is_same_field_type
  component_assignable-more zero n from to more = absurd (omega arith)
  component_assignable-more (suc m) (suc n) from to more = component_assignable-more m n from to (omega arith)
  component_assignable-more (suc m) zero from Byte more = refl
  component_assignable-more (suc m) zero from Char more = refl
  component_assignable-more (suc m) zero from Double more = refl
  component_assignable-more (suc m) zero from Float more = refl
  component_assignable-more (suc m) zero from Int more = refl
  component_assignable-more (suc m) zero from Long more = refl
  component_assignable-more (suc m) zero from Short more = refl
  component_assignable-more (suc m) zero from Boolean more = refl
  component_assignable-more (suc m) zero from (Class class) more = refl

  -- what is no array goes to none
  pub component_assignable-fewer : (m n : ℕ) (from : ElementType) (to : FieldType) → m < n
      → component_assignable world (in_arrays m (element_of world from)) (in_arrays n to) ≡ false
  unfolding component_assignable is_same_field_type
  component_assignable-fewer m zero from to fewer = absurd (omega arith)
  component_assignable-fewer (suc m) (suc n) from to fewer = component_assignable-fewer m n from to (omega arith)
  component_assignable-fewer zero (suc n) Byte to fewer = refl
  component_assignable-fewer zero (suc n) Char to fewer = refl
  component_assignable-fewer zero (suc n) Double to fewer = refl
  component_assignable-fewer zero (suc n) Float to fewer = refl
  component_assignable-fewer zero (suc n) Int to fewer = refl
  component_assignable-fewer zero (suc n) Long to fewer = refl
  component_assignable-fewer zero (suc n) Short to fewer = refl
  component_assignable-fewer zero (suc n) Boolean to fewer = refl
  component_assignable-fewer zero (suc n) (Class class) to fewer = refl
