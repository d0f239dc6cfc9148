-- Items of lists that pass a test.
use Rattle.std.proofs.Common.{◌≡◌, ℕ, zero, suc, ◌+◌, ◌-◌, ◌<◌, Bool, true, false, cond, List, [], ◌∷◌, Some, None, refl, sym, ap, ◌∙◌, inl, inr, length, arith}
use Rattle.std.specs.Prelude.{◌||◌, not, reverse, flat_map, slice_get, get_or, position}
use Rattle.std.specs.List.{AllByRecursion, list_all, list_any, position_or_len}
use Rattle.std.proofs.lemmas.Bool.{and_parts, or_cases, or_left, or_right, lt-ltb}
use Rattle.std.proofs.lemmas.List.{length-reverse, get_or-reverse}
use Rattle.std.proofs.lemmas.List.Folds.{list_any-append, list_all-append}
use Rattle.frame_laws.proofs.Outcome.{both}
use Rattle.std.proofs.lemmas.Option.{slice_get-get_or, get_or_from_slice_get, slice_get_within}

module _ {A : Type 0} (test : A → Bool) where
  pub any_at : (xs : List A) → list_any test xs ≡ true → (k : ℕ) × (x : A) × (slice_get xs k ≡ Some x) × (test x ≡ true)
  any_at [] h = absurd cc
  any_at (x ∷ xs) h = elim (or_cases (test x) (list_any test xs) h) [
    | inl here ↦ (0, x, refl, here)
    | inr there ↦ let found = any_at xs there in (suc found.0, found.1, found.2, found.3)
  ]

  pub at_any : (xs : List A) (k : ℕ) (x : A) → slice_get xs k ≡ Some x → test x ≡ true → list_any test xs ≡ true
  at_any [] k x at is = absurd cc
  at_any (y ∷ xs) zero x at is = let same : x ≡ y = cc in or_left (test y) (list_any test xs) (ap test (sym same) ∙ is)
  at_any (y ∷ xs) (suc k) x at is = or_right (test y) (list_any test xs) (at_any xs k x at is)

  -- one passes that is in a list of one's own
  pub any_flat : {B : Type 0} (f : B → List A) (ys : List B) → list_any (λ y. list_any test (f y)) ys ≡ true → list_any test (flat_map f ys) ≡ true
  any_flat f [] h = absurd cc
  any_flat f (y ∷ ys) h =
      list_any-append test (f y) (flat_map f ys) ∙ (elim (or_cases (list_any test (f y)) (list_any (λ z. list_any test (f z)) ys) h) [
        | inl here ↦ or_left (list_any test (f y)) (list_any test (flat_map f ys)) here
        | inr there ↦ or_right (list_any test (f y)) (list_any test (flat_map f ys)) (any_flat f ys there)
      ])

  within_by : (x : A) (xs : List A) (b : Bool) → test x ≡ b → (list_any test xs ≡ true → position_or_len test xs < length xs)
      → (test x || list_any test xs) ≡ true → cond (not b) (1 + position_or_len test xs) 0 < length (x ∷ xs)
  within_by x xs true is rest h = omega arith
  within_by x xs false is rest h = omega (arith, rest (sym (ap (λ (b : Bool). b || list_any test xs) is) ∙ h))

  first_within : (xs : List A) → list_any test xs ≡ true → position_or_len test xs < length xs
  first_within [] h = absurd cc
  first_within (x ∷ xs) h = within_by x xs (test x) refl (first_within xs) h

  pub any_position : (xs : List A) → list_any test xs ≡ true → (k : ℕ) × (position test xs ≡ Some k)
  any_position xs h = (position_or_len test xs, ap (λ (b : Bool). cond b (Some (position_or_len test xs)) None) (lt-ltb _ _ (first_within xs h)))

  pub any_reversed : (xs : List A) → list_any test xs ≡ true → list_any test (reverse xs) ≡ true
  any_reversed xs h =
      let found = any_at xs h in
      let k = found.0 in
      let x = found.1 in
      let within : k < length xs = slice_get_within xs k x found.2 in
      let n = length xs - 1 - k in
      let short : n < length (reverse xs) = omega (arith, length-reverse xs, within) in
      let back : length xs - 1 - n ≡ k = omega (arith, within) in
      let is : get_or (reverse xs) n x ≡ x =
      get_or-reverse xs n x (omega (arith, within)) ∙ ap (λ (i : ℕ). get_or xs i x) back ∙ get_or_from_slice_get xs k x x found.2 in
      at_any (reverse xs) n x (slice_get-get_or (reverse xs) n x short ∙ ap Some is) found.3

  -- all pass that are in lists of which all do
  pub all_flat : {B : Type 0} (f : B → List A) (ys : List B) → list_all (λ y. list_all test (f y)) ys ≡ true → list_all test (flat_map f ys) ≡ true
  all_flat f [] h = refl
  all_flat f (y ∷ ys) h =
      let parts = and_parts (list_all test (f y)) (list_all (λ z. list_all test (f z)) ys) h in
      list_all-append test (f y) (flat_map f ys) ∙ both (list_all test (f y)) (list_all test (flat_map f ys)) parts.0 (all_flat f ys parts.1)

  pub all_by : (xs : List A) → AllByRecursion (λ x. test x ≡ true) xs → list_all test xs ≡ true
  all_by [] all = refl
  all_by (x ∷ xs) all = both (test x) (list_all test xs) all.0 (all_by xs all.1)
