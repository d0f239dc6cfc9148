-- Places of what passes a test, and texts by their places.
use Rattle.std.proofs.Common.{◌≡◌, ◌≢◌, ◌+◌, ℕ, ◌<◌, ◌≤◌, ◌==◌, Bool, true, false, not, ◌||◌, cond, List, [], ◌∷◌, Option, Some, None, length, position, slice_get, get_or, nat_lt, bytes_eq, find, option_map, option_and_then, is_some, IsTrue, inl, inr, ap, sym, ◌∙◌, refl, true≢false, arith}
use Rattle.std.specs.List.{list_any, list_all, prefix_len, position_or_len, IsDistinct}
use Rattle.std.proofs.lemmas.List.Folds.{find_at, list_any_at}
use Rattle.std.proofs.lemmas.List.Quantifiers.{position-Some}
use Rattle.std.proofs.lemmas.Option.{slice_get_past, slice_get_cases}
use Rattle.std.proofs.lemmas.Bool.{cases_lt}
use Rattle.std.proofs.lemmas.Bool.Decides.{Decides-ltb, Decides-eqb}
use Rattle.std.proofs.lemmas.Cmp.{nat_list_eq_equiv}
use Rattle.std.proofs.lemmas.Slice.Eq.{bytes_eq-Decides}
use Rattle.std.proofs.lemmas.Map.Keys.{apart_from_distinct}
use Rattle.class_graph.proofs.Passing.{and_left, and_right}

past_from_test : (k n : ℕ) → nat_lt k n ≡ false → n ≤ k
past_from_test k n past =
    let no : k < n → ⊥ = λ lt. true≢false (sym ((Decides-ltb k n).1 lt) ∙ past) in omega arith

-- something stands at each place inside
pub stands_inside : {A : Type 0} (xs : List A) (k : ℕ) → k < length xs → (x : A) × (slice_get xs k ≡ Some x)
stands_inside xs k inside = elim ((slice_get_cases xs k).1) [
  | inl w ↦ (w.0, w.2)
  | inr w ↦ absurd (omega arith)
]

is_some-find : {A : Type 0} (p : A → Bool) (xs : List A) → is_some (find p xs) ≡ list_any p xs
is_some-find p [] = refl
is_some-find {A} p (x ∷ xs) = by (p x) (is_some-find p xs)
  where
    by : (b : Bool) → is_some (find p xs) ≡ list_any p xs → is_some (cond b (Some x) (find p xs)) ≡ (b || list_any p xs)
    by true same = refl
    by false same = same

is_some-option_map : {A B : Type 0} (f : A → B) (o : Option A) → is_some (option_map f o) ≡ is_some o
is_some-option_map f None = refl
is_some-option_map f (Some x) = refl

module _ {A : Type 0} (p : A → Bool) (xs : List A) where
  -- the first that passes is what stands at its place
  pub find-position : find p xs ≡ option_and_then (slice_get xs) (position p xs)
  find-position = by (nat_lt (position_or_len p xs) (length xs)) refl
    where
      by : (b : Bool) → nat_lt (position_or_len p xs) (length xs) ≡ b
          → find p xs ≡ option_and_then (slice_get xs) (position p xs)
      by true inside =
          find_at p xs ∙ sym (ap (λ (b : Bool). option_and_then (slice_get xs) (cond b (Some (position_or_len p xs)) None)) inside)
      by false past =
          find_at p xs ∙ slice_get_past xs (position_or_len p xs) (past_from_test _ _ past)
          ∙ sym (ap (λ (b : Bool). option_and_then (slice_get xs) (cond b (Some (position_or_len p xs)) None)) past)

  -- something stands at the place of the first that passes
  pub slice_get-position : option_map (slice_get xs) (position p xs) ≡ option_map Some (find p xs)
  slice_get-position = by (nat_lt (position_or_len p xs) (length xs)) refl
    where
      by : (b : Bool) → nat_lt (position_or_len p xs) (length xs) ≡ b
          → option_map (slice_get xs) (position p xs) ≡ option_map Some (find p xs)
      by true inside =
          let there = stands_inside xs (position_or_len p xs) ((Decides-ltb _ _).0 inside) in
          ap (λ (b : Bool). option_map (slice_get xs) (cond b (Some (position_or_len p xs)) None)) inside
          ∙ ap (λ (o : Option A). Some o) there.1 ∙ sym (ap (option_map Some) (find_at p xs ∙ there.1))
      by false past =
          ap (λ (b : Bool). option_map (slice_get xs) (cond b (Some (position_or_len p xs)) None)) past
          ∙ sym (ap (option_map Some) (find_at p xs ∙ slice_get_past xs (position_or_len p xs) (past_from_test _ _ past)))

  -- there is a place where one passes
  pub some-position : is_some (position p xs) ≡ list_any p xs
  some-position =
      sym (is_some-option_map (slice_get xs) (position p xs)) ∙ ap is_some slice_get-position
      ∙ is_some-option_map (λ (x : A). Some x) (find p xs) ∙ is_some-find p xs

-- one fails where none passes
pub fails_inside : {A : Type 0} (p : A → Bool) (xs : List A) (k : ℕ) (d : A) → list_any p xs ≡ false → k < length xs
    → p (get_or xs k d) ≡ false
fails_inside p xs k d none inside = by (p (get_or xs k d)) refl
  where
    by : (b : Bool) → p (get_or xs k d) ≡ b → p (get_or xs k d) ≡ false
    by false fails = fails
    by true passes = absurd (true≢false (sym (list_any_at p xs k d inside passes) ∙ none))

-- tests that agree on the items find the same place
prefix_len-congr : {A : Type 0} (within p q : A → Bool) (xs : List A) → IsTrue (list_all within xs)
    → ((x : A) → IsTrue (within x) → p x ≡ q x) → prefix_len p xs ≡ prefix_len q xs
prefix_len-congr within p q [] all agree = refl
prefix_len-congr within p q (x ∷ xs) all agree =
    let here = agree x (and_left (within x) (list_all within xs) all) in
    let rest = prefix_len-congr within p q xs (and_right (within x) (list_all within xs) all) agree in
    λ i. cond (here i) (1 + rest i) 0

pub position-congr : {A : Type 0} (within p q : A → Bool) (xs : List A) → IsTrue (list_all within xs)
    → ((x : A) → IsTrue (within x) → p x ≡ q x) → position p xs ≡ position q xs
position-congr {A} within p q xs all agree =
    let front = prefix_len-congr within (λ (x : A). not (p x)) (λ (x : A). not (q x)) xs all (λ x w. ap not (agree x w)) in
    λ i. cond (nat_lt (front i) (length xs)) (Some (front i)) None

-- ---- texts by their places

pub bytes_eq-symm : (a b : List ℕ) → bytes_eq a b ≡ bytes_eq b a
bytes_eq-symm a b = nat_list_eq_equiv.symm a b

pub text_at_place : (texts : List (List ℕ)) (text : List ℕ) (n : ℕ) → position (bytes_eq text) texts ≡ Some n
    → (n < length texts) × (text ≡ get_or texts n [])
text_at_place texts text n found =
    let at = position-Some (bytes_eq text) texts n [] found in
    (at.0, (bytes_eq-Decides text (get_or texts n [])).0 at.1)

module _ (texts : List (List ℕ)) (distinct : IsDistinct bytes_eq texts) where
  -- texts at two places are equal exactly where the places are
  pub bytes_eq-places : (j k : ℕ) → j < length texts → k < length texts
      → bytes_eq (get_or texts j []) (get_or texts k []) ≡ (j == k)
  bytes_eq-places j k j_in k_in = by (j == k) refl
    where
      apart : j ≢ k → bytes_eq (get_or texts j []) (get_or texts k []) ≡ false
      apart differ = elim (cases_lt j k) [
        | inl before ↦ apart_from_distinct bytes_eq texts j k [] distinct before k_in
        | inr behind ↦
            let before : k < j = omega arith in
            bytes_eq-symm (get_or texts j []) (get_or texts k []) ∙ apart_from_distinct bytes_eq texts k j [] distinct before j_in
      ]

      by : (b : Bool) → (j == k) ≡ b → bytes_eq (get_or texts j []) (get_or texts k []) ≡ (j == k)
      by true same =
          let is_k = (Decides-eqb j k).0 same in
          ap (λ (n : ℕ). bytes_eq (get_or texts n []) (get_or texts k [])) is_k
          ∙ nat_list_eq_equiv.refl (get_or texts k []) ∙ sym same
      by false other =
          apart (λ is_k. true≢false (sym ((Decides-eqb j k).1 is_k) ∙ other)) ∙ sym other

  -- a text has the number at which it's found, and no other
  pub test_by_number : (text : List ℕ) (n : ℕ) → position (bytes_eq text) texts ≡ Some n → (k : ℕ) → k < length texts
      → (n == k) ≡ bytes_eq (get_or texts k []) text
  test_by_number text n found k inside =
      let at = text_at_place texts text n found in
      sym (bytes_eq-places n k at.0 inside) ∙ ap (λ (t : List ℕ). bytes_eq t (get_or texts k [])) (sym at.1)
      ∙ bytes_eq-symm text (get_or texts k [])

-- a text that isn't there has none
pub test_of_none : (texts : List (List ℕ)) (text : List ℕ) → list_any (bytes_eq text) texts ≡ false
    → (k : ℕ) → k < length texts → false ≡ bytes_eq (get_or texts k []) text
test_of_none texts text none k inside =
    sym (fails_inside (bytes_eq text) texts k [] none inside) ∙ bytes_eq-symm text (get_or texts k [])
