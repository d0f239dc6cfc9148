-- The last of the items that pass a test.
use Rattle.std.proofs.Common.{◌≡◌, ◌≢◌, ℕ, zero, suc, set, ◌-◌, ◌<◌, Bool, true, false, List, [], ◌∷◌, ◌++◌, Option, Some, None, length, position, is_some, refl, sym, ap, subst, ◌∙◌, inl, inr, append_assoc, ◌||◌, arith}
use Rattle.std.specs.Prelude.{◌⊎◌, reverse, option_map, slice_get, get_or}
use Rattle.std.specs.List.{list_any}
use Rattle.std.proofs.lemmas.Bool.{cases_lt, both_ways}
use Rattle.std.proofs.lemmas.List.{append-nil, length-append, length-reverse, get_or-reverse, reverse-append}
use Rattle.std.proofs.lemmas.List.Folds.{list_any_at, list_any-append}
use Rattle.std.proofs.lemmas.List.Quantifiers.{position-Some}
use Rattle.std.proofs.lemmas.Option.{slice_get-get_or, slice_get_within, get_or_from_slice_get}
use Rattle.class_world.proofs.Places.{some-position}
use Rattle.look_up_cache.specs.Words.{IsLast}

-- ---- places in lists

pub slice_get-old : {A : Type 0} (xs ys : List A) (j : ℕ) (y : A) → slice_get xs j ≡ Some y → slice_get (xs ++ ys) j ≡ Some y
slice_get-old [] ys j y is = absurd cc
slice_get-old (x ∷ xs) ys zero y is = is
slice_get-old (x ∷ xs) ys (suc j) y is = slice_get-old xs ys j y is

pub slice_get-new : {A : Type 0} (xs : List A) (x : A) → slice_get (xs ++ x ∷ []) (length xs) ≡ Some x
slice_get-new [] x = refl
slice_get-new (y ∷ xs) x = slice_get-new xs x

pub slice_get-more : {A : Type 0} (xs : List A) (x : A) (j : ℕ) (y : A) → slice_get (xs ++ x ∷ []) j ≡ Some y
    → (slice_get xs j ≡ Some y) ⊎ ((j ≡ length xs) × (y ≡ x))
slice_get-more [] x zero y is = let same : y ≡ x = cc in inr (refl, same)
slice_get-more [] x (suc j) y is = absurd cc
slice_get-more (z ∷ xs) x zero y is = inl is
slice_get-more (z ∷ xs) x (suc j) y is = elim (slice_get-more xs x j y is) [
  | inl old ↦ inl old
  | inr new ↦ inr (ap suc new.0, new.1)
]

pub slice_get-set : {A : Type 0} (xs : List A) (i : ℕ) (v : A) (j : ℕ) (y : A) → slice_get (set xs i v) j ≡ Some y
    → ((j ≡ i) × (y ≡ v)) ⊎ ((j ≢ i) × (slice_get xs j ≡ Some y))
slice_get-set [] i v j y is = absurd cc
slice_get-set (x ∷ xs) zero v zero y is = let same : y ≡ v = cc in inl (refl, same)
slice_get-set (x ∷ xs) zero v (suc j) y is = inr (λ e. absurd (omega arith), is)
slice_get-set (x ∷ xs) (suc i) v zero y is = inr (λ e. absurd (omega arith), is)
slice_get-set (x ∷ xs) (suc i) v (suc j) y is = elim (slice_get-set xs i v j y is) [
  | inl same ↦ inl (ap suc same.0, same.1)
  | inr other ↦ inr (λ e. other.0 (omega arith), other.1)
]

-- ---- the last item that passes

-- its place
abbrev pub last_place : {A : Type 0} → (A → Bool) → List A → Option ℕ
last_place test xs = option_map (λ (after : ℕ). length xs - 1 - after) (position test (reverse xs))

module _ {A : Type 0} (test : A → Bool) where
  -- from the end
  from_end : (xs : List A) (d : A) (after : ℕ) → position test (reverse xs) ≡ Some after → IsLast test xs (length xs - 1 - after)
  from_end xs d after is =
      let found = position-Some test (reverse xs) after d is in
      let count = length-reverse xs in
      let inside : after < length xs = omega (arith, found.0, count) in
      let k = length xs - 1 - after in
      let back : (j : ℕ) → j < length xs → get_or (reverse xs) (length xs - 1 - j) d ≡ get_or xs j d =
      λ j within. get_or-reverse xs (length xs - 1 - j) d (omega (arith, within)) ∙ ap (λ (n : ℕ). get_or xs n d) (omega (arith, within)) in
      record {
        item = get_or xs k d;
        at = slice_get-get_or xs k d (omega (arith, inside));
        passes = ap test (sym (get_or-reverse xs after d inside)) ∙ found.1;
        after = λ j y beyond there.
            (let within : j < length xs = slice_get_within xs j y there in
            ap test (sym (get_or_from_slice_get xs j y d there) ∙ sym (back j within))
            ∙ found.2 (length xs - 1 - j) (omega (arith, within, beyond, inside)));
      }

  pub last_is : (xs : List A) (k : ℕ) → last_place test xs ≡ Some k → IsLast test xs k
  last_is [] k is = absurd cc
  last_is (x ∷ xs) k is = by (position test (reverse (x ∷ xs))) refl is
    where
      by : (o : Option ℕ) → position test (reverse (x ∷ xs)) ≡ o → option_map (λ (after : ℕ). length (x ∷ xs) - 1 - after) o ≡ Some k → IsLast test (x ∷ xs) k
      by None there same = absurd cc
      by (Some after) there same =
          let at : length (x ∷ xs) - 1 - after ≡ k = cc in
          subst (IsLast test (x ∷ xs)) at (from_end (x ∷ xs) x after there)

  -- there is no other
  pub one_last : (xs : List A) (j k : ℕ) → IsLast test xs j → IsLast test xs k → j ≡ k
  one_last xs j k one other = elim (cases_lt j k) [
    | inl less ↦ absurd (both_ways (test other.item) (one.after k other.item less other.at) other.passes)
    | inr more ↦ elim (cases_lt k j) [
      | inl less ↦ absurd (both_ways (test one.item) (other.after j one.item less one.at) one.passes)
      | inr same ↦ omega arith
    ]
  ]

  from_any : (xs : List A) (o : Option ℕ) → position test (reverse xs) ≡ o → is_some o ≡ true → (k : ℕ) × (last_place test xs ≡ Some k)
  from_any xs None is some = absurd cc
  from_any xs (Some after) is some = (length xs - 1 - after, ap (option_map (λ (after : ℕ). length xs - 1 - after)) is)

  pub any_reverse : (xs : List A) → list_any test (reverse xs) ≡ list_any test xs
  any_reverse [] = refl
  any_reverse (x ∷ xs) =
      ap (list_any test) (reverse-append (x ∷ []) xs) ∙ list_any-append test (reverse xs) (x ∷ [])
      ∙ ap (λ (b : Bool). b || (test x || false)) (any_reverse xs) ∙ swapped (list_any test xs) (test x)
    where
      swapped : (a b : Bool) → (a || (b || false)) ≡ (b || a)
      swapped true true = refl
      swapped true false = refl
      swapped false true = refl
      swapped false false = refl

  -- where one passes there is a last
  pub some_last : (xs : List A) → list_any test xs ≡ true → (k : ℕ) × (last_place test xs ≡ Some k)
  some_last xs any = from_any xs (position test (reverse xs)) refl (some-position test (reverse xs) ∙ any_reverse xs ∙ any)

  pub any_last : (xs : List A) (k : ℕ) → IsLast test xs k → list_any test xs ≡ true
  any_last xs k last =
      list_any_at test xs k last.item (slice_get_within xs k last.item last.at)
      (ap test (get_or_from_slice_get xs k last.item last.item last.at) ∙ last.passes)

  pub last_found : (xs : List A) (k : ℕ) → IsLast test xs k → last_place test xs ≡ Some k
  last_found xs k last =
      let found = some_last xs (any_last xs k last) in
      found.1 ∙ ap (λ (n : ℕ). Some n) (one_last xs found.0 k (last_is xs found.0 found.1) last)

  -- one item more
  pub last_kept : (xs : List A) (x : A) (k : ℕ) → test x ≡ false → IsLast test xs k → IsLast test (xs ++ x ∷ []) k
  last_kept xs x k fails last = record {
    item = last.item;
    at = slice_get-old xs (x ∷ []) k last.item last.at;
    passes = last.passes;
    after = λ j y beyond at. elim (slice_get-more xs x j y at) [ inl old ↦ last.after j y beyond old | inr new ↦ ap test new.1 ∙ fails ];
  }

  pub last_new : (xs : List A) (x : A) → test x ≡ true → IsLast test (xs ++ x ∷ []) (length xs)
  last_new xs x passes = record {
    item = x;
    at = slice_get-new xs x;
    passes = passes;
    after = λ j y beyond at. absurd (let within = slice_get_within (xs ++ x ∷ []) j y at in omega (arith, within, beyond, length-append xs (x ∷ [])));
  }

  -- others that fail
  pub last_before : (xs ys : List A) (k : ℕ) → list_any test ys ≡ false → IsLast test xs k → IsLast test (xs ++ ys) k
  last_before xs [] k none last = subst (λ (l : List A). IsLast test l k) (sym (append-nil xs)) last
  last_before xs (y ∷ ys) k none last =
      let parts = or_false_parts (test y) (list_any test ys) none in
      subst (λ (l : List A). IsLast test l k) (append_assoc xs (y ∷ []) ys)
      (last_before (xs ++ y ∷ []) ys k parts.1 (last_kept xs y k parts.0 last))
    where
      or_false_parts : (a b : Bool) → (a || b) ≡ false → (a ≡ false) × (b ≡ false)
      or_false_parts true b h = absurd cc
      or_false_parts false b h = (refl, h)
