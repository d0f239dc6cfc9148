-- The first that some item of a list has, by number.
use Rattle.std.proofs.Common.{◌≡◌, ℕ, zero, suc, ◌+◌, ◌<◌, ◌≤◌, List, [], ◌∷◌, ◌++◌, Option, Some, None, length, drop, slice_get, refl, ap, sym, ◌∙◌, inl, inr, arith}
use Rattle.std.proofs.lemmas.List.{at_drop_more, at_drop_all}
use Rattle.std.proofs.lemmas.Option.{get_or_from_slice_get, slice_get_within}
use Rattle.std.specs.Prelude.{◌⊎◌}
use Rattle.std.specs.List.{flat_map, filter_map, cons_option}
use Rattle.jv_model.specs.Partial.{or_else, first_of}

-- ---- the first of two

none_of : {A : Type 0} (first second : Option A) → or_else first second ≡ None → (first ≡ None) × (second ≡ None)
none_of None second e = (refl, e)
none_of (Some a) second e = absurd cc

some_of : {A : Type 0} (first second : Option A) (a : A) → or_else first second ≡ Some a
    → (first ≡ Some a) ⊎ ((first ≡ None) × (second ≡ Some a))
some_of None second a e = inr (refl, e)
some_of (Some b) second a e = inl e

-- ---- the first of a list

-- The item with that number has it, and none before.
pub record IsFirstAt {A B : Type 0} (has : A → Option B) (xs : List A) (found : B) : Type 0 where
  pub number : ℕ
  pub item : A
  pub at : slice_get xs number ≡ Some item
  pub has_it : has item ≡ Some found
  pub before : (k : ℕ) (x : A) → k < number → slice_get xs k ≡ Some x → has x ≡ None

pub none_at : {A B : Type 0} (has : A → Option B) (xs : List A) → first_of has xs ≡ None
    → (k : ℕ) (x : A) → slice_get xs k ≡ Some x → has x ≡ None
none_at has [] e k x at = absurd cc
none_at has (y ∷ xs) e zero x at =
    let same : y ≡ x = cc in ap has (sym same) ∙ (none_of (has y) (first_of has xs) e).0
none_at has (y ∷ xs) e (suc k) x at = none_at has xs (none_of (has y) (first_of has xs) e).1 k x at

pub at_none : {A B : Type 0} (has : A → Option B) (xs : List A)
    → ((k : ℕ) (x : A) → slice_get xs k ≡ Some x → has x ≡ None) → first_of has xs ≡ None
at_none has [] all = refl
at_none has (y ∷ xs) all = rw (all zero y refl) (at_none has xs (λ k x at. all (suc k) x at))

pub some_at : {A B : Type 0} (has : A → Option B) (xs : List A) (found : B) → first_of has xs ≡ Some found
    → IsFirstAt has xs found
some_at has [] found e = absurd cc
some_at has (y ∷ xs) found e = by (some_of (has y) (first_of has xs) found e) (some_at has xs found)
  where
    before : (n : ℕ) → has y ≡ None → ((k : ℕ) (x : _) → k < n → slice_get xs k ≡ Some x → has x ≡ None)
        → (k : ℕ) (x : _) → k < suc n → slice_get (y ∷ xs) k ≡ Some x → has x ≡ None
    before n first more zero x low at = let same : y ≡ x = cc in ap has (sym same) ∙ first
    before n first more (suc k) x low at = more k x (omega arith) at

    by : (has y ≡ Some found) ⊎ ((has y ≡ None) × (first_of has xs ≡ Some found))
        → (first_of has xs ≡ Some found → IsFirstAt has xs found) → IsFirstAt has (y ∷ xs) found
    by (inl here) rest =
        record { number = 0; item = y; at = refl; has_it = here; before = λ k x low at. absurd (omega arith) }
    by (inr there) rest =
        let more = rest there.1 in record {
          number = suc more.number;
          item = more.item;
          at = more.at;
          has_it = more.has_it;
          before = before more.number there.0 more.before;
        }

pub at_some : {A B : Type 0} (has : A → Option B) (xs : List A) (found : B) → IsFirstAt has xs found
    → first_of has xs ≡ Some found
at_some has xs found is = by xs is.number is.at is.before
  where
    by : (xs : List _) (n : ℕ) → slice_get xs n ≡ Some is.item
        → ((k : ℕ) (x : _) → k < n → slice_get xs k ≡ Some x → has x ≡ None) → first_of has xs ≡ Some found
    by [] n at before = absurd cc
    by (y ∷ ys) zero at before = let same : y ≡ is.item = cc in rw (ap has same ∙ is.has_it) refl
    by (y ∷ ys) (suc n) at before =
        rw (before 0 y (omega arith) refl) (by ys n at (λ k x low there. before (suc k) x (omega arith) there))

-- ---- heads of lists

head_append : {A : Type 0} (xs ys : List A) → slice_get (xs ++ ys) 0 ≡ or_else (slice_get xs 0) (slice_get ys 0)
head_append [] ys = refl
head_append (x ∷ xs) ys = refl

head_cons : {A : Type 0} (o : Option A) (xs : List A) → slice_get (cons_option o xs) 0 ≡ or_else o (slice_get xs 0)
head_cons None xs = refl
head_cons (Some x) xs = refl

pub head_filter : {A B : Type 0} (has : A → Option B) (xs : List A) → slice_get (filter_map has xs) 0 ≡ first_of has xs
head_filter has [] = refl
head_filter has (x ∷ xs) = head_cons (has x) (filter_map has xs) ∙ ap (or_else (has x)) (head_filter has xs)

pub head_flat : {A B : Type 0} (rows : A → List B) (xs : List A)
    → slice_get (flat_map rows xs) 0 ≡ first_of (λ x. slice_get (rows x) 0) xs
head_flat rows [] = refl
head_flat rows (x ∷ xs) = head_append (rows x) (flat_map rows xs) ∙ ap (or_else (slice_get (rows x) 0)) (head_flat rows xs)

-- ---- one item after the other

module _ {A B : Type 0} (has : A → Option B) (xs : List A) (i : ℕ) (whole : Option B) (so_far : first_of has (drop i xs) ≡ whole) where
  step : (x : A) → slice_get xs i ≡ Some x → or_else (has x) (first_of has (drop (i + 1) xs)) ≡ whole
  step x at =
      ap (λ (y : A). or_else (has y) (first_of has (drop (i + 1) xs))) (sym (get_or_from_slice_get xs i x x at))
      ∙ sym (at_drop_more (first_of has) xs i x (slice_get_within xs i x at)) ∙ so_far

  -- this one has it
  pub first_here : (x : A) (found : B) → slice_get xs i ≡ Some x → has x ≡ Some found → whole ≡ Some found
  first_here x found at it = sym (step x at) ∙ ap (λ (o : Option B). or_else o (first_of has (drop (i + 1) xs))) it

  -- this one has none
  pub first_later : (x : A) → slice_get xs i ≡ Some x → has x ≡ None → first_of has (drop (i + 1) xs) ≡ whole
  first_later x at none = sym (ap (λ (o : Option B). or_else o (first_of has (drop (i + 1) xs))) none) ∙ step x at

  -- there are no more
  pub first_end : length xs ≤ i → whole ≡ None
  first_end end = sym so_far ∙ at_drop_all (first_of has) xs i end
