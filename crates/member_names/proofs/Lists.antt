-- Places in lists in which nothing stands twice.
use Rattle.std.proofs.Common.{◌≡◌, ℕ, zero, suc, ◌||◌, not, Bool, true, false, List, [], ◌∷◌, Some, slice_get, if◌then◌else◌, refl, ap, sym, subst, ◌∙◌, true≢false, arith}
use Rattle.std.specs.Prelude.{find, bytes_eq}
use Rattle.std.specs.List.{AllByRecursion, IsDistinct, list_any, list_all}
use Rattle.std.proofs.lemmas.Bool.{or_left, or_right, and_parts}
use Rattle.std.proofs.lemmas.Map.Keys.{IsDistinct-head, IsDistinct-tail}
use Rattle.std.proofs.lemmas.Slice.Eq.{bytes_eq-Decides}
use Rattle.link_model.specs.ClassFaults.{has_twice}

all_at : {A : Type 0} (P : A → Type 0) (xs : List A) (k : ℕ) (x : A) → AllByRecursion P xs → slice_get xs k ≡ Some x → P x
all_at P [] k x all at = absurd cc
all_at P (y ∷ xs) zero x all at = let same : y ≡ x = cc in subst P same all.0
all_at P (y ∷ xs) (suc k) x all at = all_at P xs k x all.1 at

pub passes_at : {A : Type 0} (p : A → Bool) (xs : List A) (k : ℕ) (x : A) → list_all p xs ≡ true → slice_get xs k ≡ Some x → p x ≡ true
passes_at p [] k x all at = absurd cc
passes_at p (y ∷ xs) zero x all at =
    let same : y ≡ x = cc in ap p (sym same) ∙ (and_parts (p y) (list_all p xs) all).0
passes_at p (y ∷ xs) (suc k) x all at = passes_at p xs k x (and_parts (p y) (list_all p xs) all).1 at

any_at : {A : Type 0} (p : A → Bool) (xs : List A) (k : ℕ) (x : A) → slice_get xs k ≡ Some x → p x ≡ true → list_any p xs ≡ true
any_at p [] k x at passes = absurd cc
any_at p (y ∷ xs) zero x at passes =
    let same : y ≡ x = cc in or_left (p y) (list_any p xs) (ap p same ∙ passes)
any_at p (y ∷ xs) (suc k) x at passes = or_right (p y) (list_any p xs) (any_at p xs k x at passes)

pub same_text : (m n : List ℕ) → bytes_eq m n ≡ true → m ≡ n
same_text m n h = (bytes_eq-Decides m n).0 h

pub text_same : (m n : List ℕ) → m ≡ n → bytes_eq m n ≡ true
text_same m n e = (bytes_eq-Decides m n).1 e

-- a text stands at one place
pub one_place : (xs : List (List ℕ)) (i j : ℕ) (x : List ℕ) → IsDistinct bytes_eq xs → slice_get xs i ≡ Some x → slice_get xs j ≡ Some x → i ≡ j
one_place [] i j x apart at there = absurd cc
one_place (y ∷ xs) zero zero x apart at there = refl
one_place (y ∷ xs) zero (suc j) x apart at there =
    let same : y ≡ x = cc in
    absurd (true≢false (sym (text_same y x same)
    ∙ all_at (λ z. bytes_eq y z ≡ false) xs j x (IsDistinct-head bytes_eq y xs apart) there))
one_place (y ∷ xs) (suc i) zero x apart at there =
    let same : y ≡ x = cc in
    absurd (true≢false (sym (text_same y x same)
    ∙ all_at (λ z. bytes_eq y z ≡ false) xs i x (IsDistinct-head bytes_eq y xs apart) at))
one_place (y ∷ xs) (suc i) (suc j) x apart at there =
    ap suc (one_place xs i j x (IsDistinct-tail bytes_eq y xs apart) at there)

pub neither : (a b : Bool) → (a || b) ≡ false → (a ≡ false) × (b ≡ false)
neither false false none = (refl, refl)
neither false true none = absurd cc
neither true b none = absurd cc

-- where no two are the same, those that are the same stand at one place
pub one_index : {A : Type 0} (same : A → A → Bool) (xs : List A) (i j : ℕ) (x y : A) → has_twice same xs ≡ false
    → slice_get xs i ≡ Some x → slice_get xs j ≡ Some y → same x y ≡ true → same y x ≡ true → i ≡ j
unfolding has_twice
one_index same [] i j x y once at there like back = absurd cc
one_index same (z ∷ xs) zero zero x y once at there like back = refl
one_index same (z ∷ xs) zero (suc j) x y once at there like back =
    let is : z ≡ x = cc in
    absurd (true≢false (sym (any_at (same z) xs j y there (ap (λ w. same w y) is ∙ like))
    ∙ (neither (list_any (same z) xs) (has_twice same xs) once).0))
one_index same (z ∷ xs) (suc i) zero x y once at there like back =
    let is : z ≡ y = cc in
    absurd (true≢false (sym (any_at (same z) xs i x at (ap (λ w. same w x) is ∙ back))
    ∙ (neither (list_any (same z) xs) (has_twice same xs) once).0))
one_index same (z ∷ xs) (suc i) (suc j) x y once at there like back =
    ap suc (one_index same xs i j x y (neither (list_any (same z) xs) (has_twice same xs) once).1 at there like back)

-- the only one that passes is found
pub found_at : {A : Type 0} (p : A → Bool) (xs : List A) (k : ℕ) (x : A) → slice_get xs k ≡ Some x → p x ≡ true
    → ((j : ℕ) (y : A) → slice_get xs j ≡ Some y → p y ≡ true → j ≡ k) → find p xs ≡ Some x
found_at p [] k x at passes only = absurd cc
found_at p (y ∷ xs) zero x at passes only =
    let is : y ≡ x = cc in
    ap (λ z. if p z then Some z else find p xs) is ∙ ap (λ (b : Bool). if b then Some x else find p xs) passes
found_at p (y ∷ xs) (suc k) x at passes only =
    by (found_at p xs k x at passes (λ j z there also. let one : suc j ≡ suc k = only (suc j) z there also in omega (arith, one))) (p y) refl
  where
    by : find p xs ≡ Some x → (b : Bool) → p y ≡ b → (if p y then Some y else find p xs) ≡ Some x
    by rest true is = absurd (let one : zero ≡ suc k = only zero y refl is in omega (arith, one))
    by rest false is = ap (λ (b : Bool). if b then Some y else find p xs) is ∙ rest

pub turned : (b : Bool) → not b ≡ true → b ≡ false
turned false is = refl
turned true is = absurd cc
