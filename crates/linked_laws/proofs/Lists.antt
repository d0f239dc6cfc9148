-- Items of lists: at a place, found, and of lists of lists.
use Rattle.std.proofs.Common.{◌≡◌, ℕ, zero, suc, Bool, true, false, cond, List, [], ◌∷◌, ◌++◌, Some, refl, subst, map}
use Rattle.std.specs.Prelude.{IsTrue, find, slice_get}
use Rattle.std.specs.List.{AllByRecursion, list_all}
use Rattle.std.proofs.lemmas.Bool.{and_parts}

pub all_at : {A : Type 0} (P : A → Type 0) (xs : List A) (k : ℕ) (x : A) → AllByRecursion P xs → slice_get xs k ≡ Some x → P x
all_at P [] k x all at = absurd cc
all_at P (y ∷ xs) zero x all at = let same : y ≡ x = cc in subst P same all.0
all_at P (y ∷ xs) (suc k) x all at = all_at P xs k x all.1 at

pub all_from : {A : Type 0} (P : A → Type 0) (xs : List A) → ((k : ℕ) (x : A) → slice_get xs k ≡ Some x → P x) → AllByRecursion P xs
all_from P [] each = tt
all_from P (x ∷ xs) each = (each 0 x refl, all_from P xs (λ k y at. each (suc k) y at))

pub all_pass : {A : Type 0} (p : A → Bool) (xs : List A) → IsTrue (list_all p xs) → AllByRecursion (λ x. IsTrue (p x)) xs
all_pass p [] all = tt
all_pass p (x ∷ xs) all = let parts = and_parts (p x) (list_all p xs) all in (parts.0, all_pass p xs parts.1)

pub all_append : {A : Type 0} (P : A → Type 0) (xs ys : List A) → AllByRecursion P xs → AllByRecursion P ys → AllByRecursion P (xs ++ ys)
all_append P [] ys left right = right
all_append P (x ∷ xs) ys left right = (left.0, all_append P xs ys left.1 right)

pub all_to_map : {A B : Type 0} (P : B → Type 0) (f : A → B) (xs : List A) → AllByRecursion (λ x. P (f x)) xs → AllByRecursion P (map f xs)
all_to_map P f [] all = tt
all_to_map P f (x ∷ xs) all = (all.0, all_to_map P f xs all.1)

found_by : {A : Type 0} (P : A → Type 0) (test : A → Bool) (y : A) (xs : List A) (x : A) (b : Bool) → test y ≡ b → P y → cond b (Some y) (find test xs) ≡ Some x
    → (find test xs ≡ Some x → IsTrue (test x) × P x) → IsTrue (test x) × P x
found_by {A} P test y xs x true is holds e rest = let same : y ≡ x = cc in subst (λ (z : A). IsTrue (test z) × P z) same (is, holds)
found_by P test y xs x false is holds e rest = rest e

-- what is found passes, and what holds of all holds of it
pub found_holds : {A : Type 0} (P : A → Type 0) (test : A → Bool) (xs : List A) (x : A) → AllByRecursion P xs → find test xs ≡ Some x → IsTrue (test x) × P x
found_holds P test [] x all e = absurd cc
found_holds P test (y ∷ xs) x all e = found_by P test y xs x (test y) refl all.0 e (found_holds P test xs x all.1)

-- what is found passes
pub found_passes : {A : Type 0} (test : A → Bool) (xs : List A) (x : A) → find test xs ≡ Some x → IsTrue (test x)
found_passes {A} test xs x e = (found_holds (λ (y : A). Unit {0}) test xs x (trivially xs) e).0
  where
    trivially : (ys : List A) → AllByRecursion (λ (y : A). Unit {0}) ys
    trivially [] = tt
    trivially (y ∷ ys) = (tt, trivially ys)
