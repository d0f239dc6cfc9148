-- A text without a fault has none in any of its parts.
use Rattle.std.proofs.Common.{◌≡◌, ℕ, List, [], ◌∷◌, ◌++◌, Bool, true, false, Option, Some, None, Ok, refl}
use Rattle.std.specs.Prelude.{flat_map}
use Rattle.std.specs.List.{AllByRecursion}
use Rattle.jv_model.specs.Fallible.{unless}
use Rattle.jv_model.specs.Refusal.{LineKind}
use Rattle.text_model.specs.LineFaults.{Fault, at_line, first_fault, unless_true, where_true}

-- what is given unless there is a fault
pub none_told : {A : Type 0} (told : Option Fault) (x y : A) → unless told x ≡ Ok y → (told ≡ None) × (x ≡ y)
none_told None x y is = (refl, cc)
none_told (Some fault) x y is = absurd cc

pub none_there : (faults : List Fault) → first_fault faults ≡ None → faults ≡ []
unfolding first_fault
none_there [] none = refl
none_there (fault ∷ faults) none = absurd cc

-- neither of two lists has one
pub neither : {A : Type 0} (xs ys : List A) → xs ++ ys ≡ [] → (xs ≡ []) × (ys ≡ [])
neither [] ys none = (refl, none)
neither (x ∷ xs) ys none = absurd cc

-- nor has any of many
pub none_of : {A B : Type 0} (f : A → List B) (xs : List A) → flat_map f xs ≡ [] → AllByRecursion (λ x. f x ≡ []) xs
none_of f [] none = tt
none_of f (x ∷ xs) none = let parts = neither (f x) (flat_map f xs) none in (parts.0, none_of f xs parts.1)

-- a test that tells no fault
pub test_holds : (line : ℕ) (kind : LineKind) (test : Bool) → at_line line (unless_true test kind) ≡ [] → test ≡ true
test_holds line kind true none = refl
test_holds line kind false none = absurd cc

pub test_fails : (line : ℕ) (kind : LineKind) (test : Bool) → at_line line (where_true test kind) ≡ [] → test ≡ false
test_fails line kind true none = absurd cc
test_fails line kind false none = refl
