-- Numbers for the signatures of one class after the other.
use Rattle.std.specs.Prelude.{◌≡◌, ℕ, List, [], ◌∷◌, ◌++◌, Bool, Some, if◌then◌else◌, map, slice_get}
use Rattle.class_names.specs.declared.signatures.Signature.{Signature}
use Rattle.class_world.specs.Signatures.{Pair, Spells, AddsSignature}
use Rattle.class_methods.specs.Signatures.{AreApart}
use Rattle.class_methods.specs.declared.filling.Filling.{Filling}

-- A name and a descriptor are added where they aren't there, and have this number.
pub record GivesNumber (texts more : List (List ℕ)) (rows added : List Signature) (pair : Pair) (number : ℕ) : Type 0 where
  pub is_new : Bool
  pub adds : AddsSignature texts more rows added pair is_new
  pub at : (pairs : List Pair) → Spells texts rows pairs
      → slice_get (if is_new then pairs ++ pair ∷ [] else pairs) number ≡ Some pair

-- The rows of classes, and that of the next one so far, have the numbers of these names and descriptors.
pub record HaveNumbers (filling : Filling) (rows : List (List ℕ)) (all : List (List Pair)) (row : List ℕ) (own : List Pair)
    : Type 0 where
  pub pairs : List Pair
  pub spells : Spells filling.texts filling.signatures pairs
  pub apart : AreApart pairs
  pub rows_are : map (map (slice_get pairs)) rows ≡ map (map (λ (p : Pair). Some p)) all
  pub row_is : map (slice_get pairs) row ≡ map (λ (p : Pair). Some p) own

-- The numbers of methods are added to the row of their class,
abbrev pub AddsMethods : Filling → Filling → List ℕ → List ℕ → List Pair → Type 0
AddsMethods old new row longer more =
    (rows : List (List ℕ)) (all : List (List Pair)) (own : List Pair)
    → HaveNumbers old rows all row own → HaveNumbers new rows all longer (own ++ more)

-- and those of a class.
abbrev pub AddsClass : Filling → Filling → List (List ℕ) → List (List ℕ) → List Pair → Type 0
AddsClass old new rows longer own =
    (all : List (List Pair)) → HaveNumbers old rows all [] [] → HaveNumbers new longer (all ++ own ∷ []) [] []
