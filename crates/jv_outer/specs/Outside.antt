-- What is known of a call that reaches outside.
use Rattle.std.specs.Prelude.{◌≡◌, ℕ, ◌+◌, ◌<◌, ◌⊎◌, List, Option, Result, IfSome, IsSomeAnd, IsErrOf, OnOk, length, take}
use Rattle.jv_model.specs.Outside.{Folder, followed_by, counted}

-- The count of faults rises by one where this failure is answered, where it can rise, and stays
-- where the call is Ok.
-- A call for which there was no memory may have failed, too.
pub record HasCause {T E : Type 0} (failure no_memory : E) (before now : ℕ) (result : Result T E)
    : Type 0 where
  pub ok : OnOk result (now ≡ before)
  pub failed : IsErrOf result failure → now ≡ counted before
  pub starved : IsErrOf result no_memory → (now ≡ before) ⊎ (now ≡ counted before)

-- These are the bytes of the file of that name, or the first limit + 1 of them, where the files are
-- told.
abbrev pub IsReadOf : Option Folder → List ℕ → ℕ → List ℕ → Type 0
IsReadOf told name limit bytes =
    IfSome told (λ folder. IsSomeAnd (folder name) (λ file. bytes ≡ take (limit + 1) file))

-- the first bytes of the text came, and not all of them
abbrev pub GotPartOf : List ℕ → Option (List ℕ) → Option (List ℕ) → Type 0
GotPartOf text before now =
    (count : ℕ) × (count < length text) × (now ≡ followed_by before (take count text))
