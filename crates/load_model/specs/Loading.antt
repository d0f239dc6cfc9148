-- Loading: what a command's files say, or the first refusal; and the names of the files that it comes to.
use Rattle.std.specs.Prelude.{ℕ, ◌+◌, List, [], ◌∷◌, ◌++◌, if◌then◌else◌, nat_lt, Option, Some, None, Result, Ok, Err, length, take}
use Rattle.jv_model.specs.Refusal.{Cause, above_limit, whole_file}
use Rattle.jv_model.specs.Outside.{Folder}

pub data Answer (A : Type 0) : Type 0 where
  loads : A → Answer A
  -- the number of the manifest's item, or 0; the class within that item, or 0; and why
  refuses : ℕ → ℕ → Cause → Answer A
  -- a file that it comes to isn't there
  misses : Answer A

pub record Loading (A : Type 0) : Type 0 where
  -- the names of the files that it comes to, in order
  pub asked : List (List ℕ)
  pub answer : Answer A

abbrev pub behind_names : {A : Type 0} → List (List ℕ) → Loading A → Loading A
behind_names asked later = record { asked = asked ++ later.asked; answer = later.answer }

abbrev pub goes_on : {A B : Type 0} → List (List ℕ) → Answer A → (A → Loading B) → Loading B
goes_on asked (loads x) next = behind_names asked (next x)
goes_on asked (refuses item sub cause) next = record { asked = asked; answer = refuses item sub cause }
goes_on asked misses next = record { asked = asked; answer = misses }

-- Loading goes on, or ends at the first refusal or at a file that isn't there.
infixl 10 ◌>>=◌
abbrev pub ◌>>=◌ : {A B : Type 0} → Loading A → (A → Loading B) → Loading B
first >>= next = goes_on first.asked first.answer next

-- without a file
abbrev pub answers : {A : Type 0} → Answer A → Loading A
answers answer = record { asked = []; answer = answer }

abbrev pub yields : {A : Type 0} → A → Loading A
yields x = answers (loads x)

-- what was read of a class of an item, or its refusal there
abbrev pub placed : {A : Type 0} → ℕ → ℕ → Result A Cause → Loading A
placed item sub (Ok x) = answers (loads x)
placed item sub (Err cause) = answers (refuses item sub cause)

-- ---- files

-- A file is read up to the first byte above its limit.
abbrev pub within : ℕ → ℕ → ℕ → Option (List ℕ) → Answer (List ℕ)
within limit item sub None = misses
within limit item sub (Some bytes) =
    if nat_lt limit (length (take (limit + 1) bytes))
    then refuses item sub (above_limit whole_file (length (take (limit + 1) bytes))) else loads bytes

-- the file of that name, which has at most so many bytes, for a class of an item
unfoldable pub file_at : Folder → List ℕ → ℕ → ℕ → ℕ → Loading (List ℕ)
file_at folder name limit item sub = record { asked = name ∷ []; answer = within limit item sub (folder name) }
