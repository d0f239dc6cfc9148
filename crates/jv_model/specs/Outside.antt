-- What lies outside a program: files by their names, the bytes that a sink has, and counts of calls that failed.
use Rattle.std.specs.Prelude.{◌≡◌, ℕ, ◌+◌, ◌^◌, ◌-◌, ◌≤◌, List, ◌++◌, Option, None, min}
use Rattle.std.specs.Option.{option_map}

-- what a file's name stands for, where there is such a file
abbrev pub Folder : Type 0
Folder = List ℕ → Option (List ℕ)

abbrev pub no_files : Folder
no_files name = None

-- the known bytes, and then these
abbrev pub followed_by : Option (List ℕ) → List ℕ → Option (List ℕ)
followed_by known bytes = option_map (λ held. held ++ bytes) known

-- ---- faults

-- how many calls are counted at the most
abbrev pub most_counted_calls : ℕ
most_counted_calls = 2 ^ 64 - 1

-- the count after one more call; it stands still where it can rise no more
abbrev pub counted : ℕ → ℕ
counted calls = min (calls + 1) most_counted_calls

-- the count rose, or stands where it can rise no more
abbrev pub Rose : ℕ → ℕ → Type 0
Rose before now = counted before ≤ now
