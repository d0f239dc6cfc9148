-- The order in which `run` lets threads go: each in its turn, for a slice of steps.
use Rattle.std.specs.Prelude.{◌≡◌, ℕ, ◌+◌, ◌≤◌, List, [], ◌∷◌, ◌++◌, Option, Some, IfSome, IsTrue, IsFalse, length, take, drop, find}
use Rattle.std.specs.List.{range_with_len}
use Rattle.jv_model.specs.Limits.{most_slice_steps}
use Rattle.jv_model.specs.Journal.{Entry, run, attempt}
use Rattle.machine_model.specs.Machine.{Program, Machine}
use Rattle.machine_model.specs.Start.{start}
use Rattle.journal_model.specs.Journal.{made, is_legal}

-- the numbers of so many threads, from the cursor on and round
abbrev pub turns_from : ℕ → ℕ → List ℕ
turns_from cursor count = let threads = range_with_len 0 count in drop cursor threads ++ take cursor threads

-- the first thread from the cursor on and round that can make a step
abbrev pub next_thread : ℕ → Machine → Option ℕ
next_thread cursor machine = find (λ t. is_legal (run t 1) machine) (turns_from cursor (length machine.state.threads))

-- the greatest number of steps up to the slice's that thread t can make
pub record IsSlice (machine : Machine) (t count : ℕ) : Type 0 where
  pub legal : IsTrue (is_legal (run t count) machine)
  pub within : count ≤ most_slice_steps
  pub greatest : (more : ℕ) → more ≤ most_slice_steps → IsTrue (is_legal (run t more) machine) → more ≤ count

-- An update is tried where that is legal. Else the entry is the slice of the thread whose turn it is, and the turn
-- behind it is that of the next number.
unfoldable pub TakesTurns : ℕ → Machine → List Entry → Type 0
TakesTurns cursor machine [] = Unit {0}
TakesTurns cursor machine (attempt ∷ entries) =
    IsTrue (is_legal attempt machine) × IfSome (made attempt machine) (λ next. TakesTurns cursor next entries)
TakesTurns cursor machine (run t count ∷ entries) =
    IsFalse (is_legal attempt machine) × (next_thread cursor machine ≡ Some t) × IsSlice machine t count
    × IfSome (made (run t count) machine) (λ next. TakesTurns (t + 1) next entries)

-- a front of the program's round-robin journal, which is all of it where it leads to the run's end
abbrev pub IsRoundRobin : Program → List Entry → Type 0
IsRoundRobin program entries = TakesTurns 0 (start program) entries
