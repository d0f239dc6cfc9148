-- What the laws of runs say: entries and journals, their order in turns, what a step keeps, and reach order.
use Rattle.std.specs.Prelude.{◌≡◌, ℕ, ◌+◌, ◌≤◌, List, ◌∷◌, ◌++◌, true, false, Some, is_some, IsTrue, length}
use Rattle.std.specs.List.{list_all}
use Rattle.jv_model.specs.Limits.{most_entry_steps}
use Rattle.jv_model.specs.Journal.{Entry, run}
use Rattle.machine_model.specs.State.{State}
use Rattle.machine_model.specs.Reach.{reach_order, roots, children_in, reachable}
use Rattle.machine_model.specs.Machine.{Program, Machine}
use Rattle.machine_model.specs.Queue.{is_due}
use Rattle.machine_model.specs.Step.{made as stepped_to, step_of}
use Rattle.machine_model.specs.Heap.{contents_at}
use Rattle.journal_model.specs.Journal.{made, replayed, replay}
use Rattle.journal_model.specs.RoundRobin.{TakesTurns, IsRoundRobin}
use Rattle.run_laws.specs.Kept.{Counts}
use Rattle.run_laws.specs.Keeps.{Keeps}
use Rattle.run_laws.specs.Seam.{ends_behind}
use Rattle.run_laws.specs.Reached.{ListsReached, AreBelow}

-- ---- entries of steps

-- A front of a legal entry of steps is legal.
abbrev pub RunFront : Type 0
RunFront = (t few more : ℕ) (machine end : Machine) → made (run t more) machine ≡ Some end → 1 ≤ few → few ≤ more
    → (middle : Machine) × (made (run t few) machine ≡ Some middle)

-- Two entries of one thread, at whose seam nothing ends an entry, are one.
abbrev pub RunsAreOne : Type 0
RunsAreOne = (t few more : ℕ) (machine middle end : Machine) → made (run t few) machine ≡ Some middle
    → ends_behind t few machine ≡ false → made (run t more) middle ≡ Some end → few + more ≤ most_entry_steps
    → made (run t (few + more)) machine ≡ Some end

-- An entry is its parts: nothing ends it at the seam, and what follows is an entry, where an attempt that is due at the
-- seam was due at the begin.
pub record IsCut (t few more : ℕ) (machine middle end : Machine) : Type 0 where
  pub first : made (run t few) machine ≡ Some middle
  pub seam : ends_behind t few machine ≡ false
  pub second : (is_due middle ≡ true → is_due machine ≡ true) → made (run t more) middle ≡ Some end

abbrev pub RunIsParts : Type 0
RunIsParts = (t few more : ℕ) (machine end : Machine) → made (run t (few + more)) machine ≡ Some end
    → 1 ≤ few → 1 ≤ more → (middle : Machine) × IsCut t few more machine middle end

-- Steps rise by one a step, and the program and what attempts noted stay.
abbrev pub StepCounts : Type 0
StepCounts = (before : Machine) (t : ℕ) (after : Machine) → step_of before t ≡ stepped_to after → Counts 1 before after

abbrev pub RunCounts : Type 0
RunCounts = (t count : ℕ) (machine end : Machine) → made (run t count) machine ≡ Some end → Counts count machine end

-- ---- what a step keeps

-- A step of one thread leaves the classes, all other threads, and of objects what they are.
abbrev pub StepKeeps : Type 0
StepKeeps = (before : Machine) (t : ℕ) (after : Machine) → step_of before t ≡ stepped_to after
    → Keeps t before.state after.state

abbrev pub RunKeeps : Type 0
RunKeeps = (t count : ℕ) (machine end : Machine) → made (run t count) machine ≡ Some end
    → Keeps t machine.state end.state

-- ---- journals

-- A front of a legal journal is legal, and the rest is legal after it.
abbrev pub JournalFront : Type 0
JournalFront = (front rest : List Entry) (machine end : Machine) → replayed (front ++ rest) machine ≡ Some end
    → (middle : Machine) × (replayed front machine ≡ Some middle) × (replayed rest middle ≡ Some end)

-- Two journals, one after the other, are one.
abbrev pub JournalsAreOne : Type 0
JournalsAreOne = (front rest : List Entry) (machine middle end : Machine) → replayed front machine ≡ Some middle
    → replayed rest middle ≡ Some end → replayed (front ++ rest) machine ≡ Some end

-- Two entries of one thread that stand one after the other may be written as one.
abbrev pub WrittenAsOne : Type 0
WrittenAsOne = (t few more : ℕ) (rest : List Entry) (machine end : Machine)
    → replayed (run t few ∷ run t more ∷ rest) machine ≡ Some end → ends_behind t few machine ≡ false
    → few + more ≤ most_entry_steps → replayed (run t (few + more) ∷ rest) machine ≡ Some end

-- ---- the order in which threads take turns

-- A program has one journal in turns of each length at the most, it is legal, and so is each front of it.
abbrev pub OneInTurns : Type 0
OneInTurns = (program : Program) (one other : List Entry) → IsRoundRobin program one → IsRoundRobin program other
    → length one ≡ length other → one ≡ other

abbrev pub TurnsAreLegal : Type 0
TurnsAreLegal = (program : Program) (entries : List Entry) → IsRoundRobin program entries
    → (end : Machine) × (replay program entries ≡ Some end)

abbrev pub TurnsFront : Type 0
TurnsFront = (cursor : ℕ) (machine : Machine) (front rest : List Entry) → TakesTurns cursor machine (front ++ rest)
    → TakesTurns cursor machine front

-- ---- reach order

-- Reach order lists exactly what can be reached, each once, where roots and children are among the things.
abbrev pub ReachOrderLists : Type 0
ReachOrderLists = (things : ℕ) (children : ℕ → List ℕ) (roots : List ℕ) → AreBelow things children roots
    → ListsReached children roots (reach_order things children roots)

-- So do the reachable objects of a state in which each of them is there.
abbrev pub ReachableLists : Type 0
ReachableLists = (state : State) → IsTrue (list_all (λ id. is_some (contents_at state.heap id)) (reachable state))
    → ListsReached (children_in state.heap) (roots state) (reachable state)
