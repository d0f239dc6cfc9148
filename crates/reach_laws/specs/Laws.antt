-- What the laws of reach say: whatever code it runs, a step reaches what was in reach before and what it
-- makes, and nothing that was out of reach comes back.
use Rattle.std.specs.Prelude.{◌≡◌, ℕ, ◌<◌, ◌⊎◌, List, true, Some, length}
use Rattle.std.specs.List.{list_all}
use Rattle.jv_model.specs.Journal.{Entry, run}
use Rattle.machine_model.specs.State.{State}
use Rattle.machine_model.specs.Reach.{roots, children_in, reachable}
use Rattle.machine_model.specs.SharedStep.{deed_of}
use Rattle.machine_model.specs.Machine.{Machine}
use Rattle.machine_model.specs.Step.{made as stepped_to, step_of}
use Rattle.machine_model.specs.Conforms.{Conforms}
use Rattle.journal_model.specs.Journal.{made, replayed}
use Rattle.run_laws.specs.Reached.{ListsReached}
use Rattle.machine_laws.specs.Runnable.{IsRunnable}
use Rattle.machine_laws.specs.Deeds.{is_run}
use Rattle.reach_laws.specs.Reaching.{IsReached, ReachesOneMore, ReachesIn, ReachesNewOnes, IsMadeSince}

-- What the next instruction of a thread leaves reaches what was in reach before, and the one object that it
-- makes.
abbrev pub DeedReaches : Type 0
DeedReaches = (state : State) (t : ℕ) → ReachesIn state (deed_of state t)

-- So does a step, also one that throws.
abbrev pub StepReaches : Type 0
StepReaches = (before : Machine) (t : ℕ) (after : Machine) → step_of before t ≡ stepped_to after
    → ReachesOneMore before.state after.state

-- An entry of steps reaches what was in reach before, and objects that it makes.
abbrev pub RunReaches : Type 0
RunReaches = (t count : ℕ) (machine end : Machine) → made (run t count) machine ≡ Some end
    → ReachesNewOnes machine.state end.state

-- So does a journal without attempts.
abbrev pub JournalReaches : Type 0
JournalReaches = (entries : List Entry) (machine end : Machine) → list_all is_run entries ≡ true
    → replayed entries machine ≡ Some end → ReachesNewOnes machine.state end.state

-- An object that is out of reach stays so, through any journal without attempts.
abbrev pub NothingComesBack : Type 0
NothingComesBack = (entries : List Entry) (machine end : Machine) → list_all is_run entries ≡ true
    → replayed entries machine ≡ Some end → (id : ℕ) → id < length machine.state.heap → (IsReached machine.state id → ⊥)
    → IsReached end.state id → ⊥

-- Where the world's code runs and the state conforms, what can be reached after such a journal was in reach
-- before or was made since.
abbrev pub TypedReaches : Type 0
TypedReaches = (entries : List Entry) (machine end : Machine) → IsRunnable machine.state.world → Conforms machine.state
    → list_all is_run entries ≡ true → replayed entries machine ≡ Some end
    → (id : ℕ) → IsReached end.state id → IsReached machine.state id ⊎ IsMadeSince machine.state end.state id

-- In a state that conforms reach order lists exactly what can be reached, each once.
abbrev pub ConformingLists : Type 0
ConformingLists = (state : State) → Conforms state
    → ListsReached (children_in state.heap) (roots state) (reachable state)
