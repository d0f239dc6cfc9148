-- What the laws of the machine say: verified code never gets stuck, and what it leads to conforms.
use Rattle.std.specs.Prelude.{◌≡◌, ◌⊎◌, ◌≤◌, ℕ, List, true, Some, None}
use Rattle.std.specs.List.{list_all}
use Rattle.jv_model.specs.Journal.{Entry, run}
use Rattle.machine_model.specs.Heap.{Contents, contents_at}
use Rattle.machine_model.specs.State.{State}
use Rattle.machine_model.specs.Reach.{roots, children_in}
use Rattle.machine_model.specs.Machine.{Machine}
use Rattle.machine_model.specs.Ability.{lives}
use Rattle.machine_model.specs.SharedStep.{deed_of}
use Rattle.machine_model.specs.Ends.{end_of}
use Rattle.machine_model.specs.Step.{step_of}
use Rattle.machine_model.specs.Legal.{may_attempt}
use Rattle.machine_model.specs.Conforms.{contents_conform, Conforms}
use Rattle.machine_model.specs.TypedValues.{heap_typing}
use Rattle.run_laws.specs.Reached.{Reached}
use Rattle.journal_model.specs.Journal.{made, replayed}
use Rattle.machine_laws.specs.Runnable.{IsRunnable}
use Rattle.machine_laws.specs.Deeds.{IsRight, IsRightStep, is_run}

-- In a world whose code runs, what the next instruction of a live thread comes to in a state that conforms isn't wrong, and
-- the state that it leads to conforms.
abbrev pub DeedIsRight : Type 0
DeedIsRight = (state : State) → IsRunnable state.world → Conforms state → (t : ℕ)
    → lives state t ≡ true → IsRight state.world (deed_of state t)

-- So is a step of the thread.
abbrev pub StepIsRight : Type 0
StepIsRight = (machine : Machine) → IsRunnable machine.state.world
    → Conforms machine.state → (t : ℕ) → lives machine.state t ≡ true → IsRightStep (step_of machine t)

-- And after each legal entry of steps the machine conforms, in the same world.
abbrev pub RunConforms : Type 0
RunConforms = (machine end : Machine) → IsRunnable machine.state.world
    → Conforms machine.state → (t count : ℕ) → made (run t count) machine ≡ Some end
    → Conforms end.state × (end.state.world ≡ machine.state.world)

-- So it does after a legal journal without attempts.
abbrev pub JournalConforms : Type 0
JournalConforms = (entries : List Entry) (machine end : Machine) → IsRunnable machine.state.world
    → Conforms machine.state → list_all is_run entries ≡ true
    → replayed entries machine ≡ Some end → Conforms end.state × (end.state.world ≡ machine.state.world)

-- Where a run has no end and its steps aren't spent, some thread can make a step, or an attempt to update may be made.
abbrev pub CanGoOn : Type 0
CanGoOn = (machine : Machine) → IsRunnable machine.state.world
    → Conforms machine.state → machine.steps ≤ machine.program.steps → end_of machine ≡ None
    → ((t : ℕ) × (end : Machine) × (made (run t 1) machine ≡ Some end)) ⊎ (may_attempt machine ≡ true)

-- What can be reached in a state that conforms is there, and conforms.
abbrev pub ReachedConforms : Type 0
ReachedConforms = (state : State) (conforms : Conforms state) (id : ℕ) → Reached (children_in state.heap) (roots state) id
    → (contents : Contents) × (contents_at state.heap id ≡ Some contents)
    × (contents_conform (heap_typing state conforms.live) contents ≡ true)
