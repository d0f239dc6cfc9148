-- What the laws of states say: steps keep what the machine itself keeps, whatever code it runs.
use Rattle.std.specs.Prelude.{◌≡◌, ℕ, IsTrue, nat_le, Some, ⊤}
use Rattle.jv_model.specs.Limits.{most_frame_words}
use Rattle.jv_model.specs.Journal.{run}
use Rattle.world_model.specs.World.{World}
use Rattle.machine_model.specs.State.{Frame, State}
use Rattle.machine_model.specs.CallSteps.{frame_words}
use Rattle.machine_model.specs.Deed.{Deed, does}
use Rattle.machine_model.specs.SharedStep.{deed_of}
use Rattle.machine_model.specs.Machine.{Machine}
use Rattle.machine_model.specs.Step.{made, step_of}
use Rattle.machine_model.specs.WellKept.{WellKept}
use Rattle.journal_model.specs.Journal.{made as made_by}

-- no method has more words for a frame than frames may have
abbrev pub FramesFit : World → Type 0
FramesFit world = (frame : Frame) → IsTrue (nat_le (frame_words world frame) most_frame_words)

-- where a deed does something, the state that it leaves is well kept
abbrev pub KeptIn : Deed → Type 0
KeptIn (does words mark state) = WellKept state
KeptIn other = ⊤

abbrev pub DeedIsKept : Type 0
DeedIsKept = (state : State) (t : ℕ) → FramesFit state.world → WellKept state → KeptIn (deed_of state t)

abbrev pub StepIsKept : Type 0
StepIsKept = (before : Machine) (t : ℕ) (after : Machine) → FramesFit before.state.world → WellKept before.state
    → step_of before t ≡ made after → WellKept after.state

abbrev pub RunIsKept : Type 0
RunIsKept = (before after : Machine) (t count : ℕ) → FramesFit before.state.world → WellKept before.state
    → made_by (run t count) before ≡ Some after → WellKept after.state
