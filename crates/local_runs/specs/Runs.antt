-- Steps of one kind, one after another, and the safe points that they reach.
use Rattle.std.specs.Prelude.{◌≡◌, ◌<◌, ◌≤◌, ℕ, zero, suc, Bool, false, nat_le, Option, Some, None, find, if◌then◌else◌}
use Rattle.std.specs.List.{range_with_len}
use Rattle.jv_model.specs.Partial.{◌>>=◌}
use Rattle.machine_model.specs.State.{Frame}
use Rattle.machine_model.specs.LocalStep.{Local, goes_to, not_local}
use Rattle.local_steps.specs.Steps.{IsRight}
use Rattle.local_runs.specs.declared.run.Ran.{Ran}

-- the frame that a step goes to
abbrev pub frame_reached : Local → Option Frame
frame_reached (goes_to frame) = Some frame
frame_reached other = None

-- the frame after so many steps, where so many can be made
abbrev pub frame_after : (Frame → Local) → Frame → ℕ → Option Frame
frame_after step frame zero = Some frame
frame_after step frame (suc n) = frame_after step frame n >>= λ before. frame_reached (step before)

-- A step reaches a safe point where it goes to a pc that isn't above its own.
abbrev pub goes_back : Option Frame → Option Frame → Bool
goes_back (Some before) (Some after) = nat_le after.pc before.pc
goes_back before after = false

-- whether the step with that number, counted from 1, reaches a safe point
abbrev pub reaches : (Frame → Local) → Frame → ℕ → Bool
reaches step frame zero = false
reaches step frame (suc n) = goes_back (frame_after step frame n) (frame_after step frame (suc n))

-- the least number of steps, of so many, after which a safe point was reached
abbrev pub first_reached : (Frame → Local) → Frame → ℕ → Option ℕ
first_reached step frame steps = find (reaches step frame) (range_with_len 1 steps)

abbrev pub GoesRight : (Frame → Local) → Option Frame → Type 0
GoesRight step None = Unit {0}
GoesRight step (Some frame) = IsRight (step frame)

-- no list of steps from the frame meets one that is wrong
abbrev pub NeverWrong : (Frame → Local) → Frame → Type 0
NeverWrong step frame = (n : ℕ) → GoesRight step (frame_after step frame n)

-- the least number of steps after which a safe point was reached, with one step more
abbrev pub first_with : Option ℕ → Bool → ℕ → Option ℕ
first_with (Some first) mark steps = Some first
first_with None mark steps = if mark then Some steps else None

-- The steps that were made lead from one frame to the other, and no more of them could be made.
pub record IsRun (step : Frame → Local) (start now : Frame) (max : ℕ) (ran : Ran) : Type 0 where
  pub few : ran.steps ≤ max
  pub reached : frame_after step start ran.steps ≡ Some now
  pub most : ran.steps < max → step now ≡ not_local
  pub first : ran.first ≡ first_reached step start ran.steps
  pub mark : ran.mark ≡ reaches step start ran.steps
