-- Places in code that runs, by the numbers of instructions.
use Rattle.std.specs.Prelude.{◌≡◌, ◌<◌, ◌≤◌, ◌^◌, ℕ, List, [], length, nat_le, option_map, unwrap_or, slice_get, Option, Some, None}
use Rattle.jv_model.specs.Operand.{Operand}
use Rattle.jv_model.specs.Code.{Placed, Body}
use Rattle.code_model.specs.Names.{named}
use Rattle.jv_types.specs.Code.{body_of}
use Rattle.jv_types.specs.ClassData.{pool_of}
use Rattle.jv_types.specs.declared.code.CodeBody.{CodeBody}
use Rattle.jv_types.specs.declared.class_data.Const.{Const}
use Rattle.machine_model.specs.State.{Frame}
use Rattle.machine_model.specs.LocalStep.{Local, goes_to, not_local, wrong, local_step}
use Rattle.jv_values.specs.declared.value.Value.{Value}
use Rattle.code_store.specs.Order.{Follows}
use Rattle.local_steps.specs.Steps.{frame_in, IsRight}
use Rattle.local_runs.specs.declared.step.Place.{Place}
use Rattle.local_runs.specs.declared.step.Stepped.{Stepped}

-- code with its constants; of the descriptor only stack maps speak, which no step reads
abbrev pub code_in : List Const → CodeBody → Body Operand
code_in pool body = named (pool_of pool) [] (body_of body)

-- the local step in that code
abbrev pub step_of : List Const → CodeBody → Frame → Local
step_of pool body = local_step (code_in pool body)

-- the pc of the instruction with that number
abbrev pub pc_at : {A : Type 0} → List (Placed A) → ℕ → ℕ
pc_at {A = A} instructions number =
    unwrap_or (option_map (λ (p : Placed A). p.pc) (slice_get instructions number)) 0

-- the frame of lent words at a place
abbrev pub frame_at : CodeBody → Place → List Value → List Value → Frame
frame_at body place locals stack =
    frame_in (pc_at body.instructions place.number) locals stack place.depth

-- The place is one of the code, whose instructions follow each other and have numbers of 32 bits,
-- and the operands have the code's room.
pub record IsIn (body : CodeBody) (place : Place) : Type 0 where
  pub order : Follows 0 body.instructions
  pub few : length body.instructions < 2 ^ 32
  pub there : place.number < length body.instructions
  pub inside : place.depth ≤ body.max_stack

-- the frame after a step, and the step after it, aren't wrong
abbrev pub CanGoOn : (Frame → Local) → Local → Type 0
CanGoOn step (goes_to frame) = IsRight (step frame)
CanGoOn step not_local = Unit {0}
CanGoOn step wrong = ⊥

-- where a step leads to, with the words after it
abbrev pub stepped_in : CodeBody → List Value → List Value → Option Stepped → Local
stepped_in body locals stack None = not_local
stepped_in body locals stack (Some stepped) = goes_to (frame_at body stepped.place locals stack)

-- After a step the place is one of the code, and a safe point was reached exactly where its pc
-- isn't above that of the place before.
abbrev pub IsPlaced : CodeBody → Place → Option Stepped → Type 0
IsPlaced body before None = Unit {0}
IsPlaced body before (Some stepped) =
    IsIn body stepped.place
    × (stepped.mark
    ≡ nat_le (pc_at body.instructions stepped.place.number) (pc_at body.instructions before.number))
