-- Local steps of a frame whose words stand among those of its thread.
use Rattle.std.specs.Prelude.{◌≡◌, ◌≤◌, ◌+◌, ℕ, List, [], None, length, reverse, take, drop}
use Rattle.jv_types.specs.declared.code.CodeBody.{CodeBody}
use Rattle.jv_types.specs.declared.class_data.Const.{Const}
use Rattle.machine_model.specs.State.{Frame}
use Rattle.jv_values.specs.declared.value.Value.{Value}
use Rattle.jv_values.specs.Values.{values_of}
use Rattle.local_runs.specs.Places.{step_of, pc_at, IsIn}
use Rattle.local_runs.specs.Runs.{NeverWrong, IsRun}
use Rattle.local_runs.specs.declared.run.Ran.{Ran}
use Rattle.local_runs.specs.declared.step.Place.{Place}

-- a frame at a pc, whose locals stand from a base on, and its operands behind them
abbrev pub frame_from : ℕ → ℕ → ℕ → ℕ → List Value → Frame
frame_from pc base locals depth words = record {
  method = record { class = []; name = []; descriptor = [] };
  pc = pc;
  held = None;
  locals = values_of (take locals (drop base words));
  stack = values_of (reverse (take depth (drop (base + locals) words)));
}

-- the same at a place of its code
abbrev pub frame_placed : CodeBody → ℕ → ℕ → Place → List Value → Frame
frame_placed body base locals place words =
    frame_from (pc_at body.instructions place.number) base locals place.depth words

pub record CanRunFrom
    (pool : List Const) (body : CodeBody) (base locals : ℕ) (place : Place) (words : List Value)
    : Type 0 where
  pub sizes : base + (locals + body.max_stack) ≤ length words
  pub at : IsIn body place
  pub right : NeverWrong (step_of pool body) (frame_placed body base locals place words)

-- Steps lead from the frame in the words to that in the words after, and write no other words.
pub record RunsFrom
    (pool : List Const) (body : CodeBody) (base locals : ℕ) (place : Place) (max : ℕ)
    (words : List Value) (ran : Ran) (after : List Value) : Type 0 where
  pub at : IsIn body ran.place
  pub below : take base after ≡ take base words
  pub above :
      drop (base + (locals + body.max_stack)) after
      ≡ drop (base + (locals + body.max_stack)) words
  pub long : length after ≡ length words
  pub run :
      IsRun (step_of pool body) (frame_placed body base locals place words)
      (frame_placed body base locals ran.place after) max ran
