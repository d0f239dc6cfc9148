-- What a lent frame is, and what its type keeps.
use Rattle.std.specs.Prelude.{◌≡◌, ◌+◌, ◌<◌, ◌^◌, ℕ, zero, suc, List, [], Bool, false, reverse, Option, Some, None, slice_get}
use Rattle.jv_model.specs.Operand.{Operand}
use Rattle.jv_model.specs.Code.{Body}
use Rattle.jv_types.specs.declared.number.ThreadNo.{ThreadNo}
use Rattle.jv_types.specs.declared.number.MethodNo.{MethodNo}
use Rattle.machine_model.specs.State.{Frame}
use Rattle.machine_model.specs.LocalStep.{Local, wrong, local_step}
use Rattle.jv_values.specs.declared.value.Value.{Value}
use Rattle.jv_values.specs.Values.{values_of}
use Rattle.code_store.specs.declared.mark.CodeMark.{CodeMark}
use Rattle.local_runs.specs.Runs.{frame_after, reaches, first_reached}

-- The method of a frame, its place, its locals, and its operands from the bottom up.
pub record FrameWords : Type 0 where
  pub method : MethodNo
  pub pc : ℕ
  pub locals : List Value
  pub stack : List Value

-- The frame of these words. Its method isn't told, nor its held receiver: no local step reads them.
abbrev pub frame_of : FrameWords → Frame
frame_of words = record {
  method = record { class = []; name = []; descriptor = [] };
  pc = words.pc;
  held = None;
  locals = values_of words.locals;
  stack = values_of (reverse words.stack);
}

-- A frame as it was lent, and as local steps of its code have left it.
pub record Copy : Type 0 where
  pub thread : ThreadNo
  pub code : CodeMark
  pub start : FrameWords
  pub current : FrameWords
  -- how many steps were made
  pub steps : ℕ
  -- the least number of them after which a safe point was reached
  pub first : Option ℕ
  -- whether the last of them reached one
  pub mark : Bool

abbrev pub no_words : FrameWords
no_words = record {
  method = record { class = record { 0 = 0 }; index = 0 };
  pc = 0;
  locals = [];
  stack = [];
}

-- the copy of a frame, of which no step was made
abbrev pub fresh_copy : ThreadNo → CodeMark → FrameWords → Copy
fresh_copy thread code frame = record {
  thread = thread;
  code = code;
  start = frame;
  current = frame;
  steps = 0;
  first = None;
  mark = false;
}

abbrev pub empty_copy : Copy
empty_copy = fresh_copy (record { 0 = 0 }) (record { body = 0; version = 0 }) no_words

-- the local step in the code that a mark shows
abbrev pub step_in_code : Option (Body Operand) → Frame → Local
step_in_code None frame = wrong
step_in_code (Some code) frame = local_step code frame

abbrev pub step_shown : List (Body Operand) → CodeMark → Frame → Local
step_shown table mark = step_in_code (slice_get table mark.body)

-- What the frame is now is what so many local steps of its code make of the frame at the start.
pub record IsMade (table : List (Body Operand)) (copy : Copy) : Type 0 where
  pub reached : frame_after (step_shown table copy.code) (frame_of copy.start) copy.steps
      ≡ Some (frame_of copy.current)
  pub first : copy.first
      ≡ first_reached (step_shown table copy.code) (frame_of copy.start) copy.steps
  pub mark : copy.mark ≡ reaches (step_shown table copy.code) (frame_of copy.start) copy.steps

-- how many steps are made of a copy at the most
abbrev pub most_lent_steps : ℕ
most_lent_steps = 4096

-- ---- more steps after so many

-- the number of the first that reached a safe point
abbrev pub first_in : Option ℕ → ℕ → Option ℕ → Option ℕ
first_in (Some first) steps more = Some first
first_in None steps (Some first) = Some (steps + first)
first_in None steps None = None

abbrev pub FitsAfter : ℕ → Option ℕ → Type 0
FitsAfter steps None = Unit {0}
FitsAfter steps (Some first) = steps + first < 2 ^ 32

-- whether the last of them reached one
abbrev pub mark_in : Bool → ℕ → Bool → Bool
mark_in before zero mark = before
mark_in before (suc more) mark = mark
