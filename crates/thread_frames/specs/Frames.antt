-- The frames of a thread as contracts see them: a list, the newest first.
use Rattle.std.specs.Prelude.{◌≤◌, ◌+◌, ◌-◌, ℕ, zero, suc, List, [], ◌∷◌, ◌++◌, pos, length, nat_lt, if◌then◌else◌, Option, None, Some, replicate, reverse, slice_get, take}
use Rattle.std.specs.List.{sum_by}
use Rattle.jv_model.specs.Limits.{most_frames, most_stack_words}
use Rattle.machine_model.specs.Heap.{replace_at}
use Rattle.jv_types.specs.declared.number.MethodNo.{MethodNo}
use Rattle.jv_values.specs.declared.value.Value.{Value}
use Rattle.jv_values.specs.declared.value.Value.TheVariants.{Int, Long, Half}
use Rattle.code_store.specs.declared.mark.CodeMark.{CodeMark}
use Rattle.thread_frames.specs.Splices.{spliced}

pub record FrameState : Type 0 where
  -- what stands for its code
  pub code : CodeMark
  pub method : MethodNo
  pub pc : ℕ
  -- the receiver whose monitor it holds, or null
  pub held : Value
  pub locals : List Value
  -- from the bottom up
  pub stack : List Value
  -- how many words the operands may have
  pub max_stack : ℕ

-- what is shown of a frame: all but the room of its operands
pub record Shown : Type 0 where
  pub code : CodeMark
  pub method : MethodNo
  pub pc : ℕ
  pub held : Value
  pub locals : List Value
  pub stack : List Value

abbrev pub shown : FrameState → Shown
shown frame = record {
  code = frame.code;
  method = frame.method;
  pc = frame.pc;
  held = frame.held;
  locals = frame.locals;
  stack = frame.stack;
}

-- ---- frames by their depth, and the newest

-- the frame below which there are so many
abbrev pub frame_at : List FrameState → ℕ → Option FrameState
frame_at frames depth = slice_get (reverse frames) depth

abbrev pub change_at : (FrameState → FrameState) → List FrameState → ℕ → List FrameState
change_at change frames depth = reverse (replace_at change (reverse frames) depth)

abbrev pub newest : List FrameState → Option FrameState
newest [] = None
newest (frame ∷ older) = Some frame

abbrev pub change_newest : (FrameState → FrameState) → List FrameState → List FrameState
change_newest change [] = []
change_newest change (frame ∷ older) = change frame ∷ older

-- ---- limits

abbrev pub frame_words : FrameState → ℕ
frame_words frame = length frame.locals + frame.max_stack

-- the words of all frames, their operands' room counted
abbrev pub words_in : List FrameState → ℕ
words_in frames = sum_by frame_words frames

-- what holds of the frames of every thread
pub record AreWithin (frames : List FrameState) : Type 0 where
  pub few : length frames ≤ most_frames
  pub words : words_in frames ≤ most_stack_words

-- ---- changes of a frame

-- a frame at its begin: its locals are the arguments, and then zeros
abbrev pub fresh_frame : CodeMark → MethodNo → Value → List Value → ℕ → ℕ → FrameState
fresh_frame code method held args max_locals max_stack = record {
  code = code;
  method = method;
  pc = 0;
  held = held;
  locals = args ++ replicate (max_locals - length args) (Int (pos 0));
  stack = [];
  max_stack = max_stack;
}

abbrev pub with_pc : ℕ → FrameState → FrameState
with_pc pc frame = record frame { pc = pc }

abbrev pub with_code : CodeMark → MethodNo → ℕ → FrameState → FrameState
with_code code method pc frame = record frame { code = code; method = method; pc = pc }

-- the words that a value takes, the lower one first
abbrev pub words_of : Value → List Value
words_of (Long n) = Long n ∷ Half ∷ []
words_of value = value ∷ []

-- a value in a local, and in the one after it if it takes two
abbrev pub with_local_set : ℕ → Value → FrameState → FrameState
with_local_set n value frame =
    record frame { locals = spliced n (words_of value) frame.locals }

abbrev pub with_pushed : Value → FrameState → FrameState
with_pushed value frame = record frame { stack = frame.stack ++ words_of value }

-- without so many words of the operands
abbrev pub with_popped : ℕ → FrameState → FrameState
with_popped count frame =
    record frame { stack = take (length frame.stack - count) frame.stack }

abbrev pub with_empty_stack : FrameState → FrameState
with_empty_stack frame = record frame { stack = [] }

abbrev pub with_top : ℕ → List Value → List Value → FrameState → FrameState
with_top pc locals stack frame = record frame { pc = pc; locals = locals; stack = stack }

-- a word, counted over the locals to the operands
abbrev pub with_value : ℕ → Value → FrameState → FrameState
with_value n value frame =
    if nat_lt n (length frame.locals)
    then record frame { locals = spliced n (value ∷ []) frame.locals }
    else record frame { stack = spliced (n - length frame.locals) (value ∷ []) frame.stack }

-- a word, counted from the held receiver over the locals to the operands
abbrev pub with_word : ℕ → Value → FrameState → FrameState
with_word zero value frame = record frame { held = value }
with_word (suc n) value frame = with_value n value frame
