-- How the frames of a thread lie in its words.
use Rattle.std.specs.Prelude.{◌≡◌, ◌≤◌, ◌+◌, ℕ, List, [], ◌∷◌, length, map, reverse, take, drop}
use Rattle.std.specs.List.{sum_by}
use Rattle.jv_model.specs.Limits.{most_frames, most_stack_words}
use Rattle.jv_values.specs.declared.value.Value.{Value}
use Rattle.thread_frames.specs.Frames.{FrameState}
use Rattle.thread_frames.specs.declared.frames.Row.{Row}
use Rattle.thread_frames.specs.declared.frames.ThreadFrames.TheInside.{Inside}

-- the frame of a row with these locals and operands
abbrev pub state_with : Row → List Value → List Value → FrameState
state_with row locals stack = record {
  code = row.code;
  method = row.method;
  pc = row.pc.0;
  held = row.held;
  locals = locals;
  stack = stack;
  max_stack = row.max_stack;
}

-- the frame of a row in the words of its thread
abbrev pub state_in : List Value → Row → FrameState
state_in words row =
    state_with row (take row.locals (drop row.base words))
    (take row.depth (drop (row.base + row.locals) words))

-- the frames as their rows stand, the oldest first
abbrev pub states_in : List Value → List Row → List FrameState
states_in words rows = map (λ row. state_in words row) rows

abbrev pub frames_in : List Value → List Row → List FrameState
frames_in words rows = reverse (states_in words rows)

abbrev pub size_of : Row → ℕ
size_of row = row.locals + row.max_stack

abbrev pub all_words : List Row → ℕ
all_words rows = sum_by size_of rows

-- the words of each frame begin where those of the one before end
abbrev pub LaidFrom : ℕ → List Row → Type 0
LaidFrom start [] = Unit {0}
LaidFrom start (row ∷ rows) =
    (row.base ≡ start) × (row.depth ≤ row.max_stack) × LaidFrom (start + size_of row) rows

pub record AreLaid (it : Inside) : Type 0 where
  pub laid : LaidFrom 0 it.rows.items
  pub words : length it.words ≡ most_stack_words
  pub room : all_words it.rows.items ≤ most_stack_words
  pub few : length it.rows.items ≤ most_frames
  pub rows : most_frames ≤ length it.rows.items + it.rows.spare

abbrev pub frames_of : Inside → List FrameState
frames_of it = frames_in it.words it.rows.items
