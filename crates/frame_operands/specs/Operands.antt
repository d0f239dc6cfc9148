-- What lies on top of the operands of a thread's newest frame.
use Rattle.std.specs.Prelude.{◌≡◌, ◌≤◌, ◌+◌, ◌++◌, ℕ, List, true, Option, Some, length, option_and_then}
use Rattle.jv_model.specs.Instruction.{ValueKind}
use Rattle.machine_model.specs.Value.{is_of_kind}
use Rattle.jv_values.specs.declared.value.Value.{Value}
use Rattle.jv_values.specs.Values.{value_of, places_of}
use Rattle.thread_frames.specs.Frames.{FrameState, newest, change_newest, words_of}
use Rattle.frame_stacks.specs.declared.thread.Thread.{Thread}
use Rattle.frame_stacks.specs.Threads.{Threads, change_thread, with_frames}
use Rattle.machine_threads.specs.Laws.{IsNewest}

-- the operands of a thread's newest frame, from the bottom up
abbrev pub operands_in_newest : Option Thread → Option (List Value)
operands_in_newest thread =
    option_and_then (λ (th : Thread). option_and_then (λ (frame : FrameState). Some frame.stack) (newest th.frames)) thread

-- ---- values on top

-- A value of that kind lies on top of operands, and below it these.
pub record IsTop (kind : ValueKind) (operands below : List Value) (value : Value) : Type 0 where
  pub is : operands ≡ below ++ words_of value
  pub fits : is_of_kind kind (value_of value) ≡ true

pub record HasOne (stacks : Threads) (t : ℕ) (kind : ValueKind) : Type 0 where
  pub frame : FrameState
  pub older : List FrameState
  pub newest : IsNewest stacks t frame older
  pub value : Value
  pub below : List Value
  pub top : IsTop kind frame.stack below value

-- The first of them lies below the second.
pub record HasTwo (stacks : Threads) (t : ℕ) (lower upper : ValueKind) : Type 0 where
  pub frame : FrameState
  pub older : List FrameState
  pub newest : IsNewest stacks t frame older
  pub second : Value
  pub between : List Value
  pub top : IsTop upper frame.stack between second
  pub first : Value
  pub below : List Value
  pub next : IsTop lower between below first

pub record HasThree (stacks : Threads) (t : ℕ) (lower middle upper : ValueKind) : Type 0 where
  pub frame : FrameState
  pub older : List FrameState
  pub newest : IsNewest stacks t frame older
  pub third : Value
  pub above : List Value
  pub top : IsTop upper frame.stack above third
  pub second : Value
  pub between : List Value
  pub next : IsTop middle above between second
  pub first : Value
  pub below : List Value
  pub last : IsTop lower between below first

-- ---- what is left

abbrev pub with_stack : List Value → FrameState → FrameState
with_stack words frame = record frame { stack = words }

-- the threads where one has these operands in its newest frame
abbrev pub leaves : ℕ → List Value → Threads → Threads
leaves t words stacks = change_thread t (with_frames (change_newest (with_stack words))) stacks

-- ---- room for a value

abbrev pub HasPlaces : FrameState → List Value → Value → Type 0
HasPlaces frame words value = length words + places_of value ≤ frame.max_stack

-- There is room for a value on top of the operands.
pub record CanGoOn (stacks : Threads) (t : ℕ) (value : Value) : Type 0 where
  pub frame : FrameState
  pub older : List FrameState
  pub newest : IsNewest stacks t frame older
  pub room : HasPlaces frame frame.stack value

-- There is room for a value in place of the one on top.
pub record CanReplaceOne (stacks : Threads) (t : ℕ) (value : Value) : Type 0 where
  pub kind : ValueKind
  pub has : HasOne stacks t kind
  pub room : HasPlaces has.frame has.below value

-- There is room for a value in place of the two on top.
pub record CanReplaceTwo (stacks : Threads) (t : ℕ) (value : Value) : Type 0 where
  pub lower : ValueKind
  pub upper : ValueKind
  pub has : HasTwo stacks t lower upper
  pub room : HasPlaces has.frame has.below value
