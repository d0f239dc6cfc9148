-- The machine of a program (JVMS 2.5): threads of frames, what they printed, and the steps that they made.
use Rattle.std.specs.Prelude.{ℕ, zero, suc, ◌+◌, ◌-◌, List, [], ◌∷◌, ◌++◌, Bool, ◌==◌, if◌then◌else◌, Option, Some, None, is_some, length, take, slice_get, slice_set, find}
use Rattle.std.specs.List.{list_all}
use Rattle.jv_model.specs.Partial.{◌>>=◌}
use Rattle.straight_line_model.specs.Instruction.{Placed, Body}
use Rattle.straight_line_model.specs.OperandStack.{Value}
use Rattle.straight_line_model.specs.Effect.{Effect, goes_on, returns, effect_of, fitting}
use Rattle.jv_model.specs.End.{End, all_ended}

pub record Program : Type 0 where
  -- the code of the main class's `main([Ljava/lang/String;)V`
  pub main : Body

-- A method that runs (JVMS 2.6).
pub record Frame : Type 0 where
  -- the place of the instruction that comes next
  pub pc : ℕ
  -- its operands, from the top down
  pub stack : List Value

-- A thread's frames, the oldest first. Without a frame the thread has ended.
pub record Thread : Type 0 where
  pub frames : List Frame

pub record Machine : Type 0 where
  pub program : Program
  -- by their numbers
  pub threads : List Thread
  pub output : List ℕ
  pub steps : ℕ

-- At the start thread 0 is to run main from its first instruction.
abbrev pub start : Program → Machine
start program = record {
  program = program;
  threads = record { frames = record { pc = 0; stack = [] } ∷ [] } ∷ [];
  output = [];
  steps = 0;
}

abbrev pub newest : Thread → Option Frame
newest thread = slice_get thread.frames (length thread.frames - 1)

-- the thread without its newest frame
abbrev pub returned : Thread → Thread
returned thread = record { frames = take (length thread.frames - 1) thread.frames }

-- the thread with another frame in place of its newest one
abbrev pub with_newest : Frame → Thread → Thread
with_newest frame thread = record { frames = (returned thread).frames ++ frame ∷ [] }

-- the machine one step on, with this as its thread t, and with these bytes printed
abbrev pub stepped : Machine → ℕ → Thread → List ℕ → Machine
stepped machine t thread bytes = record machine { threads = slice_set machine.threads t thread; output = machine.output ++ bytes; steps = machine.steps + 1 }

-- the machine after an instruction of thread t that has that effect
abbrev pub executed : Placed → Effect → Machine → ℕ → Thread → Machine
executed placed (goes_on stack bytes) machine t thread = stepped machine t (with_newest (record { pc = placed.next; stack = stack }) thread) bytes
executed placed returns machine t thread = stepped machine t (returned thread) []

abbrev pub has_ended : Thread → Bool
has_ended thread = length thread.frames == 0

-- how the run ended, where it has
abbrev pub end_of : Machine → Option End
end_of machine = if list_all has_ended machine.threads then Some all_ended else None

-- the machine after the next step of thread t, where the run has no end and that thread can make one
unfoldable pub step : ℕ → Machine → Option Machine
step t machine = if is_some (end_of machine) then None else do
  thread ← slice_get machine.threads t
  frame ← newest thread
  placed ← find (λ i. i.pc == frame.pc) machine.program.main.instructions
  effect ← effect_of placed.instruction frame.stack
  fits ← fitting machine.program.main.max_stack effect
  Some (executed placed fits machine t thread)

-- that many steps of thread t, one after another, where it can make each of them
unfoldable pub steps_of : ℕ → ℕ → Machine → Option Machine
steps_of t zero machine = Some machine
steps_of t (suc count) machine = step t machine >>= λ next. steps_of t count next

abbrev pub output_of : Machine → List ℕ
output_of machine = machine.output

-- a line per update of the running program; no program has updates yet
abbrev pub report_of : Machine → List ℕ
report_of machine = []
