-- What a run of a program made, as the definitions see it.
use Rattle.std.specs.Prelude.{◌≡◌, ℕ, ◌≤◌, ◌⊎◌, length, List, [], ◌∷◌, ◌++◌, map, Option, Some}
use Rattle.std.specs.Option.{option_map}
use Rattle.jv_model.specs.Partial.{◌>>=◌}
use Rattle.jv_model.specs.End.{all_ended}
use Rattle.straight_line_model.specs.Instruction.{Instruction}
use Rattle.straight_line_model.specs.OperandStack as model
use Rattle.straight_line_model.specs.Effect.{Effect, goes_on, returns, effect_of}
use Rattle.straight_line_model.specs.Machine.{Program, Machine as ModelMachine, end_of, output_of}
use Rattle.jv_model.specs.Journal.{Entry}
use Rattle.run_model.specs.Journal.{replay}
use Rattle.run_model.specs.RoundRobin.{IsRoundRobin}
use Rattle.jv_model.specs.Limits.{most_slice_steps}
use Rattle.straight_line.specs.declared.machine.Value.{Value}
use Rattle.straight_line.specs.declared.machine.Value.TheVariants.{Int, PrintStream}
use Rattle.straight_line.specs.declared.machine.Machine.{Machine}

-- which value of the definitions a `Value` is
abbrev pub value_of : Value → model.Value
value_of (Int value) = model.int value
value_of PrintStream = model.print_stream

abbrev pub values_of : List Value → List model.Value
values_of stack = map value_of stack

abbrev pub HasIntOnTop : List model.Value → Type 0
HasIntOnTop (model.int value ∷ stack) = Unit {0}
HasIntOnTop other = ⊥

-- The operands of main's frame, and what was printed so far.
pub record State : Type 0 where
  pub stack : List model.Value
  pub output : List ℕ

abbrev pub state : Machine → State
state machine = record { stack = values_of machine.stack; output = machine.output.items }

abbrev pub affected : State → Effect → State
affected state (goes_on stack bytes) = record { stack = stack; output = state.output ++ bytes }
affected state returns = state

-- the state after an instruction, where it finds its operands
abbrev pub after : Instruction → State → Option State
after instruction state = option_map (affected state) (effect_of instruction state.stack)

-- the state after these instructions, one after the other
abbrev pub after_all : List Instruction → State → Option State
after_all [] state = Some state
after_all (first ∷ others) state = after first state >>= after_all others

-- The instructions of a turn: all that are left, or as many as a turn may have.
pub record IsTurn {A : Type 0} (slice rest : List A) : Type 0 where
  pub some : 1 ≤ length slice
  pub within : length slice ≤ most_slice_steps
  pub full : (rest ≡ []) ⊎ (length slice ≡ most_slice_steps)

-- The journal is all of the program's round-robin journal, and the output is that of its machine.
pub record RanToEnd (program : Program) (journal : List Entry) (output : List ℕ) : Type 0 where
  pub machine : ModelMachine
  pub in_turns : IsRoundRobin program journal
  pub replayed : replay program journal ≡ Some machine
  pub ended : end_of machine ≡ Some all_ended
  pub printed : output_of machine ≡ output
