-- The frame that lent words are, and what a local step makes of it.
use Rattle.std.specs.Prelude.{ℕ, List, [], length, Option, Some, None, unwrap_or}
use Rattle.jv_model.specs.ClassData.{Const}
use Rattle.jv_model.specs.Operand.{Operand}
use Rattle.jv_model.specs.Instruction.{Instruction}
use Rattle.jv_model.specs.Code.{Placed, Body}
use Rattle.code_model.specs.MappedInstruction.{mapped_instruction}
use Rattle.code_model.specs.Names.{operand_at}
use Rattle.jv_types.specs.Instruction.{instruction_of}
use Rattle.jv_types.specs.declared.instruction.Instruction.{Instruction as Given}
use Rattle.machine_model.specs.State.{Frame}
use Rattle.machine_model.specs.LocalStep.{Local, goes_to, not_local, wrong, local_step_of}
use Rattle.jv_values.specs.declared.value.Value.{Value}
use Rattle.jv_values.specs.Values.{values_of, operands_in}
use Rattle.local_steps.specs.declared.step.Next.{Next}

-- A frame of words, of a method that isn't told: a local step reads and changes neither the method
-- nor the held receiver.
abbrev pub frame_in : ℕ → List Value → List Value → ℕ → Frame
frame_in pc locals stack depth = record {
  method = record { class = []; name = []; descriptor = [] };
  pc = pc;
  held = None;
  locals = values_of locals;
  stack = operands_in stack depth;
}

-- Code of which no more is told than how many operands there is room for: a local step of an
-- instruction reads no more of it.
abbrev pub with_room : ℕ → Body Operand
with_room words =
    record { max_stack = words; max_locals = 0; instructions = []; handlers = []; frames = [] }

-- an instruction with its constants, from the pool of its class
abbrev pub named_instruction : List Const → Given → Instruction Operand
named_instruction pool instruction =
    mapped_instruction (operand_at pool) (instruction_of instruction)

abbrev pub placed_at : ℕ → ℕ → Instruction Operand → Placed Operand
placed_at pc next instruction = record { pc = pc; next = next; instruction = instruction }

-- the local step of an instruction from words, with as much room for operands as there are words
abbrev pub step_in : ℕ → ℕ → Instruction Operand → List Value → List Value → ℕ → Local
step_in pc next instruction locals stack depth =
    local_step_of (with_room (length stack)) (placed_at pc next instruction)
    (frame_in pc locals stack depth) instruction

abbrev pub IsRight : Local → Type 0
IsRight (goes_to frame) = Unit {0}
IsRight not_local = Unit {0}
IsRight wrong = ⊥

-- where a step leads to, with the words after it
abbrev pub reached_in : ℕ → List Value → List Value → Option Next → Local
reached_in next locals stack None = not_local
reached_in next locals stack (Some step) =
    goes_to (frame_in (unwrap_or step.target next) locals stack step.depth)
