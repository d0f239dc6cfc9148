use Rattle.std.proofs.Common.{◌≡◌, ◌+◌, ◌-◌, ◌≤◌, true, length}
use Rattle.jv_types.specs.ClassData.{class_data_of}
use Rattle.jv_types.specs.Instructions.{end_of}
use Rattle.code_model.specs.InstructionReading.{instructions_within, instructions_of}
use Rattle.code_reader.specs.Near.{are_near}
use Rattle.code_reader.proofs.InstructionLists.{items_in_front}
use Rattle.code_reader.proofs.instruction.read_instructions.Given as goal

-- the instructions so far, and those that are still to be read
abbrev pub invariant-loop-input : goal.invariant-loop-input
invariant-loop-input l = record {
  so_far : items_in_front l.instructions (instructions_within
      (length l.fn.code - length l.instructions) (class_data_of l.class) l.method l.input)
      ≡ instructions_of (class_data_of l.class) l.method l.fn.code;
  at : end_of l.instructions ≡ l.input.at;
  whole : l.input.at + length l.input.bytes ≡ length l.fn.code;
  few : length l.instructions ≤ l.input.at;
  near : are_near l.instructions ≡ true;
}

abbrev pub decreases-loop-input : goal.decreases-loop-input
decreases-loop-input l = length l.input.bytes
