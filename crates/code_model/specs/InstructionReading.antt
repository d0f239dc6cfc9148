-- Reading the instructions of a method from the first on (JVMS 4.7.3, 4.9.1, 6.5): what they are,
-- or the first refusal.
use Rattle.std.specs.Prelude.{ℕ, zero, suc, List, [], ◌∷◌, if◌then◌else◌, ◌==◌, Option, Some, None, Result, Ok, Err, length}
use Rattle.jv_model.specs.Fallible.{◌>>=◌}
use Rattle.jv_model.specs.Refusal.{Cause, truncated, wrong_opcode}
use Rattle.jv_model.specs.ClassData.{ClassData}
use Rattle.jv_model.specs.Input.{Input, number_at, whole_of}
use Rattle.jv_model.specs.Instruction.{ldc}
use Rattle.jv_model.specs.Code.{Placed}
use Rattle.code_model.specs.Entries.{a_loadable}
use Rattle.code_model.specs.Formats.{Format, alone, byte_constant, short_constant, loadable_index, wide_loadable_index, local, local_and_constant, branch, wide_branch, table_switch, lookup_switch, pool_index, interface_call, element_type, wide_form, left_out, left_out_local}
use Rattle.code_model.specs.Opcodes.{format_of}
use Rattle.code_model.specs.OperandReading.{Site, Read, not_supported, not_an_operand, constant_at, index_at, local_at, increment_at, branch_at, interface_call_at, table_at, lookup_at, newarray_at}

-- what stands behind `wide`: an opcode of a format with a local
abbrev pub wide_operands_at : Site → Option Format → Input → Read
wide_operands_at site (Some (local make)) input = local_at 2 make input
wide_operands_at site (Some local_and_constant) input = increment_at 2 input
wide_operands_at site (Some left_out_local) input = not_supported site
wide_operands_at site other input = not_an_operand site

-- what stands behind an opcode of that format
abbrev pub operands_at : Site → Option Format → Input → Read
operands_at site None input = Err (wrong_opcode site.method site.pc)
operands_at site (Some (alone its)) input = Ok (its, input)
operands_at site (Some byte_constant) input = constant_at 1 input
operands_at site (Some short_constant) input = constant_at 2 input
operands_at site (Some loadable_index) input = index_at site a_loadable 1 ldc input
operands_at site (Some wide_loadable_index) input = index_at site a_loadable 2 ldc input
operands_at site (Some (local make)) input = local_at 1 make input
operands_at site (Some local_and_constant) input = increment_at 1 input
operands_at site (Some (branch its)) input = branch_at site 2 its input
operands_at site (Some (wide_branch its)) input = branch_at site 4 its input
operands_at site (Some table_switch) input = table_at site input
operands_at site (Some lookup_switch) input = lookup_at site input
operands_at site (Some (pool_index kind make)) input = index_at site kind 2 make input
operands_at site (Some interface_call) input = interface_call_at site input
operands_at site (Some element_type) input = newarray_at site input
operands_at site (Some wide_form) input =
    number_at 1 input >>= λ opcode. wide_operands_at site (format_of opcode.0) opcode.1
operands_at site (Some left_out) input = not_supported site
operands_at site (Some left_out_local) input = not_supported site

-- an operand that the end of the code cuts is a wrong one
abbrev pub cut_is_wrong : {A : Type 0} → Site → Result A Cause → Result A Cause
cut_is_wrong site (Err (truncated place)) = not_an_operand site
cut_is_wrong site read = read

-- the instruction at the front of the code
unfoldable pub instruction_at : ClassData → ℕ → Input → Result (Placed ℕ × Input) Cause
instruction_at file method input =
    let site : Site = record { file = file; method = method; pc = input.at } in
    cut_is_wrong site (do
      opcode ← number_at 1 input
      read ← operands_at site (format_of opcode.0) opcode.1
      Ok (record { pc = input.at; next = read.1.at; instruction = read.0 }, read.1))

-- the instructions up to the end of the code, at most so many
unfoldable pub instructions_within :
    ℕ → ClassData → ℕ → Input → Result (List (Placed ℕ)) Cause
instructions_within zero file method input = Ok []
instructions_within (suc most) file method input = if length input.bytes == 0 then Ok [] else (do
  first ← instruction_at file method input
  others ← instructions_within most file method first.1
  Ok (first.0 ∷ others))

-- each has one byte at least
abbrev pub instructions_of : ClassData → ℕ → List ℕ → Result (List (Placed ℕ)) Cause
instructions_of file method code = instructions_within (length code) file method (whole_of code)
