-- Parts of reading an instruction.
use Rattle.std.specs.Prelude.{◌≡◌, ℕ, Result, Ok}
use Rattle.jv_model.specs.Fallible.{◌>>=◌}
use Rattle.jv_model.specs.Refusal.{Cause}
use Rattle.jv_model.specs.Input.{Input, number_at}
use Rattle.jv_model.specs.Code.{Placed}
use Rattle.code_model.specs.Opcodes.{format_of}
use Rattle.code_model.specs.OperandReading.{Site, Read}
use Rattle.code_model.specs.InstructionReading.{wide_operands_at, operands_at, cut_is_wrong}
use Rattle.jv_types.specs.Reading.{Refuses}
use Rattle.code_reader.specs.declared.error.CodeError.{CodeError}
use Rattle.code_reader.specs.declared.error.OperandError.{OperandError}
use Rattle.code_reader.specs.Gives.{code_refusal, operand_refusal}

-- what stands behind `wide`
abbrev pub wide_at : Site → Input → Read
wide_at site input =
    number_at 1 input >>= λ opcode. wide_operands_at site (format_of opcode.0) opcode.1

-- an instruction, of which the end of the code may cut an operand
abbrev pub uncut_at : Site → Input → Result (Placed ℕ × Input) Cause
uncut_at site input = do
  opcode ← number_at 1 input
  read ← operands_at site (format_of opcode.0) opcode.1
  Ok (record { pc = input.at; next = read.1.at; instruction = read.0 }, read.1)

-- the error of an instruction is that of its operands, of which a cut one is a wrong one
abbrev pub IsCodeError : ℕ → OperandError → CodeError → Type 0
IsCodeError pc error told =
    (site : Site) (read : Result (Placed ℕ × Input) Cause) → site.pc ≡ pc
    → Refuses (operand_refusal site error) read
    → Refuses (code_refusal site.method told) (cut_is_wrong site read)
