-- Which bytes are those of which instructions (JVMS 6.5). An instruction may have any of its
-- opcodes. What is spelled is read; what is read is spelled where its targets are below 2^31. A
-- branch to a place before the code reads as one to a place near 2^32, which no offset of four
-- bytes spells; no instruction stands there, so all that is read of a method's code is spelled.
use Rattle.std.specs.Prelude.{◌≡◌, ℕ, ◌+◌, List, [], ◌∷◌, ◌++◌, length}
use Rattle.jv_model.specs.ClassData.{ClassData}
use Rattle.jv_model.specs.ClassBytes.{u1}
use Rattle.jv_model.specs.Instruction.{Instruction}
use Rattle.jv_model.specs.Code.{Placed}
use Rattle.code_model.specs.Opcodes.{format_of}
use Rattle.code_model.specs.SpellsOperands.{SpellsOperands}

-- an instruction that stands at that pc: an opcode, and what its format says
abbrev pub SpellsInstruction : ClassData → ℕ → List ℕ → Instruction ℕ → Type 0
SpellsInstruction file pc bytes instruction =
    (opcode : ℕ) × (operands : List ℕ) × (bytes ≡ u1 opcode ++ operands)
    × SpellsOperands file pc (format_of opcode) operands instruction

-- instructions one behind another, from that pc on
abbrev pub SpellsInstructions : ClassData → ℕ → List ℕ → List (Placed ℕ) → Type 0
SpellsInstructions file pc code [] = code ≡ []
SpellsInstructions file pc code (placed ∷ others) =
    (own : List ℕ) × (rest : List ℕ) × (code ≡ own ++ rest) × (placed.pc ≡ pc)
    × (placed.next ≡ pc + length own) × SpellsInstruction file pc own placed.instruction
    × SpellsInstructions file placed.next rest others
