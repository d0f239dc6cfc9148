-- Blocks as the definitions see them.
use Rattle.std.specs.Prelude.{◌≡◌, ℕ, ◌+◌, List, [], true, Some, Result, MatchResult, length}
use Rattle.jv_model.specs.Lines.{lines_of}
use Rattle.text_model.specs.LineFaults.{first_fault, text_faults}
use Rattle.assembler_model.specs.Blocks.{block_text}
use Rattle.asm_parts.specs.Faults.{fault_of}
use Rattle.asm_parts.specs.declared.first_fault.LineFault.{LineFault}
use Rattle.manifest_laws.specs.Blocks.{block_faults, has_end, lines_before, lines_behind}
use Rattle.manifest_reader.specs.declared.block.Block.{Block}

-- It is the block of these lines, which that one ends, behind the line with that number that opens
-- it: all its lines are text.
pub record IsBlock (end : List ℕ) (opening : ℕ) (text : List ℕ) (block : Block) : Type 0 where
  pub ends : has_end end (lines_of text) ≡ true
  pub are_text : text_faults (opening + 1) (lines_before end (lines_of text)) ≡ []
  pub text_is : block.text.now ≡ block_text (lines_before end (lines_of text))
  pub last_is : block.last ≡ opening + length (lines_before end (lines_of text)) + 1
  pub left_is : lines_of block.left.now ≡ lines_behind end (lines_of text)

-- Such a block is cut off, or the first fault of its lines is told.
abbrev pub CutsBlock : List ℕ → ℕ → List ℕ → Result Block LineFault → Type 0
CutsBlock end opening text cut =
    MatchResult cut (IsBlock end opening text)
    (λ fault.
    first_fault (block_faults end (opening + length (lines_of text)) (opening + 1) (lines_of text))
    ≡ Some (fault_of fault))
