-- Parts of a text as the definitions see them.
use Rattle.std.specs.Prelude.{◌≡◌, ◌+◌, ℕ, List, Option, Some, None, map, codes}
use Rattle.jv_types.specs.Sequence.{Sequence}
use Rattle.jv_model.specs.Lines.{Line, lines_of}
use Rattle.assembler_model.specs.AssemblerLines as lines
use Rattle.assembler_model.specs.AssemblerLines.{numbered_from}
use Rattle.assembler_model.specs.AssemblerOrder as model
use Rattle.assembler_model.specs.Blocks.{Chunk, Cut, cut}
use Rattle.asm_lines.specs.NumberedLines.{numbered_of}
use Rattle.asm_lines.specs.declared.numbered_line.NumberedLine.{NumberedLine}
use Rattle.asm_parts.specs.declared.part.Part.{Part}
use Rattle.asm_parts.specs.declared.part.Block.{Block}

abbrev pub lines_in : Sequence NumberedLine → List lines.NumberedLine
lines_in lines = map numbered_of lines.items

abbrev pub part_of : Part → model.Part
part_of part = record {
  line = numbered_of part.line;
  block = lines_in part.block;
  is_closed = part.is_closed;
}

abbrev pub parts_of : List Part → List model.Part
parts_of parts = map part_of parts

-- the line that ends the method that a line begins
abbrev pub opens : Line → Option (List ℕ)
opens line = model.method_end (lines.line_form line)

-- the statements of lines that stand in no method, numbered on from this one
abbrev pub chunks_from : ℕ → List Line → List Chunk
chunks_from number lines = (cut opens None number lines).chunks

-- the front of these lines, numbered on from this one, up to the line that ends a block, where one does
abbrev pub block_cut : Option (List ℕ) → ℕ → List Line → Cut
block_cut end number lines = cut opens end number lines

-- a block is that front, and the others are left
pub record IsBlock (end : Option (List ℕ)) (number : ℕ) (lines : List Line) (block : Block) : Type 0 where
  pub lines_are : lines_in block.lines ≡ numbered_from number (block_cut end number lines).block
  pub is_closed : block.is_closed ≡ (block_cut end number lines).is_closed
  pub chunks : (block_cut end number lines).chunks ≡ chunks_from block.next (lines_of block.left.now)
