use Rattle.std.proofs.Common.{length}
use Rattle.jv_model.specs.Lines.{lines_of}
use Rattle.asm_parts.specs.Parts.{parts_of}
use Rattle.asm_parts.proofs.BlockLemmas.{InText}
use Rattle.asm_parts.proofs.parts.read_parts.Given as goal

-- the parts so far, and the lines that are left
abbrev pub invariant-parts : goal.invariant-parts
invariant-parts l = InText (lines_of l.text) (parts_of l.parts.items) l.next (lines_of l.left)

abbrev pub decreases-parts : goal.decreases-parts
decreases-parts l = length l.left
