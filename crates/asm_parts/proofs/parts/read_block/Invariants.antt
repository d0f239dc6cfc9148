use Rattle.std.proofs.Common.{◌≤◌, length}
use Rattle.jv_model.specs.Lines.{lines_of}
use Rattle.asm_parts.specs.Parts.{lines_in}
use Rattle.asm_parts.proofs.BlockLemmas.{InBlock}
use Rattle.asm_parts.proofs.parts.read_block.Given as goal

-- the lines so far, and those that are left
abbrev pub invariant-lines : goal.invariant-lines
invariant-lines l =
    record { so_far : InBlock l.number (lines_of l.text) (lines_in l.lines) l.next (lines_of l.left); short : length l.left ≤ length l.text }

abbrev pub decreases-lines : goal.decreases-lines
decreases-lines l = length l.left
