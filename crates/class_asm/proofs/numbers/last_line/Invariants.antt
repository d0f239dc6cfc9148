use Rattle.std.proofs.Common.{◌≡◌, ◌+◌, length}
use Rattle.jv_model.specs.Lines.{lines_of}
use Rattle.class_asm.proofs.numbers.last_line.Given as goal

-- the lines so far, and those that are left
abbrev pub invariant-lines : goal.invariant-lines
invariant-lines l = l.last + length (lines_of l.left) ≡ length (lines_of l.text) + 1

abbrev pub decreases-lines : goal.decreases-lines
decreases-lines l = length l.left
