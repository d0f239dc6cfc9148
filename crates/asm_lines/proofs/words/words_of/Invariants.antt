use Rattle.std.proofs.Common.{◌≡◌, ℕ, ◌+◌, ◌++◌, List, Option, Some, None, length}
use Rattle.std.specs.Borrow.{Bor}
use Rattle.jv_model.specs.Lines.{words_of}
use Rattle.jv_types.specs.Lines.{operand_words}
use Rattle.asm_lines.specs.Words.{texts}
use Rattle.asm_lines.proofs.words.words_of.Given as goal

-- the words so far, and those that are left
abbrev pub invariant-loop-left : goal.invariant-loop-left
invariant-loop-left l = texts l.words.items ++ operand_words l.left ≡ words_of l.line

-- how many words are left
abbrev pub decreases-loop-left : goal.decreases-loop-left
decreases-loop-left l = length (operand_words l.left)
