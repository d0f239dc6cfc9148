use Rattle.std.proofs.Common.{◌≡◌, drop}
use Rattle.assembler_model.specs.OperationLines.{are_whole}
use Rattle.asm_lines.specs.Words.{texts}
use Rattle.asm_lines.proofs.words.are_whole.Given as goal

-- it stands with the words that are left
abbrev pub invariant-loop-word : goal.invariant-loop-word
invariant-loop-word l = are_whole (texts (drop l.word-index l.words)) ≡ are_whole (texts l.words)
