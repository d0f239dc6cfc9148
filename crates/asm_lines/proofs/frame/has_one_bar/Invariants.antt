use Rattle.std.proofs.Common.{◌≡◌, ◌≤◌, take}
use Rattle.std.specs.Prelude.{count_by}
use Rattle.assembler_model.specs.AssemblerLines.{is_bar}
use Rattle.asm_lines.specs.Words.{texts}
use Rattle.asm_lines.proofs.frame.has_one_bar.Given as goal

-- the bars so far
abbrev pub invariant-loop-word : goal.invariant-loop-word
invariant-loop-word l = (l.bars ≡ count_by is_bar (texts (take l.word-index l.words))) × (l.bars ≤ l.word-index)
