use Rattle.std.proofs.Common.{◌≡◌, ◌+◌, drop}
use Rattle.std.specs.List.{position_or_len}
use Rattle.assembler_model.specs.AssemblerLines.{is_bar}
use Rattle.asm_lines.specs.Words.{texts}
use Rattle.asm_lines.proofs.frame.split_at_bar.Given as goal

-- the first bar is among the words that are left
abbrev pub invariant-loop-place : goal.invariant-loop-place
invariant-loop-place l =
    l.place + position_or_len is_bar (texts (drop l.place l.words)) ≡ position_or_len is_bar (texts l.words)
