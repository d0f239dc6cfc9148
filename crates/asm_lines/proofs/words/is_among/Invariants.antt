use Rattle.std.proofs.Common.{◌≡◌, drop}
use Rattle.std.specs.Prelude.{bytes_eq}
use Rattle.std.specs.List.{list_any}
use Rattle.asm_lines.specs.Words.{texts}
use Rattle.asm_lines.proofs.words.is_among.Given as goal

-- it is among those that are left
abbrev pub invariant-loop-choice : goal.invariant-loop-choice
invariant-loop-choice l =
    list_any (bytes_eq l.word) (texts (drop l.choice-index l.choices)) ≡ list_any (bytes_eq l.word) (texts l.choices)
