use Rattle.std.proofs.Common.{◌≡◌, drop}
use Rattle.std.specs.List.{list_all, list_any}
use Rattle.assembler_model.specs.OperationLines.{is_colon}
use Rattle.asm_lines.specs.Words.{texts}
use Rattle.asm_lines.proofs.operation.have_colons.Given as goal

-- it stands with the words that are left
abbrev pub invariant-loop-word : goal.invariant-loop-word
invariant-loop-word l =
    list_all (λ word. list_any is_colon word) (texts (drop l.word-index l.words))
    ≡ list_all (λ word. list_any is_colon word) (texts l.words)
