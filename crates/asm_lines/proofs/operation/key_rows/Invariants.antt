use Rattle.std.proofs.Common.{◌≡◌, drop, map}
use Rattle.assembler_model.specs.OperationLines.{key_rows}
use Rattle.asm_lines.specs.Terms.{no_key, rows_of}
use Rattle.asm_lines.specs.Words.{texts}
use Rattle.asm_lines.proofs.RowLemmas.{onto}
use Rattle.asm_lines.proofs.operation.key_rows.Given as goal

-- the rows so far, and the words that are left
abbrev pub invariant-loop-word : goal.invariant-loop-word
invariant-loop-word l =
    onto (rows_of l.rows) (key_rows l.before (texts (drop l.word-index l.words))) ≡ key_rows no_key (texts l.words)
