use Rattle.std.proofs.Common.{◌≡◌, ◌++◌, take}
use Rattle.asm_lines.specs.Words.{texts}
use Rattle.asm_code.specs.Names.{row_labels}
use Rattle.asm_code.proofs.names.push_rows.Given as goal

-- the rows so far
abbrev pub invariant-loop-label : goal.invariant-loop-label
invariant-loop-label l = texts l.names.items ≡ texts l.fn.names.items ++ row_labels (take l.label-index l.rows)
