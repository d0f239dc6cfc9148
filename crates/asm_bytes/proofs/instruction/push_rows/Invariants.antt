use Rattle.std.proofs.Common.{◌≡◌, ◌++◌, take}
use Rattle.std.specs.Prelude.{flat_map}
use Rattle.assembler_model.specs.CodeFaults.{target_in}
use Rattle.asm_code.specs.Labels.{labels_in}
use Rattle.asm_bytes.specs.Bytes.{row_bytes, rows_in}
use Rattle.asm_bytes.proofs.instruction.push_rows.Given as goal

-- the rows so far
abbrev pub invariant-loop-key : goal.invariant-loop-key
invariant-loop-key l = l.bytes.items ≡ l.fn.bytes.items
    ++ flat_map (row_bytes (target_in (labels_in l.labels.entries)) l.pc) (rows_in (take l.key-index l.rows))
