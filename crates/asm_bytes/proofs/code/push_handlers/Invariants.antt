use Rattle.std.proofs.Common.{◌≡◌, ◌++◌, take}
use Rattle.std.specs.Prelude.{flat_map}
use Rattle.assembler_model.specs.CodeFaults.{target_in}
use Rattle.asm_parts.specs.Pools.{entries_in}
use Rattle.asm_code.specs.Labels.{labels_in}
use Rattle.asm_code.specs.Places.{lines_of}
use Rattle.asm_bytes.specs.Bytes.{handler_row}
use Rattle.asm_bytes.proofs.code.push_handlers.Given as goal

-- the rows so far
abbrev pub invariant-loop-here : goal.invariant-loop-here
invariant-loop-here l = l.bytes.items ≡ l.fn.bytes.items
    ++ flat_map (handler_row (entries_in l.pool) (target_in (labels_in l.labels.entries))) (lines_of (take l.here-index l.lines))
