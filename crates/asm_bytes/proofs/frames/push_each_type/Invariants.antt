use Rattle.std.proofs.Common.{◌≡◌, ◌++◌, take}
use Rattle.std.specs.Prelude.{flat_map}
use Rattle.assembler_model.specs.CodeBytes.{type_bytes}
use Rattle.assembler_model.specs.CodeFaults.{target_in}
use Rattle.asm_parts.specs.Pools.{entries_in}
use Rattle.asm_code.specs.Labels.{labels_in}
use Rattle.asm_pool.specs.Needs.{types_of}
use Rattle.asm_bytes.proofs.frames.push_each_type.Given as goal

-- the types so far
abbrev pub invariant-loop-kind : goal.invariant-loop-kind
invariant-loop-kind l = l.bytes.items ≡ l.fn.bytes.items
    ++ flat_map (type_bytes (entries_in l.pool) (target_in (labels_in l.labels.entries))) (types_of (take l.kind-index l.types))
