use Rattle.std.proofs.Common.{◌≡◌, drop}
use Rattle.text_model.specs.LineFaults.{first_fault}
use Rattle.assembler_model.specs.AssemblerPool.{pool_faults}
use Rattle.asm_parts.specs.Faults.{either, told_by}
use Rattle.asm_parts.specs.Pools.{entries_in}
use Rattle.asm_pool.specs.Needs.{needs_of}
use Rattle.asm_pool.proofs.fill.note_far.Given as goal

-- what is noted, and the needs that are left
abbrev pub invariant-loop-item : goal.invariant-loop-item
invariant-loop-item l =
    either (told_by l.first) (first_fault (pool_faults (entries_in l.pool) (needs_of (drop l.item-index l.needs))))
    ≡ either (told_by l.fn.first) (first_fault (pool_faults (entries_in l.pool) (needs_of l.needs)))
