use Rattle.std.proofs.Common.{◌≡◌, [], take, fold}
use Rattle.std.specs.Prelude.{flat_map}
use Rattle.assembler_model.specs.PoolEntries.{with_parts}
use Rattle.assembler_model.specs.AssemblerPool.{with_entry}
use Rattle.asm_parts.specs.Pools.{entries_in, IsPool}
use Rattle.asm_pool.specs.Needs.{needs_of}
use Rattle.asm_pool.proofs.fill.fill.Given as goal

-- the entries of the needs so far
abbrev pub invariant-loop-item : goal.invariant-loop-item
invariant-loop-item l = record {
  pool : IsPool l.pool;
  entries : entries_in l.pool ≡ fold with_entry [] (flat_map (λ need. with_parts need.entry) (needs_of (take l.item-index l.needs)));
}
