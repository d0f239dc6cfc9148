use Rattle.std.proofs.Common.{arith}
use Rattle.world_literals.proofs.Growing.{pool_next, pool_all}
use Rattle.world_literals.proofs.pools.add_pool.Goals as goal

pub loop-entry-preserved : goal.loop-entry-preserved
loop-entry-preserved c =
    pool_next c.args.pool.now c.loop-entry.entry-index c.entry-item.result _ _ _ (omega arith) c.entry-item.is
    c.in_ok-add_entry.ensures c.loop-entry.invariant

pub returns : goal.returns
returns c = pool_all c.args.pool.now c.loop-entry.entry-index _ _ (omega arith) c.loop-entry.invariant
