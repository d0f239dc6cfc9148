-- Its own index is near.
use Rattle.std.proofs.Common.{arith}
use Rattle.asm_parts.specs.Entries.{entry_of}
use Rattle.asm_parts.specs.Pools.{entries_in}
use Rattle.asm_pool.proofs.NearLemmas.{index_near}
use Rattle.asm_pool.proofs.constants.near_index.Goals as goal

pub overflow_cast-result : goal.overflow_cast-result
overflow_cast-result c =
    omega (arith, c.index_of.ensures, index_near (entries_in c.args.pool.now) (entry_of c.args.entry) c.requires.near)
