use Rattle.std.proofs.Common.{◌≡◌, filter_map, map, drop}
use Rattle.jv_types.specs.ClassData.{const_of, pool_of}
use Rattle.world_literals.specs.Literals.{string_in, pool_strings}
use Rattle.world_literals.specs.Growing.{with_all}
use Rattle.world_literals.proofs.pools.add_pool.Given as goal

-- the texts so far, and those of the entries that are left
abbrev pub invariant-loop-entry : goal.invariant-loop-entry
invariant-loop-entry l =
    with_all l.texts (filter_map (string_in (pool_of l.pool)) (map const_of (drop l.entry-index l.pool)))
    ≡ with_all l.fn.texts (pool_strings (pool_of l.pool))
