use Rattle.std.proofs.Common.{◌≡◌, ◌++◌, map, take}
use Rattle.world_tables.specs.Tables.{chains_of}
use Rattle.world_tables.proofs.chain.chains.Given as goal

-- the chains of the classes so far
abbrev pub invariant-loop-class : goal.invariant-loop-class
invariant-loop-class l = map (λ row. row.items) l.rows.items ≡ take l.class (chains_of l.world)
