use Rattle.std.proofs.Common.{◌≡◌, ◌++◌, ◌∷◌, take}
use Rattle.std.specs.Prelude.{flat_map}
use Rattle.jv_model.specs.ClassData.{gap}
use Rattle.jv_types.specs.ClassData.{pool_of as constants_of}
use Rattle.assembler_model.specs.AssemblerPool.{const_of}
use Rattle.asm_parts.specs.Entries.{entries_of}
use Rattle.asm_parts.specs.Pools.{entries_in}
use Rattle.asm_pool.proofs.constants.constants.Given as goal

-- the entries so far
abbrev pub invariant-loop-entry : goal.invariant-loop-entry
invariant-loop-entry l = constants_of l.constants.items
    ≡ gap ∷ flat_map (const_of (entries_in l.pool)) (entries_of (take l.entry-index l.pool.entries.keys))
