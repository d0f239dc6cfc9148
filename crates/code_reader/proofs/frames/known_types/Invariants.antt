use Rattle.std.proofs.Common.{◌≡◌, drop}
use Rattle.jv_types.specs.ClassData.{pool_of}
use Rattle.jv_types.specs.Code.{map_types_of}
use Rattle.code_model.specs.StackMaps.{known_types}
use Rattle.code_reader.specs.Parts.{entry_types_of}
use Rattle.code_reader.proofs.FrameLists.{types_in_front}
use Rattle.code_reader.proofs.frames.known_types.Given as goal

-- the types so far, and those that are left
abbrev pub invariant-loop-index : goal.invariant-loop-index
invariant-loop-index l = types_in_front (map_types_of l.known.items)
    (known_types (pool_of l.pool.items) (drop l.index (entry_types_of l.types.items)))
    ≡ known_types (pool_of l.pool.items) (entry_types_of l.types.items)
