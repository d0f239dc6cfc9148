use Rattle.std.proofs.Common.{◌≡◌, ◌++◌, take}
use Rattle.std.specs.Prelude.{flat_map}
use Rattle.assembler_model.specs.PoolNeeds.{needs_at, type_entries}
use Rattle.asm_pool.specs.Needs.{needs_of, types_of}
use Rattle.asm_pool.proofs.needs.push_types.Given as goal

-- what the types so far need
abbrev pub invariant-loop-kind : goal.invariant-loop-kind
invariant-loop-kind l = needs_of l.needs.items
    ≡ needs_of l.fn.needs.items ++ needs_at l.line (flat_map type_entries (types_of (take l.kind-index l.types)))
