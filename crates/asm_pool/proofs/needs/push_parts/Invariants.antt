use Rattle.std.proofs.Common.{◌≡◌, ◌++◌, take}
use Rattle.std.specs.Prelude.{flat_map}
use Rattle.assembler_model.specs.PoolNeeds.{part_needs}
use Rattle.asm_parts.specs.Parts.{parts_of}
use Rattle.asm_pool.specs.Needs.{needs_of}
use Rattle.asm_pool.proofs.needs.push_parts.Given as goal

-- what the parts so far need
abbrev pub invariant-loop-part : goal.invariant-loop-part
invariant-loop-part l = needs_of l.needs.items
    ≡ needs_of l.fn.needs.items ++ flat_map part_needs (parts_of (take l.part-index l.parts))
