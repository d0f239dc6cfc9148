use Rattle.std.proofs.Common.{◌≡◌, ◌++◌, drop, flat_map}
use Rattle.link_model.specs.Uses.{map_type_uses}
use Rattle.jv_types.specs.Frames.{row_type}
use Rattle.class_faults.specs.Uses.{uses_in}
use Rattle.class_faults.proofs.uses.push_types.Given as goal

-- the uses so far, and those of what is left
abbrev pub invariant-loop-row : goal.invariant-loop-row
invariant-loop-row l =
    uses_in l.uses.items ++ flat_map (λ row. map_type_uses (row_type row)) (drop l.row-index l.types)
    ≡ uses_in l.fn.uses.items ++ flat_map (λ row. map_type_uses (row_type row)) l.types
