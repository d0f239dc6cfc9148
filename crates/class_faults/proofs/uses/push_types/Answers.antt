use Rattle.std.proofs.Common.{arith}
use Rattle.link_model.specs.Uses.{map_type_uses}
use Rattle.jv_types.specs.Frames.{row_type}
use Rattle.class_faults.proofs.Appending.{flat_more_at, flat_end}
use Rattle.class_faults.proofs.uses.push_types.Goals as goal

pub loop-row-preserved : goal.loop-row-preserved
loop-row-preserved c =
    flat_more_at (λ row. map_type_uses (row_type row)) c.args.types.now c.loop-row.row-index _ _ _ _ (omega arith) c.in_ok-push_map_type.ensures c.loop-row.invariant

pub returns : goal.returns
returns c = flat_end (λ row. map_type_uses (row_type row)) c.args.types.now c.loop-row.row-index _ _ (omega arith) c.loop-row.invariant
