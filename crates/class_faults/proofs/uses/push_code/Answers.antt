use Rattle.std.proofs.Common.{List, flat_map, ap, ◌∙◌}
use Rattle.jv_model.specs.Partial.{least}
use Rattle.link_model.specs.Uses.{Used}
use Rattle.jv_types.specs.ClassData.{pool_of}
use Rattle.class_faults.proofs.Appending.{code_added}
use Rattle.class_faults.proofs.uses.push_code.Goals as goal

pub returns : goal.returns
returns c has =
    c.in_ok-push_frames.ensures has
    ∙ ap (λ (uses : List Used). least (flat_map has uses))
    (code_added (pool_of c.args.pool.now) c.args.body.now _ _ _ _ _ c.as_slice.ensures c.as_slice-2.ensures
    c.in_ok-push_instructions.ensures c.in_ok-push_handlers.ensures)
