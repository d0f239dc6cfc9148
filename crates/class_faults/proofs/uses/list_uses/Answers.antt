use Rattle.std.proofs.Common.{List, flat_map, refl, ap, ◌∙◌}
use Rattle.jv_model.specs.Partial.{least}
use Rattle.link_model.specs.Uses.{Used}
use Rattle.jv_types.specs.ClassData.{pool_of}
use Rattle.class_faults.specs.Uses.{uses_in}
use Rattle.class_faults.proofs.Appending.{all_added}
use Rattle.class_faults.proofs.uses.list_uses.Goals as goal

pub returns : goal.returns
returns c has =
    c.in_ok-push_codes.ensures has
    ∙ ap (λ (uses : List Used). least (flat_map has uses))
    (all_added c.args.class.now _ _ _ _ _ _ _ _ _ _ _ (ap uses_in c.new-uses.ensures) c.as_slice.ensures c.as_slice-2.ensures c.as_slice-3.ensures
    (ap pool_of c.as_slice-4.ensures) c.as_slice-5.ensures c.in_ok-push_use.ensures c.in_ok-push_interfaces.ensures
    c.in_ok-push_descriptors.ensures c.in_ok-push_descriptors-2.ensures refl)
