use Rattle.std.proofs.Common.{◌≡◌, drop, flat_map}
use Rattle.jv_model.specs.Partial.{least}
use Rattle.link_model.specs.Uses.{Used}
use Rattle.link_model.specs.DescriptorFaults.{wrong_text_of}
use Rattle.jv_types.specs.ClassData.{pool_of}
use Rattle.class_faults.specs.Uses.{uses_in}
use Rattle.class_faults.specs.Descriptors.{wrong_text, lesser}
use Rattle.class_faults.proofs.descriptors.text_uses.Given as goal

-- the texts so far, and those of the uses that are left
abbrev pub invariant-loop-used : goal.invariant-loop-used
invariant-loop-used l =
    lesser (least (flat_map (wrong_text (pool_of l.pool)) l.texts.keys))
    (least (flat_map (λ (u : Used). wrong_text_of (pool_of l.pool) u.index u.use_as) (uses_in (drop l.used-index l.uses))))
    ≡ least (flat_map (λ (u : Used). wrong_text_of (pool_of l.pool) u.index u.use_as) (uses_in l.uses))
