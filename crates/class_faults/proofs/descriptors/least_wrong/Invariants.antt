use Rattle.std.proofs.Common.{◌≡◌, drop, flat_map}
use Rattle.jv_model.specs.Partial.{least}
use Rattle.jv_types.specs.ClassData.{pool_of}
use Rattle.class_faults.specs.Descriptors.{wrong_text, lesser}
use Rattle.class_faults.proofs.descriptors.least_wrong.Given as goal

-- the least so far, and that of the texts that are left
abbrev pub invariant-loop-text : goal.invariant-loop-text
invariant-loop-text l =
    lesser l.wrong (least (flat_map (wrong_text (pool_of l.pool)) (drop l.text-index l.texts)))
    ≡ least (flat_map (wrong_text (pool_of l.pool)) l.texts)
