use Rattle.std.proofs.Common.{◌≡◌, ℕ, List, drop, flat_map}
use Rattle.jv_model.specs.Partial.{least}
use Rattle.class_faults.specs.declared.uses.Used.{Used}
use Rattle.class_faults.specs.Descriptors.{lesser}
use Rattle.use_faults.proofs.uses.distinct_uses.Given as goal

-- whatever uses have, the least is that of those so far and of those that are left
abbrev pub invariant-loop-used : goal.invariant-loop-used
invariant-loop-used l = (has : Used → List ℕ)
    → lesser (least (flat_map has l.distinct.keys)) (least (flat_map has (drop l.used-index l.uses)))
    ≡ least (flat_map has l.uses)
