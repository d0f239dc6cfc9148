use Rattle.std.proofs.Common.{◌≡◌, drop, flat_map}
use Rattle.jv_model.specs.Partial.{least}
use Rattle.jv_types.specs.ClassData.{class_data_of}
use Rattle.class_faults.specs.Descriptors.{lesser}
use Rattle.use_faults.specs.Wrong.{wrong_read}
use Rattle.use_faults.proofs.uses.least_wrong.Given as goal

-- the least so far, and that of the uses that are left
abbrev pub invariant-loop-used : goal.invariant-loop-used
invariant-loop-used l =
    lesser l.wrong (least (flat_map (wrong_read l.world (class_data_of l.file)) (drop l.used-index l.uses)))
    ≡ least (flat_map (wrong_read l.world (class_data_of l.file)) l.uses)
