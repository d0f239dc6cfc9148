use Rattle.std.proofs.Common.{◌≡◌, drop, map}
use Rattle.jv_model.specs.Partial.{first_of}
use Rattle.link_model.specs.WorldOf.{class_of}
use Rattle.link_model.specs.ClassFaults.{reserved_fault}
use Rattle.jv_types.specs.Loaded.{loaded_of}
use Rattle.class_faults.proofs.reserved.first_reserved.Given as goal

-- it's the first of those that are left
abbrev pub invariant-loop-class : goal.invariant-loop-class
invariant-loop-class l =
    first_of reserved_fault (map class_of (map loaded_of (drop l.class-index l.classes))) ≡ first_of reserved_fault (map class_of (map loaded_of l.classes))
