use Rattle.std.proofs.Common.{◌≡◌, drop, map}
use Rattle.jv_model.specs.Partial.{first_of}
use Rattle.link_model.specs.DescriptorFaults.{descriptor_fault}
use Rattle.jv_types.specs.Loaded.{loaded_of}
use Rattle.class_faults.proofs.descriptors.first_wrong_descriptor.Given as goal

-- it's the first of those that are left
abbrev pub invariant-loop-class : goal.invariant-loop-class
invariant-loop-class l =
    first_of descriptor_fault (map loaded_of (drop l.class-index l.classes)) ≡ first_of descriptor_fault (map loaded_of l.classes)
