use Rattle.std.proofs.Common.{◌≡◌, drop, map}
use Rattle.std.specs.List.{list_all}
use Rattle.link_model.specs.DescriptorFaults.{is_supported}
use Rattle.descriptor_types.specs.Types.{field_type_of}
use Rattle.class_faults.proofs.descriptors.are_supported.Given as goal

-- it's decided by the parameters that are left
abbrev pub invariant-loop-parameter : goal.invariant-loop-parameter
invariant-loop-parameter l =
    list_all is_supported (map field_type_of (drop l.parameter-index l.method_type.parameters.items))
    ≡ list_all is_supported (map field_type_of l.method_type.parameters.items)
