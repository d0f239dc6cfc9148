use Rattle.std.proofs.Common.{◌≡◌, drop, map}
use Rattle.std.specs.List.{list_all}
use Rattle.link_model.specs.UseFaults.{is_type_there}
use Rattle.descriptor_types.specs.Types.{field_type_of}
use Rattle.use_faults.proofs.types.are_types_there.Given as goal

-- it's decided by the parameters that are left
abbrev pub invariant-loop-parameter : goal.invariant-loop-parameter
invariant-loop-parameter l =
    list_all (is_type_there l.world) (map field_type_of (drop l.parameter-index l.method_type.parameters.items))
    ≡ list_all (is_type_there l.world) (map field_type_of l.method_type.parameters.items)
