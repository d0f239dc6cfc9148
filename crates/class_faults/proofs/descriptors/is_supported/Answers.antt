use Rattle.std.proofs.Common.{◌∙◌, sym}
use Rattle.descriptor_types.specs.Types.{element_of}
use Rattle.class_faults.proofs.Supported.{nested_supported, other_supported, not_supported}
use Rattle.class_faults.proofs.descriptors.is_supported.Goals as goal

pub returns-in_default : goal.returns-in_default
returns-in_default c =
    let type = c.args.field_type in
    sym (nested_supported type.dimensions (element_of type.element)
    ∙ other_supported type.element c.in_default.not-Float c.in_default.not-Double)

pub returns-in-Float : goal.returns-in-Float
returns-in-Float c =
    let type = c.args.field_type in
    sym (nested_supported type.dimensions (element_of type.element) ∙ not_supported type.element c.in-Float.is)
