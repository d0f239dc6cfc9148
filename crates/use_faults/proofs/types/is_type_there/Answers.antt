use Rattle.std.proofs.Common.{◌∙◌, sym}
use Rattle.use_faults.proofs.TypesThere.{class_there, other_there}
use Rattle.use_faults.proofs.types.is_type_there.Goals as goal

pub returns-in-Class : goal.returns-in-Class
returns-in-Class c =
    c.is_there.ensures
    ∙ sym (class_there c.args.world.now c.args.field_type.dimensions c.args.field_type.element c.in-Class.name c.in-Class.is)

pub returns-in_default : goal.returns-in_default
returns-in_default c =
    sym (other_there c.args.world.now c.args.field_type.dimensions c.args.field_type.element c.in_default.not-Class)
