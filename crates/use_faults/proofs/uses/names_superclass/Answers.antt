use Rattle.std.proofs.Common.{◌∙◌, sym}
use Rattle.jv_types.specs.ClassData.{class_data_of}
use Rattle.use_faults.proofs.ByName.{object_above}
use Rattle.use_faults.proofs.uses.names_superclass.Goals as goal

pub returns-then-has_flag : goal.returns-then-has_flag
returns-then-has_flag c =
    c.is_text.ensures
    ∙ object_above c.args.world.now (class_data_of c.args.file.now) c.args.name.now _ c.in-Some.ensures
    (sym c.has_flag.ensures ∙ c.if-has_flag.true)
