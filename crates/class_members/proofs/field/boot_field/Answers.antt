use Rattle.std.proofs.Common.{None, ap, ◌∙◌}
use Rattle.jv_types.specs.Boot.{boot_field_of}
use Rattle.class_members.specs.Members.{cell_of}
use Rattle.class_members.proofs.Fields.{kept-boot}
use Rattle.class_members.proofs.field.boot_field.Goals as goal

pub returns : goal.returns
returns c =
    let cell = c.cell_of-cell.ensures ∙ ap cell_of c.as_slice.ensures in
    kept-boot c.args.field.now c.cell_of-cell.result c.first_value.result cell
    (c.first_value.ensures (boot_field_of c.args.field.now) cell)
