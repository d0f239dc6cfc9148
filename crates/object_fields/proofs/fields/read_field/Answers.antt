use Rattle.std.proofs.Common.{subst, sym}
use Rattle.machine_model.specs.Value.{Value}
use Rattle.object_fields.specs.Fields.{IsRead}
use Rattle.object_fields.proofs.Objects.{is_read}
use Rattle.object_fields.proofs.fields.read_field.Goals as goal

pub returns : goal.returns
returns g c =
    let heap = g.H.ObjectHeap.heap c.args.heap.now in
    subst (λ (value : Value). IsRead c.args.layouts.now heap c.args.object c.args.place value) (sym c.value_in.ensures)
    (is_read c.args.layouts.now heap c.args.object c.args.place c.requires c.field_cell-cell.result c.field_cell-cell.ensures
    c.get.result c.get.ensures)
