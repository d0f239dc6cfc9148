use Rattle.std.proofs.Common.{subst, sym, ap, ◌∙◌}
use Rattle.heap_face.specs.Heap.{HeapState}
use Rattle.heap_objects.specs.Ids.{ids_of}
use Rattle.jv_values.specs.Values.{value_of}
use Rattle.object_fields.specs.Fields.{IsWritten}
use Rattle.object_fields.proofs.Objects.{ids_stay, is_written}
use Rattle.object_fields.proofs.fields.write_field.Goals as goal

pub returns-clause-written : goal.returns-clause-written
returns-clause-written g c =
    let heap = g.H.ObjectHeap.heap c.args.heap.now in
    let value = value_of c.args.value in
    subst (λ (new : HeapState). IsWritten c.args.layouts.now heap new c.args.object c.args.place value) (sym c.put.ensures)
    (is_written c.args.layouts.now heap c.args.object c.args.place c.requires.there c.field_cell-cell.result c.field_cell-cell.ensures
    c.word_of.result value c.word_of.ensures)

pub returns-clause-ids : goal.returns-clause-ids
returns-clause-ids g c =
    ap ids_of c.put.ensures ∙ ids_stay (g.H.ObjectHeap.heap c.args.heap.now) c.args.object c.args.place c.word_of.result
