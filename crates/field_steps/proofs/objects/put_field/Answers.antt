use Rattle.std.proofs.Common.{◌≡◌, sym, subst, ◌∙◌}
use Rattle.std.specs.Prelude.{IsSomeAnd}
use Rattle.heap_face.specs.declared.layout.Layouts.{Layouts}
use Rattle.heap_objects.specs.Words.{IsOfCell}
use Rattle.jv_values.specs.Values.{value_of}
use Rattle.jv_types.specs.declared.number.MethodNo.{MethodNo}
use Rattle.machine_parts.specs.Parts.{machine_of}
use Rattle.object_fields.specs.Fields.{HasField, IsWritten, cell_of_field}
use Rattle.field_steps.specs.Fields.{IsLookedUp}
use Rattle.field_steps.proofs.Going.{one_method}
use Rattle.field_steps.proofs.Receivers.{no_object}
use Rattle.field_steps.proofs.Putting.{put_asks_operand, put_counts, put_asks, put_sees, put_finds_null, put_asks_value, put_popped, put_asks_reference, put_goes, put_went, put_leads_there, put_receiver, put_cell, put_makes}
use Rattle.field_steps.proofs.objects.put_field.Goals as goal

pub words_on_top-above-requires : goal.words_on_top-above-requires
words_on_top-above-requires g c =
    let machine = machine_of g.H.ObjectHeap.heap c.args.parts.now in
    put_asks_operand machine c.args.t.0 c.args.next.0 c.args.index c.requires.at c.requires.step

pub object_below-requires : goal.object_below-requires
object_below-requires g c =
    let machine = machine_of g.H.ObjectHeap.heap c.args.parts.now in
    let t = c.args.t.0 in
    let next = c.args.next.0 in
    put_asks machine t next c.args.index c.requires.at c.requires.step c.words_on_top-above.result
    (put_counts machine t next c.args.index c.requires.at c.requires.step c.words_on_top-above.result c.words_on_top-above.ensures)

pub returns-in_default-clause-null : goal.returns-in_default-clause-null
returns-in_default-clause-null g c null =
    let machine = machine_of g.H.ObjectHeap.heap c.args.parts.now in
    let t = c.args.t.0 in
    let next = c.args.next.0 in
    let count = put_counts machine t next c.args.index c.requires.at c.requires.step c.words_on_top-above.result c.words_on_top-above.ensures in
    put_finds_null machine t next c.args.index c.requires.at c.requires.step
    (put_sees machine t next c.args.index c.requires.at c.requires.step c.words_on_top-above.result count c.object_below.result c.object_below.ensures
    ∙ no_object c.object_below.result (λ a is. c.in_default.not-Some a is))

pub object_place-place-requires-clause-there : goal.object_place-place-requires-clause-there
object_place-place-requires-clause-there g c =
    let machine = machine_of g.H.ObjectHeap.heap c.args.parts.now in
    let t = c.args.t.0 in
    let next = c.args.next.0 in
    let count = put_counts machine t next c.args.index c.requires.at c.requires.step c.words_on_top-above.result c.words_on_top-above.ensures in
    let sees = put_sees machine t next c.args.index c.requires.at c.requires.step c.words_on_top-above.result count _ c.in-Some.ensures in
    put_leads_there machine t next c.args.index c.requires.at c.requires.step c.in-Some.object sees
    c.newest_method-method.result c.newest_method-method.ensures

pub pop_value-value-requires : goal.pop_value-value-requires
pop_value-value-requires g c =
    let machine = machine_of g.H.ObjectHeap.heap c.args.parts.now in
    put_asks_value machine c.args.t.0 c.args.next.0 c.args.index c.requires.at c.requires.step

pub pop_value-requires : goal.pop_value-requires
pop_value-requires g c =
    let machine = machine_of g.H.ObjectHeap.heap c.args.parts.now in
    put_asks_reference machine c.args.t.0 c.args.next.0 c.args.index c.requires.at c.requires.step c.pop_value-value.new.self
    c.pop_value-value.result c.pop_value-value.ensures.value c.pop_value-value.ensures.rest

pub write_field-requires-clause-there : goal.write_field-requires-clause-there
write_field-requires-clause-there g c =
    let machine = machine_of g.H.ObjectHeap.heap c.args.parts.now in
    let t = c.args.t.0 in
    let next = c.args.next.0 in
    let count = put_counts machine t next c.args.index c.requires.at c.requires.step c.words_on_top-above.result c.words_on_top-above.ensures in
    let sees = put_sees machine t next c.args.index c.requires.at c.requires.step c.words_on_top-above.result count _ c.in-Some.ensures in
    subst (λ (layouts : Layouts). HasField layouts machine.heap c.in-Some.object c.object_place-place.result) (sym c.layouts.ensures)
    (put_receiver machine t next c.args.index c.requires.at c.requires.step c.in-Some.object sees
    c.newest_method-method.result c.newest_method-method.ensures c.object_place-place.result c.object_place-place.ensures.found).field

pub write_field-requires-clause-cell : goal.write_field-requires-clause-cell
write_field-requires-clause-cell g c =
    let machine = machine_of g.H.ObjectHeap.heap c.args.parts.now in
    let t = c.args.t.0 in
    let next = c.args.next.0 in
    let count = put_counts machine t next c.args.index c.requires.at c.requires.step c.words_on_top-above.result c.words_on_top-above.ensures in
    let sees = put_sees machine t next c.args.index c.requires.at c.requires.step c.words_on_top-above.result count _ c.in-Some.ensures in
    let value = c.pop_value-value.result in
    subst (λ (layouts : Layouts). IsSomeAnd (cell_of_field layouts machine.heap c.in-Some.object c.object_place-place.result) (λ cell. IsOfCell cell (value_of value)))
    (sym c.layouts.ensures)
    (put_cell machine t next c.args.index c.requires.at c.requires.step c.in-Some.object sees
    c.newest_method-method.result c.newest_method-method.ensures c.object_place-place.result c.object_place-place.ensures.found value
    (put_popped machine t next c.args.index c.requires.at c.requires.step c.pop_value-value.new.self value c.pop_value-value.ensures.value c.pop_value-value.ensures.rest))

pub go_on-requires : goal.go_on-requires
go_on-requires g c =
    let machine = machine_of g.H.ObjectHeap.heap c.args.parts.now in
    put_goes machine c.args.t.0 c.args.next.0 c.args.index c.requires.at c.requires.step c.pop_value-value.new.self
    c.pop_value-value.result c.pop_value-value.ensures.value c.pop_value-value.ensures.rest
    c.pop_value.new.self c.pop_value.result c.pop_value.ensures.value c.pop_value.ensures.rest

pub returns-clause-made : goal.returns-clause-made
returns-clause-made g c made =
    let machine = machine_of g.H.ObjectHeap.heap c.args.parts.now in
    let t = c.args.t.0 in
    let next = c.args.next.0 in
    let at = c.requires.at in
    let step = c.requires.step in
    let count = put_counts machine t next c.args.index at step c.words_on_top-above.result c.words_on_top-above.ensures in
    let sees = put_sees machine t next c.args.index at step c.words_on_top-above.result count _ c.in-Some.ensures in
    let value = c.pop_value-value.result in
    let heap = g.H.ObjectHeap.heap c.write_field.new.heap in
    let written = subst (λ (layouts : Layouts). IsWritten layouts machine.heap heap c.in-Some.object c.object_place-place.result (value_of value))
    c.layouts.ensures c.write_field.ensures.written in
    put_makes machine t next c.args.index at step c.in-Some.object sees
    c.newest_method-method.result c.newest_method-method.ensures c.object_place-place.result c.object_place-place.ensures.found value
    (put_popped machine t next c.args.index at step c.pop_value-value.new.self value c.pop_value-value.ensures.value c.pop_value-value.ensures.rest)
    c.object_place-place.new.caches c.object_place-place.ensures.truth heap written c.write_field.ensures.ids c.go_on.new.stacks
    (put_went machine t next c.args.index at step c.pop_value-value.new.self value c.pop_value-value.ensures.value c.pop_value-value.ensures.rest
    c.pop_value.new.self c.pop_value.result c.pop_value.ensures.value c.pop_value.ensures.rest c.go_on.new.stacks c.go_on.ensures)

pub returns-clause-looked_up : goal.returns-clause-looked_up
returns-clause-looked_up g c method made is =
    let same : c.newest_method-method.result ≡ method = one_method _ _ method c.newest_method-method.ensures is in
    subst (λ (m : MethodNo). IsLookedUp c.args.parts.now.world m.class c.args.index c.args.parts.now.caches
    c.object_place-place.new.caches c.args.steps.now c.object_place-place.new.steps) same c.object_place-place.ensures.looked_up
