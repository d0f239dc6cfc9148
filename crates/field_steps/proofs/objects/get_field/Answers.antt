use Rattle.std.proofs.Common.{◌≡◌, Some, sym, subst, ◌∙◌}
use Rattle.heap_face.specs.declared.layout.Layouts.{Layouts}
use Rattle.jv_values.specs.declared.value.Value.{Value}
use Rattle.jv_values.specs.Values.{value_of, places_of}
use Rattle.jv_types.specs.declared.number.MethodNo.{MethodNo}
use Rattle.thread_frames.specs.Frames.{FrameState, with_popped, with_pushed}
use Rattle.thread_frames.specs.Machine.{value_on_top, operands_of}
use Rattle.frame_stacks.specs.Threads.{Threads}
use Rattle.machine_parts.specs.Parts.{Machine, machine_of}
use Rattle.object_fields.specs.Fields.{HasField, IsRead}
use Rattle.field_steps.specs.Fields.{IsLookedUp}
use Rattle.field_steps.proofs.Going.{one_method, of_newest, at_newest, newest_after, still_has_frame, pop_push_on}
use Rattle.field_steps.proofs.Receivers.{no_object}
use Rattle.field_steps.proofs.Getting.{gets, its_rest, get_asks, get_sees, get_finds_null, get_on_top, get_popped, get_pops, get_leads_there, get_receiver, get_room, get_makes}
use Rattle.field_steps.proofs.objects.get_field.Goals as goal

pub object_below-requires : goal.object_below-requires
object_below-requires g c =
    let machine = machine_of g.H.ObjectHeap.heap c.args.parts.now in
    get_asks machine c.args.t.0 c.args.next.0 c.args.index c.requires.at c.requires.step

pub returns-in_default-clause-null : goal.returns-in_default-clause-null
returns-in_default-clause-null g c null =
    let machine = machine_of g.H.ObjectHeap.heap c.args.parts.now in
    let t = c.args.t.0 in
    let next = c.args.next.0 in
    get_finds_null machine t next c.args.index c.requires.at c.requires.step
    (get_sees machine t next c.args.index c.requires.at c.requires.step c.object_below.result c.object_below.ensures
    ∙ no_object c.object_below.result (λ a is. c.in_default.not-Some a is))

pub object_place-place-requires-clause-there : goal.object_place-place-requires-clause-there
object_place-place-requires-clause-there g c =
    let machine = machine_of g.H.ObjectHeap.heap c.args.parts.now in
    let t = c.args.t.0 in
    let next = c.args.next.0 in
    let sees = get_sees machine t next c.args.index c.requires.at c.requires.step _ c.in-Some.ensures in
    get_leads_there machine t next c.args.index c.requires.at c.requires.step c.in-Some.object sees
    c.newest_method-method.result c.newest_method-method.ensures

pub read_field-value-requires : goal.read_field-value-requires
read_field-value-requires g c =
    let machine = machine_of g.H.ObjectHeap.heap c.args.parts.now in
    let t = c.args.t.0 in
    let next = c.args.next.0 in
    let sees = get_sees machine t next c.args.index c.requires.at c.requires.step _ c.in-Some.ensures in
    subst (λ (layouts : Layouts). HasField layouts machine.heap c.in-Some.object c.object_place-place.result) (sym c.layouts.ensures)
    (get_receiver machine t next c.args.index c.requires.at c.requires.step c.in-Some.object sees
    c.newest_method-method.result c.newest_method-method.ensures c.object_place-place.result c.object_place-place.ensures.found).field

pub pop_value-requires : goal.pop_value-requires
pop_value-requires g c =
    let machine = machine_of g.H.ObjectHeap.heap c.args.parts.now in
    let t = c.args.t.0 in
    let next = c.args.next.0 in
    let at = c.requires.at in
    of_newest machine.stacks t at.at.frame at.at.older _ at.at.newest
    (get_on_top machine t next c.args.index at (gets machine t next c.args.index at c.requires.step))

pub push_value-requires : goal.push_value-requires
push_value-requires g c =
    let machine = machine_of g.H.ObjectHeap.heap c.args.parts.now in
    let t = c.args.t.0 in
    let next = c.args.next.0 in
    let sees = get_sees machine t next c.args.index c.requires.at c.requires.step _ c.in-Some.ensures in
    let read = subst (λ (layouts : Layouts). IsRead layouts machine.heap c.in-Some.object c.object_place-place.result (value_of c.read_field-value.result))
    c.layouts.ensures c.read_field-value.ensures in
    get_pops machine t next c.args.index c.requires.at c.requires.step c.pop_value.new.self c.pop_value.result c.read_field-value.result
    c.pop_value.ensures.value c.pop_value.ensures.rest
    (get_room machine t next c.args.index c.requires.at c.requires.step c.in-Some.object sees
    c.newest_method-method.result c.newest_method-method.ensures c.object_place-place.result c.object_place-place.ensures.found
    c.read_field-value.result read)

pub go_on-requires : goal.go_on-requires
go_on-requires g c =
    let machine = machine_of g.H.ObjectHeap.heap c.args.parts.now in
    let at = c.requires.at in
    let popped = newest_after machine.stacks c.pop_value.new.self c.args.t.0 at.at.frame at.at.older (with_popped (places_of c.pop_value.result))
    at.at.newest c.pop_value.ensures.rest in
    still_has_frame c.pop_value.new.self _ c.args.t.0 (with_popped (places_of c.pop_value.result) at.at.frame) at.at.older
    (with_pushed c.read_field-value.result) popped c.push_value.ensures

pub returns-clause-made : goal.returns-clause-made
returns-clause-made g c made =
    let machine = machine_of g.H.ObjectHeap.heap c.args.parts.now in
    let t = c.args.t.0 in
    let next = c.args.next.0 in
    let at = c.requires.at in
    let takes = gets machine t next c.args.index at c.requires.step in
    let sees = get_sees machine t next c.args.index at c.requires.step _ c.in-Some.ensures in
    let read = subst (λ (layouts : Layouts). IsRead layouts machine.heap c.in-Some.object c.object_place-place.result (value_of c.read_field-value.result))
    c.layouts.ensures c.read_field-value.ensures in
    let top = get_popped machine t next c.args.index at takes c.pop_value.result
    (at_newest machine.stacks t at.at.frame at.at.older
    (λ (frame : FrameState). value_on_top (operands_of frame) ≡ Some (value_of c.pop_value.result)) at.at.newest c.pop_value.ensures.value) in
    get_makes machine t next c.args.index at c.requires.step c.in-Some.object sees
    c.newest_method-method.result c.newest_method-method.ensures c.object_place-place.result c.object_place-place.ensures.found
    c.read_field-value.result read c.object_place-place.new.caches c.object_place-place.ensures.truth c.go_on.new.stacks
    (pop_push_on machine.stacks c.pop_value.new.self c.push_value.new.self c.go_on.new.stacks t next at.at.frame at.at.older
    (its_rest machine t next c.args.index at takes) c.pop_value.result c.read_field-value.result at.at.newest top
    c.pop_value.ensures.rest c.push_value.ensures c.go_on.ensures)

pub returns-clause-looked_up : goal.returns-clause-looked_up
returns-clause-looked_up g c method made is =
    let same : c.newest_method-method.result ≡ method = one_method _ _ method c.newest_method-method.ensures is in
    subst (λ (m : MethodNo). IsLookedUp c.args.parts.now.world m.class c.args.index c.args.parts.now.caches
    c.object_place-place.new.caches c.args.steps.now c.object_place-place.new.steps) same c.object_place-place.ensures.looked_up
