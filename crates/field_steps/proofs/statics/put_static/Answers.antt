use Rattle.std.proofs.Common.{◌≡◌, Some, false, ap, sym, subst, ◌∙◌}
use Rattle.std.specs.Prelude.{is_some}
use Rattle.jv_values.specs.Values.{value_of, places_of}
use Rattle.jv_types.specs.declared.number.MethodNo.{MethodNo}
use Rattle.thread_frames.specs.Frames.{FrameState, with_popped}
use Rattle.thread_frames.specs.Machine.{value_on_top, operands_of}
use Rattle.frame_stacks.specs.Threads.{Threads, change_thread}
use Rattle.class_versions.specs.Versions.{VersionTables, AreVersions}
use Rattle.look_up_cache.specs.Targets.{target_at}
use Rattle.machine_model.specs.SharedStep.{deed_of}
use Rattle.machine_threads.specs.Laws.{goes_to}
use Rattle.machine_parts.specs.Parts.{machine_of}
use Rattle.machine_parts.specs.Steps.{IsDone}
use Rattle.field_steps.specs.Fields.{IsLookedUp, LeadsToStatic}
use Rattle.field_steps.proofs.Going.{on, its_method, one_method, of_newest, at_newest, still_has_frame, popped_on}
use Rattle.field_steps.proofs.Writing.{put_leads, put_takes, top_there, below_it, its_below, put_is_done}
use Rattle.field_steps.proofs.statics.put_static.Goals as goal

pub static_place-place-requires-clause-there : goal.static_place-place-requires-clause-there
static_place-place-requires-clause-there g c =
    let machine = machine_of g.H.ObjectHeap.heap c.args.parts.now in
    let at = c.requires.at in
    let step = c.requires.step in
    subst (λ (method : MethodNo). LeadsToStatic machine.world method.class c.args.index)
    (its_method machine.stacks c.args.t.0 at.at.frame at.at.older _ at.at.newest c.newest_method-method.ensures)
    (put_leads machine c.args.t.0 c.args.next.0 c.args.index at step.types step.state step.stands step.right)

pub pop_value-value-requires : goal.pop_value-value-requires
pop_value-value-requires g c =
    let machine = machine_of g.H.ObjectHeap.heap c.args.parts.now in
    let at = c.requires.at in
    let step = c.requires.step in
    of_newest machine.stacks c.args.t.0 at.at.frame at.at.older _ at.at.newest
    (top_there machine c.args.t.0 c.args.next.0 c.args.index at step.types step.state step.stands
    (put_takes machine c.args.t.0 c.args.next.0 c.args.index at step.types step.state step.stands step.right))

pub put_static-requires : goal.put_static-requires
put_static-requires g c =
    let machine = machine_of g.H.ObjectHeap.heap c.args.parts.now in
    let at = c.requires.at in
    let step = c.requires.step in
    let leads = put_leads machine c.args.t.0 c.args.next.0 c.args.index at step.types step.state step.stands step.right in
    let method = its_method machine.stacks c.args.t.0 at.at.frame at.at.older _ at.at.newest c.newest_method-method.ensures in
    step.stands.parts.versions.statics c.static_place-place.result
    ∙ ap is_some (c.static_place-place.ensures.found leads.found
    (ap (λ (m : MethodNo). target_at machine.world m.class c.args.index) (sym method) ∙ leads.named))

pub go_on-requires : goal.go_on-requires
go_on-requires g c =
    let machine = machine_of g.H.ObjectHeap.heap c.args.parts.now in
    let at = c.requires.at in
    still_has_frame machine.stacks _ c.args.t.0 at.at.frame at.at.older (with_popped (places_of c.pop_value-value.result)) at.at.newest
    c.pop_value-value.ensures.rest

pub returns-clause-made : goal.returns-clause-made
returns-clause-made g c types state stands =
    let machine = machine_of g.H.ObjectHeap.heap c.args.parts.now in
    let t = c.args.t.0 in
    let next = c.args.next.0 in
    let at = c.requires.at in
    let step = c.requires.step in
    let leads = put_leads machine t next c.args.index at step.types step.state step.stands step.right in
    let takes = put_takes machine t next c.args.index at step.types step.state step.stands step.right in
    let value = c.pop_value-value.result in
    let place = c.static_place-place.result in
    let method = its_method machine.stacks t at.at.frame at.at.older _ at.at.newest c.newest_method-method.ensures in
    let placed = c.static_place-place.ensures.found leads.found
    (ap (λ (m : MethodNo). target_at machine.world m.class c.args.index) (sym method) ∙ leads.named) in
    let on_top = at_newest machine.stacks t at.at.frame at.at.older
    (λ (frame : FrameState). value_on_top (operands_of frame) ≡ Some (value_of value)) at.at.newest c.pop_value-value.ensures.value in
    let kept = c.static_place-place.new.caches in
    let tables : VersionTables = c.put_static.new.self in
    let versions = c.put_static.ensures.rest in
    let below = its_below machine t next c.args.index at types state stands takes in
    let stacks = c.go_on.ensures ∙ ap (change_thread t (on next)) c.pop_value-value.ensures.rest
    ∙ popped_on machine.stacks t next at.at.frame at.at.older below value at.at.newest
    (below_it machine t next c.args.index at types state stands takes leads place value placed on_top) in
    subst (λ (s : Threads). IsDone types t (record machine { stacks = s; caches = kept; versions = tables }) (deed_of state t)) (sym stacks)
    (subst (λ (v : VersionTables). IsDone types t (record machine { stacks = change_thread t (goes_to next below false) machine.stacks; caches = kept; versions = v }) (deed_of state t)) (sym versions)
    (put_is_done machine t next c.args.index at types state stands takes leads place value placed on_top kept
    c.static_place-place.ensures.truth tables.statics c.put_static.ensures.values
    (subst (AreVersions machine.world) versions (c.put_static.ensures.keeps machine.world stands.parts.versions))))

pub returns-clause-looked_up : goal.returns-clause-looked_up
returns-clause-looked_up g c method is =
    let same : c.newest_method-method.result ≡ method = one_method _ _ method c.newest_method-method.ensures is in
    subst (λ (m : MethodNo). IsLookedUp c.args.parts.now.world m.class c.args.index c.args.parts.now.caches
    c.static_place-place.new.caches c.args.steps.now c.static_place-place.new.steps) same c.static_place-place.ensures.looked_up
