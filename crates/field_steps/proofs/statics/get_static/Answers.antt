use Rattle.std.proofs.Common.{◌≡◌, ap, sym, subst, ◌∙◌}
use Rattle.std.specs.Prelude.{is_some}
use Rattle.jv_types.specs.declared.number.MethodNo.{MethodNo}
use Rattle.thread_frames.specs.Frames.{with_pushed}
use Rattle.frame_stacks.specs.Threads.{Threads, change_thread}
use Rattle.look_up_cache.specs.Targets.{target_at}
use Rattle.machine_model.specs.SharedStep.{deed_of}
use Rattle.machine_parts.specs.Parts.{machine_of}
use Rattle.machine_parts.specs.Steps.{IsDone}
use Rattle.field_steps.specs.Fields.{IsLookedUp, LeadsToStatic}
use Rattle.field_steps.proofs.Going.{on, its_method, one_method, of_newest, still_has_frame, pushed_on}
use Rattle.field_steps.proofs.Reading.{get_leads, get_fits, get_is_done}
use Rattle.field_steps.proofs.statics.get_static.Goals as goal

pub static_place-place-requires-clause-there : goal.static_place-place-requires-clause-there
static_place-place-requires-clause-there g c =
    let machine = machine_of g.H.ObjectHeap.heap c.args.parts.now in
    let at = c.requires.at in
    let step = c.requires.step in
    subst (λ (method : MethodNo). LeadsToStatic machine.world method.class c.args.index)
    (its_method machine.stacks c.args.t.0 at.at.frame at.at.older _ at.at.newest c.newest_method-method.ensures)
    (get_leads machine c.args.t.0 c.args.next.0 c.args.index at step.types step.state step.stands step.right)

pub get_static-value-requires : goal.get_static-value-requires
get_static-value-requires g c =
    let machine = machine_of g.H.ObjectHeap.heap c.args.parts.now in
    let at = c.requires.at in
    let step = c.requires.step in
    let leads = get_leads machine c.args.t.0 c.args.next.0 c.args.index at step.types step.state step.stands step.right in
    let method = its_method machine.stacks c.args.t.0 at.at.frame at.at.older _ at.at.newest c.newest_method-method.ensures in
    step.stands.parts.versions.statics c.static_place-place.result
    ∙ ap is_some (c.static_place-place.ensures.found leads.found
    (ap (λ (m : MethodNo). target_at machine.world m.class c.args.index) (sym method) ∙ leads.named))

pub push_value-requires : goal.push_value-requires
push_value-requires g c =
    let machine = machine_of g.H.ObjectHeap.heap c.args.parts.now in
    let at = c.requires.at in
    let step = c.requires.step in
    let leads = get_leads machine c.args.t.0 c.args.next.0 c.args.index at step.types step.state step.stands step.right in
    let method = its_method machine.stacks c.args.t.0 at.at.frame at.at.older _ at.at.newest c.newest_method-method.ensures in
    let placed = c.static_place-place.ensures.found leads.found
    (ap (λ (m : MethodNo). target_at machine.world m.class c.args.index) (sym method) ∙ leads.named) in
    of_newest machine.stacks c.args.t.0 at.at.frame at.at.older _ at.at.newest
    (get_fits machine c.args.t.0 c.args.next.0 c.args.index at step.types step.state step.stands leads c.static_place-place.result
    c.get_static-value.result placed c.get_static-value.ensures step.right)

pub go_on-requires : goal.go_on-requires
go_on-requires g c =
    let machine = machine_of g.H.ObjectHeap.heap c.args.parts.now in
    let at = c.requires.at in
    still_has_frame machine.stacks _ c.args.t.0 at.at.frame at.at.older (with_pushed c.get_static-value.result) at.at.newest
    c.push_value.ensures

pub returns-clause-made : goal.returns-clause-made
returns-clause-made g c types state stands =
    let machine = machine_of g.H.ObjectHeap.heap c.args.parts.now in
    let t = c.args.t.0 in
    let next = c.args.next.0 in
    let at = c.requires.at in
    let step = c.requires.step in
    let leads = get_leads machine t next c.args.index at step.types step.state step.stands step.right in
    let method = its_method machine.stacks t at.at.frame at.at.older _ at.at.newest c.newest_method-method.ensures in
    let placed = c.static_place-place.ensures.found leads.found
    (ap (λ (m : MethodNo). target_at machine.world m.class c.args.index) (sym method) ∙ leads.named) in
    let kept = c.static_place-place.new.caches in
    let stacks = c.go_on.ensures ∙ ap (change_thread t (on next)) c.push_value.ensures
    ∙ pushed_on machine.stacks t next at.at.frame at.at.older c.get_static-value.result at.at.newest in
    subst (λ (s : Threads). IsDone types t (record machine { stacks = s; caches = kept }) (deed_of state t)) (sym stacks)
    (get_is_done machine t next c.args.index at types state stands leads c.static_place-place.result c.get_static-value.result
    placed c.get_static-value.ensures kept c.static_place-place.ensures.truth)

pub returns-clause-looked_up : goal.returns-clause-looked_up
returns-clause-looked_up g c method is =
    let same : c.newest_method-method.result ≡ method = one_method _ _ method c.newest_method-method.ensures is in
    subst (λ (m : MethodNo). IsLookedUp c.args.parts.now.world m.class c.args.index c.args.parts.now.caches
    c.static_place-place.new.caches c.args.steps.now c.static_place-place.new.steps) same c.static_place-place.ensures.looked_up
