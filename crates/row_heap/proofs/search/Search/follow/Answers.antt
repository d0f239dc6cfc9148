use Rattle.std.proofs.Common.{◌≡◌, ℕ, ◌+◌, ◌-◌, ◌<◌, ◌≤◌, List, length, refl, sym, ap, subst, ◌∙◌, arith, rules}
use Rattle.std.proofs.lemmas.List.{length-map}
use Rattle.std.proofs.lemmas.Option.{slice_get_within}
use Rattle.row_heap.specs.Found.{serial_at, serials_of, capacity}
use Rattle.row_heap.proofs.Following.{found_start, found_end, found_more, can_visit, fewer}
use Rattle.row_heap.proofs.search.Search.follow.Goals as goal

pub loop-done-init : goal.loop-done-init
loop-done-init c = (c.requires.found, found_start c.args.layouts.now c.args.from.now (serials_of c.args.from.now.objects c.args.self.now.order.items), refl, refl)

pub visit_object-requires-clause-live : goal.visit_object-requires-clause-live
visit_object-requires-clause-live c =
    can_visit c.args.layouts.now c.args.from.now c.loop-done.done c.get-place.result.now c.loop-done.self.order.items c.loop-done.self.forwards.items _
    c.loop-done.invariant.0 c.get-place.ensures c.loop-done.invariant.1 c.requires.live

pub loop-done-smaller : goal.loop-done-smaller
loop-done-smaller c =
    omega (arith, slice_get_within c.loop-done.self.order.items c.loop-done.done c.get-place.result.now c.get-place.ensures, fewer c.args.from.now c.loop-done.self.order.items c.loop-done.self.forwards.items c.requires.serials c.loop-done.invariant.0)

pub loop-done-preserved : goal.loop-done-preserved
loop-done-preserved c = (
  c.visit_object.ensures.found,
  found_more c.args.layouts.now c.args.from.now c.loop-done.done c.get-place.result.now c.loop-done.self.order.items c.visit_object.new.self.order.items c.loop-done.self.forwards.items
      c.requires.serials c.loop-done.invariant.0 c.get-place.ensures c.visit_object.ensures.serials ∙ c.loop-done.invariant.1,
  c.visit_object.ensures.order_room ∙ c.loop-done.invariant.2,
  c.visit_object.ensures.forwards_room ∙ c.loop-done.invariant.3,
)

pub returns-clause-serials : goal.returns-clause-serials
returns-clause-serials c =
    let serials = serials_of c.args.from.now.objects c.loop-done.self.order.items in
    let past : length serials ≤ c.loop-done.done = omega (arith, c.loop-done-test.false, c.len.ensures, length-map c.loop-done.self.order.items (serial_at c.args.from.now.objects)) in
    sym (found_end c.args.layouts.now c.args.from.now c.loop-done.done serials past) ∙ c.loop-done.invariant.1
