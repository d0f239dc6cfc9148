use Rattle.std.proofs.Common.{◌≡◌, ℕ, ◌+◌, ◌-◌, ◌*◌, ◌<◌, ◌≤◌, List, [], ◌++◌, length, take, get_or, refl, sym, ap, subst, ◌∙◌, arith, rules}
use Rattle.std.specs.Prelude.{is_some, replicate}
use Rattle.std.proofs.lemmas.List.{get_or_default, take_all, length-replicate}
use Rattle.machine_model.specs.Reach.{unseen}
use Rattle.heap_face.specs.declared.address.Addr.{Addr}
use Rattle.heap_face.specs.Heap.{object_of}
use Rattle.heap_face.specs.Collection.{root_serials, reached}
use Rattle.row_heap.specs.Placing.{state_of}
use Rattle.row_heap.specs.Found.{CanFollow, serials_of, capacity, found_by}
use Rattle.row_heap.proofs.Reading.{place_room}
use Rattle.row_heap.proofs.Following.{HasRoots, no_roots, root_step, is_root, live_root, forward_room, can_follow_all, found_is_reached}
use Rattle.row_heap.proofs.search.Search.run.Goals as goal

pub add_copies-requires : goal.add_copies-requires
add_copies-requires c =
    let enough : c.args.from.now.half < 3 * (c.args.self.now.forwards.spare + 1) = omega (arith, c.requires.forwards_room, ap length c.requires.empty) in
    forward_room c.args.from.now c.len.result c.args.self.now.forwards.spare c.len.ensures.whole c.len.ensures.room enough c.len.ensures.length

pub loop-root-init : goal.loop-root-init
loop-root-init c =
    let zeros : c.add_copies.new.list.items ≡ replicate (length c.args.from.now.objects) 0 = c.add_copies.ensures.items
    ∙ ap (λ (list : List ℕ). list ++ replicate c.len.result 0) c.requires.empty ∙ ap (λ (n : ℕ). replicate n 0) c.len.ensures.length in (
      no_roots c.args.from.now c.args.roots.now c.args.self.now.order.items c.add_copies.new.list.items c.requires.none zeros,
      refl,
      omega (arith, ap length zeros, ap length c.requires.empty, length-replicate {A = ℕ} (length c.args.from.now.objects) 0, c.add_copies.ensures.spare, c.len.ensures.length),
    )

pub overflow_sub-root : goal.overflow_sub-root
overflow_sub-root c =
    let a : Addr = get_or c.args.roots.now c.loop-root.root-index (record { 0 = 0 }) in
    let is_a : a ≡ get_or c.args.roots.now c.loop-root.root-index a = get_or_default c.args.roots.now c.loop-root.root-index (record { 0 = 0 }) a c.loop-root-test.true in
    let root = is_root c.args.from.now a (live_root (λ r. is_some (object_of (state_of c.args.from.now) r)) c.args.roots.now c.loop-root.root-index a c.requires.live.live c.loop-root-test.true is_a) in
    omega (arith, root.some)

pub visit-requires-clause-place : goal.visit-requires-clause-place
visit-requires-clause-place c =
    let a : Addr = get_or c.args.roots.now c.loop-root.root-index (record { 0 = 0 }) in
    let is_a : a ≡ get_or c.args.roots.now c.loop-root.root-index a = get_or_default c.args.roots.now c.loop-root.root-index (record { 0 = 0 }) a c.loop-root-test.true in
    let root = is_root c.args.from.now a (live_root (λ r. is_some (object_of (state_of c.args.from.now) r)) c.args.roots.now c.loop-root.root-index a c.requires.live.live c.loop-root-test.true is_a) in
    omega (arith, root.place, c.loop-root.invariant.0.found.each)

pub visit-requires-clause-room : goal.visit-requires-clause-room
visit-requires-clause-room c none =
    let a : Addr = get_or c.args.roots.now c.loop-root.root-index (record { 0 = 0 }) in
    let is_a : a ≡ get_or c.args.roots.now c.loop-root.root-index a = get_or_default c.args.roots.now c.loop-root.root-index (record { 0 = 0 }) a c.loop-root-test.true in
    let root = is_root c.args.from.now a (live_root (λ r. is_some (object_of (state_of c.args.from.now) r)) c.args.roots.now c.loop-root.root-index a c.requires.live.live c.loop-root-test.true is_a) in
    place_room c.args.from.now c.loop-root.self.order.items c.loop-root.self.forwards.items c.loop-root.self.order.spare (a.0 - 1)
    c.loop-root.invariant.0.found c.len.ensures.whole c.len.ensures.room (omega (arith, c.requires.order_room, c.loop-root.invariant.1)) root.place none

pub loop-root-preserved : goal.loop-root-preserved
loop-root-preserved c =
    let a : Addr = get_or c.args.roots.now c.loop-root.root-index (record { 0 = 0 }) in
    let is_a : a ≡ get_or c.args.roots.now c.loop-root.root-index a = get_or_default c.args.roots.now c.loop-root.root-index (record { 0 = 0 }) a c.loop-root-test.true in
    let root = is_root c.args.from.now a (live_root (λ r. is_some (object_of (state_of c.args.from.now) r)) c.args.roots.now c.loop-root.root-index a c.requires.live.live c.loop-root-test.true is_a) in (
      root_step c.args.from.now c.args.roots.now c.loop-root.root-index a c.loop-root.self.order.items c.loop-root.self.forwards.items c.visit.new.self.order.items c.visit.new.self.forwards.items
          c.requires.serials c.loop-root.invariant.0 c.loop-root-test.true is_a root c.visit.ensures.order c.visit.ensures.forwards,
      c.visit.ensures.order_room ∙ c.loop-root.invariant.1,
      c.visit.ensures.forwards_room ∙ c.loop-root.invariant.2,
    )

pub follow-requires-clause-live : goal.follow-requires-clause-live
follow-requires-clause-live c =
    let past : length c.args.roots.now ≤ c.loop-root.root-index = omega (arith, c.loop-root-test.false) in
    let order_is : serials_of c.args.from.now.objects c.loop-root.self.order.items ≡ unseen [] (root_serials (state_of c.args.from.now) c.args.roots.now) =
    c.loop-root.invariant.0.serials ∙ ap (λ (rs : List Addr). unseen [] (root_serials (state_of c.args.from.now) rs)) (take_all c.loop-root.root-index c.args.roots.now past) in
    subst (CanFollow c.args.layouts.now c.args.from.now.objects)
    (sym (ap (found_by c.args.layouts.now c.args.from.now) order_is ∙ found_is_reached c.args.layouts.now c.args.from.now c.args.roots.now c.requires.serials))
    (can_follow_all c.args.layouts.now c.args.from.now c.args.roots.now c.requires.serials c.requires.live)

pub returns-clause-serials : goal.returns-clause-serials
returns-clause-serials c =
    let past : length c.args.roots.now ≤ c.loop-root.root-index = omega (arith, c.loop-root-test.false) in
    let order_is : serials_of c.args.from.now.objects c.loop-root.self.order.items ≡ unseen [] (root_serials (state_of c.args.from.now) c.args.roots.now) =
    c.loop-root.invariant.0.serials ∙ ap (λ (rs : List Addr). unseen [] (root_serials (state_of c.args.from.now) rs)) (take_all c.loop-root.root-index c.args.roots.now past) in
    c.follow.ensures.serials ∙ ap (found_by c.args.layouts.now c.args.from.now) order_is
    ∙ found_is_reached c.args.layouts.now c.args.from.now c.args.roots.now c.requires.serials
