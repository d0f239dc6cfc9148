use Rattle.std.proofs.Common.{◌≡◌, ℕ, ◌+◌, ◌-◌, ◌<◌, ◌≤◌, List, [], ◌++◌, length, get_or, sym, ap, subst, refl, ◌∙◌, arith, rules}
use Rattle.std.specs.Prelude.{slice_get, flat_map}
use Rattle.std.proofs.lemmas.List.{take_all}
use Rattle.machine_model.specs.Reach.{unseen}
use Rattle.jv_types.specs.Sequence.{Sequence}
use Rattle.heap_face.specs.Collection.{content_of, contents_from, refers_at, referred}
use Rattle.row_heap.specs.declared.search.Search.{Search}
use Rattle.row_heap.specs.Placing.{placed_from}
use Rattle.row_heap.specs.Found.{serials_of, capacity}
use Rattle.row_heap.proofs.Reading.{HasVisited, none_visited, visited_none, visited_step, ref_at, none_at_zero, none_at_bits, has_contents, place_room}
use Rattle.row_heap.proofs.search.Search.visit_object.Goals as goal
use Rattle.row_heap.proofs.search.Search.visit_object.Goals.{then-word-ne0+then-refers_at, else-word-ne0, else-word-ne0-via-then-word-ne0+else-refers_at, else-word-ne0-via-else-word-ne0}

pub loop-at-init : goal.loop-at-init
loop-at-init c =
    (none_visited c.args.from.now.objects (refers_at c.args.layouts.now c.shape-shape.result) c.contents-contents.result.now c.args.self.now.order.items c.args.self.now.forwards.items c.requires.found, refl, refl)

pub overflow_cast-word : goal.overflow_cast-word
overflow_cast-word c =
    let has = has_contents c.args.layouts.now c.args.from.now.objects _ c.shape-shape.result c.contents-contents.result.now c.shape-shape.ensures.shape c.contents-contents.ensures c.requires.live in
    let to = ref_at c.args.from.now.objects (refers_at c.args.layouts.now c.shape-shape.result) c.contents-contents.result.now c.loop-at.at has.live c.loop-at-test.true (sym c.refers_at.ensures ∙ c.if-refers_at.true) c.if-word-ne0.true in
    let within = to.place in
    let small = c.requires.small in
    search rules

pub visit-requires-clause-place : goal.visit-requires-clause-place
visit-requires-clause-place c =
    let has = has_contents c.args.layouts.now c.args.from.now.objects _ c.shape-shape.result c.contents-contents.result.now c.shape-shape.ensures.shape c.contents-contents.ensures c.requires.live in
    let to = ref_at c.args.from.now.objects (refers_at c.args.layouts.now c.shape-shape.result) c.contents-contents.result.now c.loop-at.at has.live c.loop-at-test.true (sym c.refers_at.ensures ∙ c.if-refers_at.true) c.if-word-ne0.true in
    omega (arith, to.place, c.loop-at.invariant.0.found.each)

pub visit-requires-clause-room : goal.visit-requires-clause-room
visit-requires-clause-room c none =
    let has = has_contents c.args.layouts.now c.args.from.now.objects _ c.shape-shape.result c.contents-contents.result.now c.shape-shape.ensures.shape c.contents-contents.ensures c.requires.live in
    let to = ref_at c.args.from.now.objects (refers_at c.args.layouts.now c.shape-shape.result) c.contents-contents.result.now c.loop-at.at has.live c.loop-at-test.true (sym c.refers_at.ensures ∙ c.if-refers_at.true) c.if-word-ne0.true in
    place_room c.args.from.now c.loop-at.self.order.items c.loop-at.self.forwards.items c.loop-at.self.order.spare _
    c.loop-at.invariant.0.found c.requires.whole c.requires.words (omega (arith, c.requires.room, c.loop-at.invariant.1)) to.place none

pub loop-at-preserved : goal.loop-at-preserved
loop-at-preserved c = elim c.if-word-ne0.branch [
  | then-word-ne0+then-refers_at w ↦
      let has = has_contents c.args.layouts.now c.args.from.now.objects _ c.shape-shape.result c.contents-contents.result.now c.shape-shape.ensures.shape c.contents-contents.ensures c.requires.live in
      let to = ref_at c.args.from.now.objects (refers_at c.args.layouts.now c.shape-shape.result) c.contents-contents.result.now c.loop-at.at has.live c.loop-at-test.true (sym w.refers_at.ensures ∙ w.if-refers_at.true) w.if-word-ne0.true in
      let order = ap (λ (s : Search). s.order) w.self-is in
      let forwards = ap (λ (s : Search). s.forwards) w.self-is in (
        visited_step c.args.from.now.objects (refers_at c.args.layouts.now c.shape-shape.result) c.contents-contents.result.now c.loop-at.at _ _ _ _ _ c.requires.serials.distinct c.loop-at.invariant.0
            c.loop-at-test.true to (sym w.refers_at.ensures ∙ w.if-refers_at.true) (ap (λ (s : Sequence ℕ). s.items) order ∙ w.visit.ensures.order) (ap (λ (s : Sequence ℕ). s.items) forwards ∙ w.visit.ensures.forwards),
        ap capacity order ∙ w.visit.ensures.order_room ∙ c.loop-at.invariant.1,
        ap capacity forwards ∙ w.visit.ensures.forwards_room ∙ c.loop-at.invariant.2,
      )
  | else-word-ne0 w ↦
      let same = w.self-is in
      let none : referred (content_of (placed_from 1 c.args.from.now.objects) (refers_at c.args.layouts.now c.shape-shape.result c.loop-at.at) (get_or c.contents-contents.result.now c.loop-at.at 0)) ≡ [] = elim w.else-word-ne0.branch [
        | else-word-ne0-via-then-word-ne0+else-refers_at v ↦ none_at_bits (placed_from 1 c.args.from.now.objects) _ (get_or c.contents-contents.result.now c.loop-at.at 0) (sym v.refers_at.ensures ∙ v.if-refers_at.false)
        | else-word-ne0-via-else-word-ne0 v ↦ none_at_zero (placed_from 1 c.args.from.now.objects) _ (get_or c.contents-contents.result.now c.loop-at.at 0) v.if-word-ne0.false
      ] in
      let here = visited_none c.args.from.now.objects (refers_at c.args.layouts.now c.shape-shape.result) c.contents-contents.result.now c.loop-at.at c.args.self.now.order.items c.loop-at.self.order.items c.loop-at.self.forwards.items c.loop-at.invariant.0 c.loop-at-test.true none in
      subst (λ (s : Search). HasVisited c.args.from.now.objects (refers_at c.args.layouts.now c.shape-shape.result) c.contents-contents.result.now (c.loop-at.at + 1) c.args.self.now.order.items s.order.items s.forwards.items × (capacity s.order ≡ capacity c.args.self.now.order) × (capacity s.forwards ≡ capacity c.args.self.now.forwards))
      (sym same) (here, c.loop-at.invariant.1, c.loop-at.invariant.2)
]

pub returns-clause-serials : goal.returns-clause-serials
returns-clause-serials c =
    let has = has_contents c.args.layouts.now c.args.from.now.objects _ c.shape-shape.result c.contents-contents.result.now c.shape-shape.ensures.shape c.contents-contents.ensures c.requires.live in
    let seen = serials_of c.args.from.now.objects c.args.self.now.order.items in
    let past : length c.contents-contents.result.now ≤ c.loop-at.at = omega (arith, c.loop-at-test.false) in
    c.loop-at.invariant.0.serials
    ∙ ap (λ (ws : List ℕ). seen ++ unseen seen (flat_map referred (contents_from (placed_from 1 c.args.from.now.objects) (refers_at c.args.layouts.now c.shape-shape.result) 0 ws))) (take_all c.loop-at.at c.contents-contents.result.now past)
    ∙ ap (λ (list : List ℕ). seen ++ unseen seen list) has.referred_is
