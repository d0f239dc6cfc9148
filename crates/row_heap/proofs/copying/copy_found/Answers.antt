use Rattle.std.proofs.Common.{◌≡◌, ℕ, ◌<◌, ◌≤◌, ◌+◌, List, length, take, get_or, sym, ap, subst, ◌∙◌, arith}
use Rattle.std.specs.Prelude.{IfSome, slice_get}
use Rattle.std.specs.List.{sum_by}
use Rattle.std.proofs.lemmas.List.Sums.{sum_by_more_le}
use Rattle.std.proofs.lemmas.Option.{slice_get-get_or}
use Rattle.row_heap.specs.Table.{table_words, words_at}
use Rattle.row_heap.specs.Forwards.{HasForwards}
use Rattle.row_heap.proofs.CopyLemmas.{copies_words}
use Rattle.row_heap.proofs.copying.copy_found.Goals as goal

pub copy-requires-clause-room : goal.copy-requires-clause-room
copy-requires-clause-room c =
    let objects = c.args.from.now.objects in
    let order = c.args.search.now.order.items in
    let within : c.loop-place.place-index < length order = omega (arith, c.loop-place-test.true, ap length c.as_slice-place-items.ensures) in
    let place : get_or c.as_slice-place-items.result.now c.loop-place.place-index 0 ≡ get_or order c.loop-place.place-index 0 = ap (λ (list : List ℕ). get_or list c.loop-place.place-index 0) c.as_slice-place-items.ensures in
    let words : table_words c.loop-place.to.objects ≡ sum_by (words_at objects) (take c.loop-place.place-index order) = ap table_words c.loop-place.invariant.0 ∙ copies_words c.args.layouts.now objects c.args.search.now.forwards.items (take c.loop-place.place-index order) in
    omega (arith, sum_by_more_le (words_at objects) order c.loop-place.place-index 0 within, words, ap (words_at objects) place, c.requires.found.words, c.requires.words, c.requires.half, c.loop-place.invariant.1)

pub copy-requires-clause-forwards : goal.copy-requires-clause-forwards
copy-requires-clause-forwards c =
    let objects = c.args.from.now.objects in
    let order = c.args.search.now.order.items in
    let within : c.loop-place.place-index < length order = omega (arith, c.loop-place-test.true, ap length c.as_slice-place-items.ensures) in
    let place : get_or order c.loop-place.place-index 0 ≡ get_or c.as_slice-place-items.result.now c.loop-place.place-index 0 = ap (λ (list : List ℕ). get_or list c.loop-place.place-index 0) (sym c.as_slice-place-items.ensures) in
    let count : length objects ≡ length c.as_slice.result.now = sym (ap length c.as_slice.ensures ∙ c.requires.found.each) in
    let here = c.requires.forwards c.loop-place.place-index (get_or order c.loop-place.place-index 0) (slice_get-get_or order c.loop-place.place-index 0 within) in
    subst (λ (n : ℕ). IfSome (slice_get objects (get_or c.as_slice-place-items.result.now c.loop-place.place-index 0)) (HasForwards c.args.layouts.now n)) count
    (subst (λ (p : ℕ). IfSome (slice_get objects p) (HasForwards c.args.layouts.now (length objects))) place here)
