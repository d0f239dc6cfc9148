use Rattle.std.proofs.Common.{◌≡◌, ℕ, ◌+◌, ◌-◌, ◌<◌, ◌≤◌, List, [], ◌∷◌, ◌++◌, length, ap, subst, ◌∙◌, arith, rules}
use Rattle.std.specs.Prelude.{slice_get, IfSome, option_map, option_to_list, map}
use Rattle.heap_face.specs.Collection.{refers_at}
use Rattle.row_heap.specs.Forwards.{forwarded, copies_at}
use Rattle.heap_face.specs.Heap.{Stored, header_words}
use Rattle.row_heap.specs.Table.{Table, table_words, words_at}
use Rattle.row_heap.specs.RowsOf.{stored_as}
use Rattle.row_heap.specs.declared.rows.Row.{Row}
use Rattle.row_heap.proofs.RowLemmas.{has_room, zeros_added, copy_added, row_room, word_room, three_words, whole_of, words_of_shape}
use Rattle.row_heap.proofs.Forwarding.{length-forwarded, copies_is, contents_forward}
use Rattle.row_heap.proofs.rows.Rows.copy.Goals as goal

room : (used asked here half : ℕ) → asked ≡ here → used + asked ≤ half → used + here ≤ half
room used asked here half same within = omega arith

pub add_forwarded-requires-clause-room : goal.add_forwarded-requires-clause-room
add_forwarded-requires-clause-room c =
    let asked = words_of_shape c.args.from.now.objects c.args.place c.shape.result c.shape.ensures.shape in
    let whole = whole_of _ c.shape.result c.contents.result.now c.shape.ensures.shape c.contents.ensures c.shape.ensures.whole in
    word_room c.self.inside c.shape.result.words (length c.contents.result.now) c.self.invariant (omega (arith, whole))
    (has_room c.self.inside c.args.self.now c.shape.result.words c.self.invariant c.self.view_is (room _ _ _ _ asked c.requires.room))

pub add_forwarded-requires-clause-forwards : goal.add_forwarded-requires-clause-forwards
add_forwarded-requires-clause-forwards c =
    contents_forward c.args.layouts.now (length c.args.forwards.now) (slice_get c.args.from.now.objects c.args.place) c.shape.result c.contents.result.now c.shape.ensures.shape c.contents.ensures c.requires.forwards

pub add_forwarded-requires-clause-small : goal.add_forwarded-requires-clause-small
add_forwarded-requires-clause-small c =
    let whole = whole_of _ c.shape.result c.contents.result.now c.shape.ensures.shape c.contents.ensures c.shape.ensures.whole in
    search rules

pub add-requires : goal.add-requires
add-requires c =
    let asked = words_of_shape c.args.from.now.objects c.args.place c.shape.result c.shape.ensures.shape in
    let whole = whole_of _ c.shape.result c.contents.result.now c.shape.ensures.shape c.contents.ensures c.shape.ensures.whole in
    row_room c.self.inside c.shape.result.words c.self.invariant (omega (arith, three_words c.shape.result.kind, whole))
    (has_room c.self.inside c.args.self.now c.shape.result.words c.self.invariant c.self.view_is (room _ _ _ _ asked c.requires.room))

pub overflow_add-self : goal.overflow_add-self
overflow_add-self c =
    let asked = words_of_shape c.args.from.now.objects c.args.place c.shape.result c.shape.ensures.shape in
    let within = has_room c.self.inside c.args.self.now c.shape.result.words c.self.invariant c.self.view_is (room _ _ _ _ asked c.requires.room) in
    search rules

pub invariant_of-self : goal.invariant_of-self
invariant_of-self c =
    let whole = whole_of _ c.shape.result c.contents.result.now c.shape.ensures.shape c.contents.ensures c.shape.ensures.whole in
    let row : Row = record { serial = c.serial.result; shape = c.shape.result; lock = c.lock.result; start = c.len.result } in
    let words = forwarded c.args.forwards.now (refers_at c.args.layouts.now c.shape.result) 0 c.contents.result.now in
    let long : length words ≡ length c.contents.result.now = length-forwarded c.args.forwards.now (refers_at c.args.layouts.now c.shape.result) 0 c.contents.result.now in
    (copy_added c.self.inside c.args.self.now c.add.new.self c.add_forwarded.new.words row words c.args.from.now.objects c.args.place
    c.self.invariant c.self.view_is (omega (arith, whole, long)) c.shape.ensures.shape c.requires.room c.len.ensures
    c.add.ensures.items c.add.ensures.spare c.add_forwarded.ensures.items (omega (arith, c.add_forwarded.ensures.spare, long))).table _

pub returns-clause-objects : goal.returns-clause-objects
returns-clause-objects c =
    let whole = whole_of _ c.shape.result c.contents.result.now c.shape.ensures.shape c.contents.ensures c.shape.ensures.whole in
    let row : Row = record { serial = c.serial.result; shape = c.shape.result; lock = c.lock.result; start = c.len.result } in
    let words = forwarded c.args.forwards.now (refers_at c.args.layouts.now c.shape.result) 0 c.contents.result.now in
    let long : length words ≡ length c.contents.result.now = length-forwarded c.args.forwards.now (refers_at c.args.layouts.now c.shape.result) 0 c.contents.result.now in
    (copy_added c.self.inside c.args.self.now c.add.new.self c.add_forwarded.new.words row words c.args.from.now.objects c.args.place
    c.self.invariant c.self.view_is (omega (arith, whole, long)) c.shape.ensures.shape c.requires.room c.len.ensures
    c.add.ensures.items c.add.ensures.spare c.add_forwarded.ensures.items (omega (arith, c.add_forwarded.ensures.spare, long))).objects
    ∙ ap (λ (t : Table). t.objects ++ stored_as row words ∷ []) c.self.view_is
    ∙ ap (λ (o : List (Stored ℕ)). c.args.self.now.objects ++ o)
    (copies_is c.args.layouts.now c.args.from.now.objects c.args.forwards.now c.args.place _ _ _ _ c.serial.ensures c.shape.ensures.shape c.lock.ensures c.contents.ensures)
