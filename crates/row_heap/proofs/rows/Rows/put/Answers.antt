use Rattle.std.specs.Prelude.{slice_set}
use Rattle.std.proofs.Common.{◌≡◌, ℕ, ◌+◌, ◌-◌, ◌<◌, ◌≤◌, List, [], ◌∷◌, ◌++◌, length, take, drop, sym, ap, subst, ◌∙◌, arith, rules}
use Rattle.std.proofs.lemmas.List.{length-replicate}
use Rattle.std.specs.Prelude.{Option, Some, option_map, slice_get, IfSome, replicate}
use Rattle.heap_face.specs.Heap.{Stored, header_words}
use Rattle.row_heap.specs.Table.{Table, table_words, changed_row, with_lock, with_word, IsWhole}
use Rattle.row_heap.specs.RowsOf.{objects_of, stored_as}
use Rattle.row_heap.specs.declared.rows.Row.{Row}
use Rattle.row_heap.proofs.RowLemmas.{within_rows, has_row, at_within, put_at, lock_at, same_rows, used_is, three_a_row, is_added, row_room, word_room, three_words, same_object, whole_of, words_of_shape, locked}
use Rattle.row_heap.proofs.rows.Rows.put.Goals as goal

pub get-requires : goal.get-requires
get-requires c = within_rows c.self.inside c.args.self.now c.args.place c.self.view_is c.requires.place

pub overflow_add-start : goal.overflow_add-start
overflow_add-start c =
    let row = has_row c.self.inside c.args.self.now c.args.place c.get.result.now c.self.invariant c.self.view_is c.get.ensures in
    let to = row.to in
    let at = at_within c.args.self.now.objects c.args.place c.args.at c.get.result.now (drop c.get.result.now.start c.self.inside.words.items) row.object c.requires.at in
    let words = c.self.invariant.contents in
    let used = c.self.invariant.used in
    let three = three_a_row 0 c.self.inside.rows.items c.self.invariant.starts in
    search rules

pub set-requires : goal.set-requires
set-requires c =
    let row = has_row c.self.inside c.args.self.now c.args.place c.get.result.now c.self.invariant c.self.view_is c.get.ensures in
    omega (arith, row.to, at_within c.args.self.now.objects c.args.place c.args.at c.get.result.now (drop c.get.result.now.start c.self.inside.words.items) row.object c.requires.at)

pub returns-clause-objects : goal.returns-clause-objects
returns-clause-objects c =
    let row = has_row c.self.inside c.args.self.now c.args.place c.get.result.now c.self.invariant c.self.view_is c.get.ensures in
    let within = at_within c.args.self.now.objects c.args.place c.args.at c.get.result.now (drop c.get.result.now.start c.self.inside.words.items) row.object c.requires.at in
    let start : c.get.result.now.start + c.args.at ≡ c.get.result.now.start - 0 + c.args.at = omega arith in
    ap (objects_of c.self.inside.rows.items) c.set.ensures.items
    ∙ ap (λ (n : ℕ). objects_of c.self.inside.rows.items (slice_set c.self.inside.words.items n c.args.word)) start
    ∙ put_at 0 c.self.inside.rows.items c.self.inside.words.items c.args.place c.get.result.now c.args.at c.args.word c.self.invariant.starts c.get.ensures within
    ∙ ap (λ (t : Table). changed_row (with_word c.args.at c.args.word) t.objects c.args.place) c.self.view_is
