use Rattle.std.proofs.Common.{set}
use Rattle.std.proofs.lemmas.List.{length-set}
use Rattle.row_heap.specs.RowsOf.{StartAt, contents_words, all_words}
use Rattle.std.proofs.Common.{◌≡◌, ℕ, ◌+◌, ◌-◌, ◌<◌, ◌≤◌, List, [], ◌∷◌, ◌++◌, length, take, drop, sym, ap, subst, ◌∙◌, arith, rules}
use Rattle.std.proofs.lemmas.List.{length-replicate}
use Rattle.std.specs.Prelude.{Option, Some, option_map, slice_get, IfSome, replicate}
use Rattle.heap_face.specs.Heap.{Stored, header_words}
use Rattle.row_heap.specs.Table.{Table, table_words, changed_row, with_lock, with_word, IsWhole}
use Rattle.row_heap.specs.RowsOf.{objects_of, stored_as}
use Rattle.row_heap.specs.declared.rows.Row.{Row}
use Rattle.row_heap.proofs.RowLemmas.{within_rows, has_row, at_within, put_at, lock_at, same_rows, used_is, is_added, row_room, word_room, three_words, same_object, whole_of, words_of_shape, locked}
use Rattle.row_heap.proofs.rows.Rows.set_lock.Goals as goal

pub get-requires : goal.get-requires
get-requires c = within_rows c.self.inside c.args.self.now c.args.place c.self.view_is c.requires

pub set-requires : goal.set-requires
set-requires c = within_rows c.self.inside c.args.self.now c.args.place c.self.view_is c.requires

pub invariant_of-self : goal.invariant_of-self
invariant_of-self c =
    let same = same_rows 0 c.self.inside.rows.items c.args.place c.get.result.now c.args.lock c.get.ensures c.self.invariant.starts in
    let changed = set c.self.inside.rows.items c.args.place (locked c.args.lock c.get.result.now) in
    record {
      starts = subst (StartAt 0) (sym c.set.ensures.items) same.starts;
      contents = c.self.invariant.contents ∙ sym (ap contents_words c.set.ensures.items ∙ same.contents);
      used = c.self.invariant.used ∙ sym (ap all_words c.set.ensures.items ∙ same.words);
      within = c.self.invariant.within;
      rows = omega (arith, c.self.invariant.rows, ap length c.set.ensures.items, length-set c.self.inside.rows.items c.args.place (locked c.args.lock c.get.result.now), c.set.ensures.spare);
      words = c.self.invariant.words;
    }

pub returns-clause-objects : goal.returns-clause-objects
returns-clause-objects c =
    ap (λ (rows : List Row). objects_of rows c.self.inside.words.items) c.set.ensures.items
    ∙ lock_at c.self.inside.rows.items c.self.inside.words.items c.args.place c.get.result.now c.args.lock c.get.ensures
    ∙ ap (λ (t : Table). changed_row (with_lock c.args.lock) t.objects c.args.place) c.self.view_is
