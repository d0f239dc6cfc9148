use Rattle.std.proofs.Common.{◌≡◌, ℕ, ◌+◌, ◌-◌, ◌<◌, ◌≤◌, List, length, get_or, refl, sym, ap, subst, ◌∙◌, arith}
use Rattle.std.specs.Prelude.{option_map, slice_get}
use Rattle.std.proofs.lemmas.Option.{slice_get-get_or}
use Rattle.heap_face.specs.declared.address.Addr.{Addr}
use Rattle.heap_face.specs.Heap.{Stored, HeapState, object_of, contents_of, used_words, with_lock, with_word, with_new}
use Rattle.row_heap.specs.Table.{table_words, with_lock as locked, with_word as rewritten}
use Rattle.row_heap.proofs.HeapLemmas.{is_at, has_word, contents_are, word_within, state_changed, tables_changed, state_with_new, new_is_fresh, serials_with_new, words_with_new, used_in, is_sound}
use Rattle.row_heap.proofs.heap.RowHeapObjectHeap.used.Goals as goal

pub returns-clause-words : goal.returns-clause-words
returns-clause-words c = c.used.ensures.words ∙ sym (used_in c.self.inside.present c.args.self.now c.self.view_is)

pub returns-clause-sound : goal.returns-clause-sound
returns-clause-sound c =
    is_sound c.self.inside.present c.args.self.now c.used.result c.self.view_is c.self.invariant.serials c.used.ensures.whole c.used.ensures.words c.used.ensures.room c.used.type_inv
