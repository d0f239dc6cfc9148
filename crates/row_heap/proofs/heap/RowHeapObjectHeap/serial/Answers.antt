use Rattle.std.proofs.Common.{◌≡◌, ℕ, ◌+◌, ◌-◌, ◌<◌, ◌≤◌, List, length, get_or, refl, sym, ap, subst, ◌∙◌, arith}
use Rattle.std.specs.Prelude.{option_map, slice_get}
use Rattle.std.proofs.lemmas.Option.{slice_get-get_or}
use Rattle.heap_face.specs.declared.address.Addr.{Addr}
use Rattle.heap_face.specs.Heap.{Stored, HeapState, object_of, contents_of, used_words, with_lock, with_word, with_new}
use Rattle.row_heap.specs.Table.{table_words, with_lock as locked, with_word as rewritten}
use Rattle.row_heap.proofs.HeapLemmas.{is_at, has_word, contents_are, word_within, state_changed, tables_changed, state_with_new, new_is_fresh, serials_with_new, words_with_new, used_in, is_sound}
use Rattle.row_heap.proofs.heap.RowHeapObjectHeap.serial.Goals as goal

pub overflow_sub-a : goal.overflow_sub-a
overflow_sub-a c = let at = is_at c.self.inside.present c.args.self.now c.args.a c.self.view_is c.requires in omega (arith, at.some)

pub serial-requires : goal.serial-requires
serial-requires c = (is_at c.self.inside.present c.args.self.now c.args.a c.self.view_is c.requires).place

pub returns : goal.returns
returns c = ap (option_map (λ (object : Stored ℕ). object.serial)) (sym (is_at c.self.inside.present c.args.self.now c.args.a c.self.view_is c.requires).object) ∙ c.serial.ensures
