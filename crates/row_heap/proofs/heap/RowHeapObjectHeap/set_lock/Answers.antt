use Rattle.std.proofs.Common.{◌≡◌, ℕ, ◌+◌, ◌-◌, ◌<◌, ◌≤◌, List, length, get_or, refl, sym, ap, subst, ◌∙◌, arith}
use Rattle.std.specs.Prelude.{option_map, slice_get}
use Rattle.std.proofs.lemmas.Option.{slice_get-get_or}
use Rattle.heap_face.specs.declared.address.Addr.{Addr}
use Rattle.heap_face.specs.Heap.{Stored, HeapState, object_of, contents_of, used_words, with_lock, with_word, with_new}
use Rattle.row_heap.specs.Table.{table_words, with_lock as locked, with_word as rewritten}
use Rattle.row_heap.proofs.HeapLemmas.{is_at, has_word, contents_are, word_within, state_changed, tables_changed, state_with_new, new_is_fresh, serials_with_new, words_with_new, used_in, is_sound}
use Rattle.row_heap.proofs.heap.RowHeapObjectHeap.set_lock.Goals as goal

pub overflow_sub-a : goal.overflow_sub-a
overflow_sub-a c = let at = is_at c.self.inside.present c.args.self.now c.args.a c.self.view_is c.requires in omega (arith, at.some)

pub set_lock-requires : goal.set_lock-requires
set_lock-requires c = (is_at c.self.inside.present c.args.self.now c.args.a c.self.view_is c.requires).place

pub invariant_of-self : goal.invariant_of-self
invariant_of-self c =
    tables_changed c.self.inside c.set_lock.new.self (c.args.a.0 - 1) (locked c.args.w) c.self.invariant (λ o. refl) (λ o. refl)
    c.set_lock.ensures.objects c.set_lock.ensures.half c.set_lock.ensures.free

pub returns : goal.returns
returns c =
    state_changed c.self.inside.present c.set_lock.new.self c.args.a (locked c.args.w) (is_at c.self.inside.present c.args.self.now c.args.a c.self.view_is c.requires).some
    c.set_lock.ensures.objects c.set_lock.ensures.half c.set_lock.ensures.free
    ∙ ap (with_lock c.args.a c.args.w) c.self.view_is
