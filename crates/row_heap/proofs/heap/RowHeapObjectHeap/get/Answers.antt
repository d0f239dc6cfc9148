use Rattle.std.proofs.Common.{◌≡◌, ℕ, ◌+◌, ◌-◌, ◌<◌, ◌≤◌, List, length, get_or, refl, sym, ap, subst, ◌∙◌, arith}
use Rattle.std.specs.Prelude.{option_map, slice_get}
use Rattle.std.proofs.lemmas.Option.{slice_get-get_or}
use Rattle.heap_face.specs.declared.address.Addr.{Addr}
use Rattle.heap_face.specs.Heap.{Stored, HeapState, object_of, contents_of, used_words, with_lock, with_word, with_new}
use Rattle.row_heap.specs.Table.{table_words, with_lock as locked, with_word as rewritten}
use Rattle.row_heap.proofs.HeapLemmas.{is_at, has_word, contents_are, word_within, state_changed, tables_changed, state_with_new, new_is_fresh, serials_with_new, words_with_new, used_in, is_sound}
use Rattle.row_heap.proofs.heap.RowHeapObjectHeap.get.Goals as goal

pub overflow_sub-a : goal.overflow_sub-a
overflow_sub-a c = let at = has_word c.self.inside.present c.args.self.now c.args.a c.args.at c.self.view_is c.requires in omega (arith, at.some)

pub contents-requires : goal.contents-requires
contents-requires c = (has_word c.self.inside.present c.args.self.now c.args.a c.args.at c.self.view_is c.requires).place

pub bounds-contents-at : goal.bounds-contents-at
bounds-contents-at c =
    let same = contents_are c.self.inside.present c.args.self.now c.args.a c.contents.result.now (has_word c.self.inside.present c.args.self.now c.args.a c.args.at c.self.view_is c.requires) c.contents.ensures in
    subst (λ (list : List ℕ). c.args.at < length list) same c.requires

pub returns : goal.returns
returns c =
    let same = contents_are c.self.inside.present c.args.self.now c.args.a c.contents.result.now (has_word c.self.inside.present c.args.self.now c.args.a c.args.at c.self.view_is c.requires) c.contents.ensures in
    ap (λ (list : List ℕ). slice_get list c.args.at) same
    ∙ slice_get-get_or c.contents.result.now c.args.at 0 (subst (λ (list : List ℕ). c.args.at < length list) same c.requires)
