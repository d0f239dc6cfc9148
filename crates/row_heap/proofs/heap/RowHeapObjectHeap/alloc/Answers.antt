use Rattle.std.proofs.Common.{[], ◌∷◌, length-append}
use Rattle.heap_face.specs.declared.heap.Full.{Full}
use Rattle.heap_face.specs.Heap.{zero_object}
use Rattle.std.proofs.Common.{◌≡◌, ℕ, ◌+◌, ◌-◌, ◌<◌, ◌≤◌, List, length, get_or, refl, sym, ap, subst, ◌∙◌, arith}
use Rattle.std.specs.Prelude.{option_map, slice_get}
use Rattle.std.proofs.lemmas.Option.{slice_get-get_or}
use Rattle.heap_face.specs.declared.address.Addr.{Addr}
use Rattle.heap_face.specs.Heap.{Stored, HeapState, object_of, contents_of, used_words, with_lock, with_word, with_new}
use Rattle.row_heap.specs.Table.{table_words, with_lock as locked, with_word as rewritten}
use Rattle.row_heap.proofs.HeapLemmas.{is_at, has_word, contents_are, word_within, state_changed, tables_changed, state_with_new, new_is_fresh, serials_with_new, words_with_new, used_in, is_sound}
use Rattle.row_heap.proofs.heap.RowHeapObjectHeap.alloc.Goals as goal

pub returns-then-shape-half-clause-room : goal.returns-then-shape-half-clause-room
returns-then-shape-half-clause-room c =
    let half : c.self.inside.present.half ≡ c.args.self.now.half = ap (λ (s : HeapState). s.half) c.self.view_is in (
      λ h. omega (arith, c.if-shape-half.true, c.half.ensures, half, c.used-used.ensures, used_in c.self.inside.present c.args.self.now c.self.view_is),
      λ h. refl,
    )

pub returns-then-shape-half-clause-full : goal.returns-then-shape-half-clause-full
returns-then-shape-half-clause-full c =
    let of : ℕ → Full = λ n. record { used = n; asked = c.args.shape.words } in
    ap of (c.used-used.ensures.words ∙ sym (used_in c.self.inside.present c.args.self.now c.self.view_is))

pub invariant_of-self : goal.invariant_of-self
invariant_of-self c =
    let are = c.self.invariant in
    record {
      serials = serials_with_new c.self.inside.present c.add.new.self c.args.shape are.serials c.add.ensures.objects c.add.ensures.free;
      room = c.len.ensures.room;
      half = are.half ∙ sym c.add.ensures.half;
      order_room = omega (arith, are.order_room, c.add.ensures.half);
      forwards_room = omega (arith, are.forwards_room, c.add.ensures.half);
    }

pub returns-clause-made : goal.returns-clause-made
returns-clause-made c =
    state_with_new c.self.inside.present c.add.new.self c.args.shape c.len.result c.add.ensures.objects c.add.ensures.half c.add.ensures.free c.len.ensures.length
    ∙ ap (with_new (record { 0 = c.len.result }) c.args.shape) c.self.view_is

pub returns-clause-fresh : goal.returns-clause-fresh
returns-clause-fresh c = (
  omega (arith, c.len.ensures.length, ap length c.add.ensures.objects, length-append c.self.inside.present.objects (zero_object c.self.inside.present.free c.args.shape ∷ [])),
  ap (λ (s : HeapState). object_of s (record { 0 = c.len.result })) (sym c.self.view_is)
      ∙ new_is_fresh c.self.inside.present c.add.new.self c.args.shape c.len.result c.add.ensures.objects c.len.ensures.length,
)

pub returns-clause-room : goal.returns-clause-room
returns-clause-room c =
    let half : c.self.inside.present.half ≡ c.args.self.now.half = ap (λ (s : HeapState). s.half) c.self.view_is in (
      λ h. absurd cc,
      λ h. absurd (omega (arith, h, c.if-shape-half.false, c.half.ensures, half, c.used-used.ensures, used_in c.self.inside.present c.args.self.now c.self.view_is)),
    )
