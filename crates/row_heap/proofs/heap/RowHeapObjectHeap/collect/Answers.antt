use Rattle.std.specs.Prelude.{map}
use Rattle.heap_face.specs.Heap.{serial_of}
use Rattle.heap_face.specs.Collection.{collected}
use Rattle.row_heap.specs.Table.{Table}
use Rattle.row_heap.specs.Placing.{state_of}
use Rattle.row_heap.specs.Forwards.{copies, forwarded_root}
use Rattle.row_heap.proofs.Collecting.{searched, is_forwarded, root_places, serials_kept, copies_room, collected_is, roots_are}
use Rattle.std.proofs.Common.{◌≡◌, ℕ, ◌+◌, ◌-◌, ◌<◌, ◌≤◌, List, length, get_or, refl, sym, ap, subst, ◌∙◌, arith}
use Rattle.std.specs.Prelude.{option_map, slice_get}
use Rattle.std.proofs.lemmas.Option.{slice_get-get_or}
use Rattle.heap_face.specs.declared.address.Addr.{Addr}
use Rattle.heap_face.specs.Heap.{Stored, HeapState, object_of, contents_of, used_words, with_lock, with_word, with_new}
use Rattle.row_heap.specs.Table.{table_words, with_lock as locked, with_word as rewritten}
use Rattle.row_heap.proofs.HeapLemmas.{is_at, has_word, contents_are, word_within, state_changed, tables_changed, state_with_new, new_is_fresh, serials_with_new, words_with_new, used_in, is_sound}
use Rattle.row_heap.proofs.heap.RowHeapObjectHeap.collect.Goals as goal

pub copy_found-requires-clause-forwards : goal.copy_found-requires-clause-forwards
copy_found-requires-clause-forwards c = is_forwarded c.args.layouts.now c.self.inside.present c.args.roots.now.addrs.items c.run.new.self.order.items c.run.new.self.forwards.items (searched c.args.layouts.now c.self.inside.present c.args.self.now c.args.roots.now.addrs.items c.as_slice.result.now c.run.new.self.order.items c.run.new.self.forwards.items c.self.invariant.serials c.run.ensures.found c.run.ensures.serials c.as_slice.ensures c.self.view_is c.requires.followed)

pub forward_roots-requires : goal.forward_roots-requires
forward_roots-requires c =
    let is = searched c.args.layouts.now c.self.inside.present c.args.self.now c.args.roots.now.addrs.items c.as_slice.result.now c.run.new.self.order.items c.run.new.self.forwards.items c.self.invariant.serials c.run.ensures.found c.run.ensures.serials c.as_slice.ensures c.self.view_is c.requires.followed in
    root_places c.self.inside.present (length c.as_slice-2.result.now) c.args.roots.now.addrs.items (ap length c.as_slice-2.ensures ∙ c.run.ensures.found.each) is.can.live

pub invariant_of-self : goal.invariant_of-self
invariant_of-self c =
    let are = c.self.invariant in
    let is = searched c.args.layouts.now c.self.inside.present c.args.self.now c.args.roots.now.addrs.items c.as_slice.result.now c.run.new.self.order.items c.run.new.self.forwards.items c.self.invariant.serials c.run.ensures.found c.run.ensures.serials c.as_slice.ensures c.self.view_is c.requires.followed in
    let now_is : c.swap.new.x.objects ≡ copies c.args.layouts.now c.self.inside.present.objects c.run.new.self.forwards.items c.run.new.self.order.items = ap (λ (t : Table). t.objects) c.swap.ensures.x_after ∙ c.copy_found.ensures.objects in
    let free : c.swap.new.x.free ≡ c.self.inside.present.free = ap (λ (t : Table). t.free) c.swap.ensures.x_after ∙ c.copy_found.ensures.free ∙ ap (λ (t : Table). t.free) c.restart.ensures ∙ c.free.ensures in
    let half : c.swap.new.x.half ≡ c.self.inside.present.half = ap (λ (t : Table). t.half) c.swap.ensures.x_after ∙ c.copy_found.ensures.half ∙ ap (λ (t : Table). t.half) c.restart.ensures ∙ are.half in
    record {
      serials = serials_kept c.args.layouts.now c.self.inside.present c.swap.new.x c.args.roots.now.addrs.items c.run.new.self.order.items c.run.new.self.forwards.items is now_is free;
      room = omega (arith, copies_room c.args.layouts.now c.self.inside.present c.swap.new.x c.run.new.self.order.items c.run.new.self.forwards.items c.run.ensures.found now_is, are.room, half);
      half = ap (λ (t : Table). t.half) c.swap.ensures.y_after ∙ sym half;
      order_room = omega (arith, are.order_room, half, c.run.ensures.order_kept, c.restart-2.ensures.order_room);
      forwards_room = omega (arith, are.forwards_room, half, c.run.ensures.forwards_kept, c.restart-2.ensures.forwards_room);
    }

pub returns-clause-kept : goal.returns-clause-kept
returns-clause-kept c =
    let now_is : c.swap.new.x.objects ≡ copies c.args.layouts.now c.self.inside.present.objects c.run.new.self.forwards.items c.run.new.self.order.items = ap (λ (t : Table). t.objects) c.swap.ensures.x_after ∙ c.copy_found.ensures.objects in
    collected_is c.args.layouts.now c.self.inside.present c.swap.new.x c.args.roots.now.addrs.items c.run.new.self.order.items c.run.new.self.forwards.items (searched c.args.layouts.now c.self.inside.present c.args.self.now c.args.roots.now.addrs.items c.as_slice.result.now c.run.new.self.order.items c.run.new.self.forwards.items c.self.invariant.serials c.run.ensures.found c.run.ensures.serials c.as_slice.ensures c.self.view_is c.requires.followed) now_is
    ∙ ap (λ (s : HeapState). collected c.args.layouts.now s c.args.roots.now.addrs.items) c.self.view_is

pub returns-clause-roots : goal.returns-clause-roots
returns-clause-roots c =
    let now_is : c.swap.new.x.objects ≡ copies c.args.layouts.now c.self.inside.present.objects c.run.new.self.forwards.items c.run.new.self.order.items = ap (λ (t : Table). t.objects) c.swap.ensures.x_after ∙ c.copy_found.ensures.objects in
    ap (map (serial_of (state_of c.swap.new.x))) (c.forward_roots.ensures.roots ∙ ap (λ (forwards : List ℕ). map (forwarded_root forwards) c.args.roots.now.addrs.items) c.as_slice-2.ensures)
    ∙ roots_are c.args.layouts.now c.self.inside.present c.swap.new.x c.args.roots.now.addrs.items c.run.new.self.order.items c.run.new.self.forwards.items (searched c.args.layouts.now c.self.inside.present c.args.self.now c.args.roots.now.addrs.items c.as_slice.result.now c.run.new.self.order.items c.run.new.self.forwards.items c.self.invariant.serials c.run.ensures.found c.run.ensures.serials c.as_slice.ensures c.self.view_is c.requires.followed) now_is
    ∙ ap (λ (s : HeapState). map (serial_of s) c.args.roots.now.addrs.items) c.self.view_is
