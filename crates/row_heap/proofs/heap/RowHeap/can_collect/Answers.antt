use Rattle.std.proofs.Common.{◌≤◌, length, sym, ap, arith}
use Rattle.heap_face.specs.Heap.{HeapState}
use Rattle.heap_face.specs.declared.address.Addr.{Addr}
use Rattle.row_heap.proofs.Checking.{can_collect_is}
use Rattle.row_heap.proofs.heap.RowHeap.can_collect.Goals as goal

pub returns-clause-followed : goal.returns-clause-followed
returns-clause-followed c follows =
    let past : length c.args.roots.now.addrs.items ≤ c.loop-root.root-index = omega (arith, c.loop-root-test.false, ap length c.as_slice-root-items.ensures) in
    can_collect_is c.args.layouts.now c.self.inside.present c.args.self.now c.args.roots.now.addrs.items c.loop-root.root-index c.self.view_is
    (c.each_follows.ensures follows) c.loop-root.invariant past

pub returns-clause-settled : goal.returns-clause-settled
returns-clause-settled c = sym (ap (λ (s : HeapState). s.is_draft_open) c.self.view_is)

pub returns-then-not-is_live-clause-settled : goal.returns-then-not-is_live-clause-settled
returns-then-not-is_live-clause-settled c = sym (ap (λ (s : HeapState). s.is_draft_open) c.self.view_is)
