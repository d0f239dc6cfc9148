use Rattle.row_heap.proofs.HeapLemmas.{tables_open}
use Rattle.row_heap.proofs.heap.RowHeap.open.Goals as goal

pub invariant_of-result : goal.invariant_of-result
invariant_of-result c =
    tables_open c.in_ok-open.field-0 c.in_ok-open-2.field-0 c.in_ok-open-3.field-0 c.args.half c.in_ok-open.ensures c.in_ok-open-2.ensures
    c.in_ok-open-3.ensures.order_room c.in_ok-open-3.ensures.forwards_room
