use Rattle.std.proofs.Common.{take}
use Rattle.std.specs.Prelude.{IsTrue, is_some}
use Rattle.std.specs.List.{list_all}
use Rattle.heap_face.specs.Heap.{object_of}
use Rattle.row_heap.proofs.heap.RowHeap.can_collect.Given as goal

abbrev pub invariant-loop-root : goal.invariant-loop-root
invariant-loop-root l = IsTrue (list_all (λ a. is_some (object_of l.self a)) (take l.root-index l.roots.addrs.items))
