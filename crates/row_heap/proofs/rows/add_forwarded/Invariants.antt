use Rattle.std.proofs.Common.{◌≡◌, ◌+◌, ◌++◌, take}
use Rattle.heap_face.specs.Collection.{refers_at}
use Rattle.row_heap.specs.Forwards.{forwarded}
use Rattle.row_heap.proofs.rows.add_forwarded.Given as goal

abbrev pub invariant-loop-at : goal.invariant-loop-at
invariant-loop-at l =
    (l.words.items ≡ l.fn.words.items ++ forwarded l.forwards (refers_at l.layouts l.shape) 0 (take l.at l.contents))
    × (l.words.spare + l.at ≡ l.fn.words.spare)
