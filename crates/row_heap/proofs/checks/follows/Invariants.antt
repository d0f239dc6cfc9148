use Rattle.heap_face.specs.Collection.{refers_at}
use Rattle.row_heap.proofs.Checking.{HasLive}
use Rattle.row_heap.proofs.checks.follows.Given as goal

abbrev pub invariant-loop-at : goal.invariant-loop-at
invariant-loop-at l = HasLive l.rows.objects (refers_at l.layouts l.shape) l.contents l.at
