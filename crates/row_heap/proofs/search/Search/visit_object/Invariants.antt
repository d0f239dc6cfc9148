use Rattle.std.proofs.Common.{◌≡◌}
use Rattle.heap_face.specs.Collection.{refers_at}
use Rattle.row_heap.specs.Found.{capacity}
use Rattle.row_heap.proofs.Reading.{HasVisited}
use Rattle.row_heap.proofs.search.Search.visit_object.Given as goal

abbrev pub invariant-loop-at : goal.invariant-loop-at
invariant-loop-at l =
    HasVisited l.from.objects (refers_at l.layouts l.shape) l.contents l.at l.fn.self.order.items l.self.order.items l.self.forwards.items
    × (capacity l.self.order ≡ capacity l.fn.self.order) × (capacity l.self.forwards ≡ capacity l.fn.self.forwards)
