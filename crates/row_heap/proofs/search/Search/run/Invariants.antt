use Rattle.std.proofs.Common.{◌≡◌}
use Rattle.row_heap.specs.Found.{capacity}
use Rattle.row_heap.proofs.Following.{HasRoots}
use Rattle.row_heap.proofs.search.Search.run.Given as goal

abbrev pub invariant-loop-root : goal.invariant-loop-root
invariant-loop-root l =
    HasRoots l.from l.roots l.root-index l.self.order.items l.self.forwards.items
    × (capacity l.self.order ≡ capacity l.fn.self.order) × (capacity l.self.forwards ≡ capacity l.fn.self.forwards)
