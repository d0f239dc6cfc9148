use Rattle.std.proofs.Common.{◌≡◌, ◌-◌, ◌≤◌, length}
use Rattle.row_heap.specs.Found.{IsFound, capacity, found_by, serials_of}
use Rattle.row_heap.proofs.Following.{found_from}
use Rattle.row_heap.proofs.search.Search.follow.Given as goal

abbrev pub invariant-loop-done : goal.invariant-loop-done
invariant-loop-done l =
    IsFound l.from.objects l.self.order.items l.self.forwards.items
    × (found_from l.layouts l.from l.done (serials_of l.from.objects l.self.order.items)
    ≡ found_by l.layouts l.from (serials_of l.from.objects l.fn.self.order.items))
    × (capacity l.self.order ≡ capacity l.fn.self.order) × (capacity l.self.forwards ≡ capacity l.fn.self.forwards)

abbrev pub decreases-loop-done : goal.decreases-loop-done
decreases-loop-done l = l.from.free - l.done
