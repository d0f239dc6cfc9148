use Rattle.std.proofs.Common.{◌≡◌, take}
use Rattle.row_heap.specs.Forwards.{copies}
use Rattle.row_heap.proofs.copying.copy_found.Given as goal

abbrev pub invariant-loop-place : goal.invariant-loop-place
invariant-loop-place l =
    (l.to.objects ≡ copies l.layouts l.from.objects l.search.forwards.items (take l.place-index l.search.order.items))
    × (l.to.half ≡ l.fn.to.half) × (l.to.free ≡ l.fn.to.free)
