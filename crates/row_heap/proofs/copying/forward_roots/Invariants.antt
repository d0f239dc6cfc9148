use Rattle.std.proofs.Common.{◌≡◌, ◌++◌, take, drop}
use Rattle.std.specs.Prelude.{map}
use Rattle.row_heap.specs.Forwards.{forwarded_root}
use Rattle.row_heap.proofs.copying.forward_roots.Given as goal

abbrev pub invariant-loop-at : goal.invariant-loop-at
invariant-loop-at l =
    (l.roots.addrs.items ≡ map (forwarded_root l.forwards) (take l.at l.fn.roots.addrs.items) ++ drop l.at l.fn.roots.addrs.items)
    × (l.roots.addrs.spare ≡ l.fn.roots.addrs.spare)
