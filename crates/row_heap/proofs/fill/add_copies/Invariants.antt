use Rattle.std.proofs.Common.{◌≡◌, ◌+◌, ◌++◌}
use Rattle.std.specs.Prelude.{replicate}
use Rattle.row_heap.proofs.fill.add_copies.Given as goal

abbrev pub invariant-loop : goal.invariant-loop
invariant-loop g l =
    (l.list.items ≡ l.fn.list.items ++ replicate l.counter l.item) × (l.list.spare + l.counter ≡ l.fn.list.spare)
