use Rattle.std.proofs.Common.{ℕ, ◌<◌}
use Rattle.std.specs.Prelude.{IfSome, slice_get}
use Rattle.row_heap.specs.Found.{Follows}
use Rattle.row_heap.proofs.checks.each_follows.Given as goal

abbrev pub invariant-loop-place : goal.invariant-loop-place
invariant-loop-place l =
    (k : ℕ) → k < l.place → IfSome (slice_get l.rows.objects k) (Follows l.layouts l.rows.objects)
