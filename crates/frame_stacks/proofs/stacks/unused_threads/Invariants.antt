use Rattle.std.proofs.Common.{◌≡◌}
use Rattle.std.specs.Prelude.{replicate}
use Rattle.frame_stacks.specs.Kept.{unused}
use Rattle.frame_stacks.proofs.stacks.unused_threads.Given as goal

abbrev pub invariant-loop-made : goal.invariant-loop-made
invariant-loop-made l = l.threads.items ≡ replicate l._made unused
