use Rattle.std.proofs.Common.{◌≡◌}
use Rattle.frame_stacks.proofs.tests.threads_come_up_to_the_most.Given as goal

abbrev pub invariant-loop-number : goal.invariant-loop-number
invariant-loop-number g l = l.stacks.room ≡ 64
