use Rattle.std.proofs.Common.{◌≡◌, ℕ, ◌+◌, ◌-◌, length}
use Rattle.stackmap_verify.specs.FrameNumbers.{number_in}
use Rattle.stackmap_verify.proofs.frame_numbers.extend.Given as goal

-- the same stand there
abbrev pub invariant-loop-numbers : goal.invariant-loop-numbers
invariant-loop-numbers l = (at : ℕ) → number_in l.numbers.items at ≡ number_in l.fn.numbers.items at

abbrev pub decreases-loop-numbers : goal.decreases-loop-numbers
decreases-loop-numbers l = l.pc + 1 - length l.numbers.items
