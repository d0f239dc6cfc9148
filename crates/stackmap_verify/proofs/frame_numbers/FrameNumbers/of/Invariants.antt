use Rattle.std.proofs.Common.{take}
use Rattle.stackmap_verify.specs.FrameNumbers.{AreNumbers}
use Rattle.stackmap_verify.proofs.frame_numbers.FrameNumbers.of.Given as goal

-- those of the frames so far
abbrev pub invariant-loop-number : goal.invariant-loop-number
invariant-loop-number l = AreNumbers (take l.number l.frames) l.numbers.items
