use Rattle.std.proofs.Common.{◌≡◌, ◌+◌, ◌≤◌, drop, length}
use Rattle.assembler_model.specs.CodeFaults.{frames_of}
use Rattle.asm_code.specs.Places.{lines_of}
use Rattle.asm_bytes.proofs.frames.frame_count.Given as goal

-- the frames so far, and those that are left
abbrev pub invariant-loop-at : goal.invariant-loop-at
invariant-loop-at l = record {
  few : l.count ≤ l.at;
  all : l.count + length (frames_of (lines_of (drop l.at l.lines.items))) ≡ length (frames_of (lines_of l.lines.items));
}
