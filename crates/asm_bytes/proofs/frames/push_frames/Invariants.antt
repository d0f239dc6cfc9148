use Rattle.std.proofs.Common.{◌≡◌, ◌++◌, drop}
use Rattle.assembler_model.specs.CodeBytes.{frames_bytes}
use Rattle.assembler_model.specs.CodeFaults.{frames_of, target_in}
use Rattle.asm_parts.specs.Pools.{entries_in}
use Rattle.asm_code.specs.Faults.{no_pc}
use Rattle.asm_code.specs.Labels.{labels_in}
use Rattle.asm_code.specs.Places.{lines_of}
use Rattle.asm_bytes.proofs.frames.push_frames.Given as goal

-- the bytes so far, and the frames that are left
abbrev pub invariant-loop-here : goal.invariant-loop-here
invariant-loop-here l =
    l.bytes.items ++ frames_bytes (entries_in l.pool) (target_in (labels_in l.labels.entries)) l.before (frames_of (lines_of (drop l.here-index l.lines)))
    ≡ l.fn.bytes.items ++ frames_bytes (entries_in l.pool) (target_in (labels_in l.labels.entries)) no_pc (frames_of (lines_of l.lines))
