use Rattle.std.proofs.Common.{◌≡◌, drop}
use Rattle.text_model.specs.LineFaults.{first_fault}
use Rattle.assembler_model.specs.CodeFaults.{frame_faults, frames_of}
use Rattle.asm_parts.specs.Faults.{either, told_by}
use Rattle.asm_code.specs.Faults.{no_pc}
use Rattle.asm_code.specs.Places.{lines_of}
use Rattle.asm_code.proofs.faults.note_distances.Given as goal

-- what is noted, and the frames that are left
abbrev pub invariant-loop-here : goal.invariant-loop-here
invariant-loop-here l =
    either (told_by l.first) (first_fault (frame_faults l.before (frames_of (lines_of (drop l.here-index l.lines)))))
    ≡ either (told_by l.fn.first) (first_fault (frame_faults no_pc (frames_of (lines_of l.lines))))
