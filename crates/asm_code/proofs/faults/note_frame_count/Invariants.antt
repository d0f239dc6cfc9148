use Rattle.std.proofs.Common.{◌≡◌, ◌≤◌, drop}
use Rattle.text_model.specs.LineFaults.{first_fault}
use Rattle.asm_parts.specs.Faults.{either, told_by}
use Rattle.asm_code.specs.Faults.{frame_numbers}
use Rattle.asm_code.specs.Places.{lines_of}
use Rattle.asm_code.proofs.FaultLemmas.{too_many_from}
use Rattle.asm_code.proofs.faults.note_frame_count.Given as goal

-- what is noted, and the frames that are left
abbrev pub invariant-loop-here : goal.invariant-loop-here
invariant-loop-here l = record {
  few : l.count ≤ l.here-index;
  noted : either (told_by l.first) (first_fault (too_many_from 65535 l.count (frame_numbers (lines_of (drop l.here-index l.lines)))))
      ≡ either (told_by l.fn.first) (first_fault (too_many_from 65535 0 (frame_numbers (lines_of l.lines))));
}
