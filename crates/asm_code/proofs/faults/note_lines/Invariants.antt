use Rattle.std.proofs.Common.{◌≡◌, drop}
use Rattle.std.specs.Prelude.{flat_map}
use Rattle.text_model.specs.LineFaults.{first_fault}
use Rattle.asm_parts.specs.Faults.{either, told_by}
use Rattle.asm_code.specs.Faults.{line_faults}
use Rattle.asm_code.specs.Labels.{labels_in}
use Rattle.asm_code.specs.Places.{lines_of}
use Rattle.asm_code.proofs.faults.note_lines.Given as goal

-- what is noted, and the lines that are left
abbrev pub invariant-loop-here : goal.invariant-loop-here
invariant-loop-here l =
    either (told_by l.first) (first_fault (flat_map (line_faults (labels_in l.labels.entries)) (lines_of (drop l.here-index l.lines))))
    ≡ either (told_by l.fn.first) (first_fault (flat_map (line_faults (labels_in l.labels.entries)) (lines_of l.lines)))
