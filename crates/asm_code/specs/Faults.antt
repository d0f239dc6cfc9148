-- What is wrong with a method's code, in parts.
use Rattle.std.specs.Prelude.{ℕ, List, ◌++◌, Bool, true, false, Option, None, Result, Ok, map}
use Rattle.jv_model.specs.Refusal.{LineKind}
use Rattle.text_model.specs.LineFaults.{Fault, at_line}
use Rattle.assembler_model.specs.AssemblerTerms.{AssemblerLine, frame}
use Rattle.assembler_model.specs.CodeLines.{CodeLine}
use Rattle.assembler_model.specs.CodeFaults.{LabelPlace, frames_of, label_faults}

-- of a line by itself, and among these labels
abbrev pub line_faults : List LabelPlace → CodeLine → List Fault
line_faults labels here = at_line here.line.number (here.faults ++ label_faults labels here)

-- no frame before the first
abbrev pub no_pc : Option ℕ
no_pc = None

-- a frame's line
abbrev pub is_frame_said : Result AssemblerLine LineKind → Bool
is_frame_said (Ok (frame locals stack)) = true
is_frame_said other = false

-- the numbers of the lines with frames
abbrev pub frame_numbers : List CodeLine → List ℕ
frame_numbers lines = map (λ here. here.number) (frames_of lines)
