-- Where the lines of a method's code stand, and what is wrong with each by itself.
use Rattle.std.specs.Prelude.{ℕ, ◌+◌, List, [], ◌∷◌, ◌++◌, Bool, true, false, ◌&&◌, ◌||◌, not, if◌then◌else◌, ◌==◌, Option, Some, None, option_map, Result, Ok, Err, length, bytes_eq}
use Rattle.std.specs.List.{list_any}
use Rattle.jv_model.specs.Refusal.{LineKind, wrong_order, wrong_label, out_of_range}
use Rattle.text_model.specs.LineFaults.{where_true}
use Rattle.assembler_model.specs.AssemblerTerms.{Label, Operation, AssemblerLine, at_label, frame, operation}
use Rattle.assembler_model.specs.AssemblerLines.{LineForm, frame_form, NumberedLine}
use Rattle.assembler_model.specs.AssemblerOrder.{goes_on}
use Rattle.assembler_model.specs.PoolEntries.{Entry}
use Rattle.assembler_model.specs.PoolNeeds.{operation_entries}
use Rattle.assembler_model.specs.AssemblerPool.{is_too_far}
use Rattle.assembler_model.specs.InstructionBytes.{operation_bytes}

-- The pc there, unless a line before is faulty by itself; the pc of the last frame before; and the labels before.
pub record Place : Type 0 where
  pub pc : Option ℕ
  pub framed : Option ℕ
  pub labels : List Label

-- before the first line of code
abbrev pub at_start : Place
at_start = record { pc = Some 0; framed = None; labels = [] }

-- A line of code with its pc, and what is wrong with it by itself: the targets of its labels apart.
pub record CodeLine : Type 0 where
  pub line : NumberedLine
  pub pc : Option ℕ
  pub faults : List LineKind

-- both are known and equal
abbrev pub is_same_pc : Option ℕ → Option ℕ → Bool
is_same_pc (Some a) (Some b) = a == b
is_same_pc a b = false

-- a label that stands twice, an index that is too far
abbrev pub said_faults : List Entry → Place → Result AssemblerLine LineKind → List LineKind
said_faults entries place (Err kind) = kind ∷ []
said_faults entries place (Ok (at_label label)) = where_true (list_any (bytes_eq label) place.labels) wrong_label
said_faults entries place (Ok (operation said)) =
    where_true (list_any (is_too_far entries) (operation_entries said)) out_of_range
said_faults entries place (Ok other) = []

-- a frame line, also one with a fault
abbrev pub is_frame : Option LineForm → Bool
is_frame (Some frame_form) = true
is_frame other = false

-- a line that never stands in code, a second frame at one pc
abbrev pub is_out_of_order : Place → NumberedLine → Bool
is_out_of_order place line = not (goes_on line.form) || (is_frame line.form && is_same_pc place.framed place.pc)

-- what is wrong with a line there, by itself
abbrev pub own_faults : List Entry → Place → NumberedLine → List LineKind
own_faults entries place line =
    where_true (is_out_of_order place line) wrong_order ++ said_faults entries place line.said

-- how long an instruction is doesn't depend on where its labels stand
abbrev pub pc_behind : List Entry → Operation → ℕ → ℕ
pc_behind entries said pc = pc + length (operation_bytes entries (λ label. 0) pc said)

-- the place behind a line without a fault
abbrev pub place_behind : List Entry → Place → Result AssemblerLine LineKind → Place
place_behind entries place (Ok (at_label label)) = record place { labels = label ∷ place.labels }
place_behind entries place (Ok (frame locals stack)) = record place { framed = place.pc }
place_behind entries place (Ok (operation said)) = record place { pc = option_map (pc_behind entries said) place.pc }
place_behind entries place other = place

-- a faulty line makes the pcs behind it unknown
abbrev pub place_after : List Entry → Place → CodeLine → Place
place_after entries place here =
    if length here.faults == 0 then place_behind entries place here.line.said
    else record (place_behind entries place here.line.said) { pc = None }

-- a line at that place
abbrev pub code_line : List Entry → Place → NumberedLine → CodeLine
code_line entries place line = record { line = line; pc = place.pc; faults = own_faults entries place line }

-- the lines from that place on
unfoldable pub code_lines : List Entry → Place → List NumberedLine → List CodeLine
code_lines entries place [] = []
code_lines entries place (line ∷ lines) =
    code_line entries place line ∷ code_lines entries (place_after entries place (code_line entries place line)) lines
