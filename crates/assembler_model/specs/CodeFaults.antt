-- What is wrong with the lines of a method's code, their labels with them: a label may stand before the lines that
-- name it or behind them.
use Rattle.std.specs.Prelude.{ℕ, ◌-◌, pos, neg_ℤ, int_le, List, [], ◌∷◌, ◌++◌, Bool, true, false, ◌&&◌, ◌||◌, not, if◌then◌else◌, nat_lt, Option, Some, None, is_none, unwrap_or, option_and_then, option_map, Result, Ok, find, filter_map, flat_map, map, length, drop, bytes_eq}
use Rattle.std.specs.List.{list_any}
use Rattle.jv_model.specs.Refusal.{LineKind, wrong_label, out_of_range, too_many}
use Rattle.text_model.specs.LineFaults.{Fault, where_true, at_line}
use Rattle.text_model.specs.Numerals.{most_u2}
use Rattle.assembler_model.specs.AssemblerTerms.{Label, branch, wide_branch, tableswitch, lookupswitch, FrameType, new_type, AssemblerLine, at_label, frame, catch, operation}
use Rattle.assembler_model.specs.InstructionBytes.{distance}
use Rattle.assembler_model.specs.CodeLines.{CodeLine}

-- A label with the pc of its line, where that is known.
pub record LabelPlace : Type 0 where
  pub label : Label
  pub pc : Option ℕ

-- the label that a line sets
abbrev pub label_of : Option ℕ → Result AssemblerLine LineKind → Option LabelPlace
label_of pc (Ok (at_label label)) = Some (record { label = label; pc = pc })
label_of pc other = None

-- the labels of a method's code, in order
unfoldable pub labels_of : List CodeLine → List LabelPlace
labels_of lines = filter_map (λ here. label_of here.pc here.line.said) lines

-- the first line that sets a label
abbrev pub label_in : List LabelPlace → Label → Option LabelPlace
label_in labels label = find (λ place. bytes_eq place.label label) labels

-- where it stands, if that is known
abbrev pub pc_in : List LabelPlace → Label → Option ℕ
pc_in labels label = option_and_then (λ place. place.pc) (label_in labels label)

-- where it stands, in a text without a fault
abbrev pub target_in : List LabelPlace → Label → ℕ
target_in labels label = unwrap_or (pc_in labels label) 0

-- the label that a type of a frame names
abbrev pub type_label : FrameType → Option Label
type_label (new_type label) = Some label
type_label other = None

-- the labels that a line names
abbrev pub named_labels : Result AssemblerLine LineKind → List Label
named_labels (Ok (operation (branch opcode label))) = label ∷ []
named_labels (Ok (operation (wide_branch opcode label))) = label ∷ []
named_labels (Ok (operation (tableswitch low labels default))) = default ∷ labels
named_labels (Ok (operation (lookupswitch rows default))) = default ∷ map (λ row. row.1) rows
named_labels (Ok (catch from to target type)) = from ∷ to ∷ target ∷ []
named_labels (Ok (frame locals stack)) = filter_map type_label (locals ++ stack)
named_labels other = []

-- a distance that two bytes don't hold, where both pcs are known
abbrev pub is_far : Option ℕ → Option ℕ → Bool
is_far (Some from) (Some to) =
    not (int_le (neg_ℤ (pos 32768)) (distance from to) && int_le (distance from to) (pos 32767))
is_far from to = false

-- two bytes don't hold it, where it is known
abbrev pub is_above_u2 : Option ℕ → Bool
is_above_u2 (Some n) = nat_lt most_u2 n
is_above_u2 None = false

-- a branch goes too far; a handler or a frame names a place above 65,535
abbrev pub goes_too_far : List LabelPlace → Option ℕ → Result AssemblerLine LineKind → Bool
goes_too_far labels pc (Ok (operation (branch opcode label))) = is_far pc (pc_in labels label)
goes_too_far labels pc (Ok (operation said)) = false
goes_too_far labels pc said = list_any (λ label. is_above_u2 (pc_in labels label)) (named_labels said)

-- types of one list of a frame
abbrev pub are_too_many : Result AssemblerLine LineKind → Bool
are_too_many (Ok (frame locals stack)) = nat_lt most_u2 (length locals) || nat_lt most_u2 (length stack)
are_too_many other = false

-- what is wrong with a line among these labels
abbrev pub label_faults : List LabelPlace → CodeLine → List LineKind
label_faults labels here =
    where_true (list_any (λ label. is_none (label_in labels label)) (named_labels here.line.said)) wrong_label
    ++ where_true (goes_too_far labels here.pc here.line.said) out_of_range
    ++ where_true (are_too_many here.line.said) too_many

-- ---- frames and handlers

-- A frame line with its pc.
pub record FrameAt : Type 0 where
  pub number : ℕ
  pub pc : Option ℕ
  pub locals : List FrameType
  pub stack : List FrameType

-- the frame of a line
abbrev pub frame_of : CodeLine → Result AssemblerLine LineKind → Option FrameAt
frame_of here (Ok (frame locals stack)) =
    Some (record { number = here.line.number; pc = here.pc; locals = locals; stack = stack })
frame_of here other = None

-- the frames of a method's code, in order
unfoldable pub frames_of : List CodeLine → List FrameAt
frames_of lines = filter_map (λ here. frame_of here here.line.said) lines

-- how far a frame is from the one before (JVMS 4.7.4)
abbrev pub offset_delta : Option ℕ → Option ℕ → Option ℕ
offset_delta None pc = pc
offset_delta (Some before) pc = option_map (λ here. here - before - 1) pc

-- a frame that is too far from the one before
abbrev pub frame_faults : Option ℕ → List FrameAt → List Fault
frame_faults before [] = []
frame_faults before (here ∷ frames) =
    at_line here.number (where_true (is_above_u2 (offset_delta before here.pc)) out_of_range)
    ++ frame_faults here.pc frames

-- a handler's line
abbrev pub is_catch : Result AssemblerLine LineKind → Bool
is_catch (Ok (catch from to target type)) = true
is_catch other = false

-- the number of a handler's line
abbrev pub number_of_catch : CodeLine → Option ℕ
number_of_catch here = if is_catch here.line.said then Some here.line.number else None

-- all of these lines behind the first 65,535
abbrev pub too_many_of : List ℕ → List Fault
too_many_of numbers = map (λ number. (number, too_many)) (drop most_u2 numbers)

-- all faults of a method's code
unfoldable pub code_faults : List CodeLine → List Fault
code_faults lines =
    flat_map (λ here. at_line here.line.number (here.faults ++ label_faults (labels_of lines) here)) lines
    ++ frame_faults None (frames_of lines) ++ too_many_of (map (λ here. here.number) (frames_of lines))
    ++ too_many_of (filter_map number_of_catch lines)
