-- The contents of a method's Code attribute (JVMS 4.7.3), with full stack map frames (JVMS 4.7.4).
use Rattle.std.specs.Prelude.{ℕ, List, [], ◌∷◌, ◌++◌, Option, Some, None, unwrap_or, Result, Ok, filter_map, flat_map, length, codes}
use Rattle.jv_model.specs.Refusal.{LineKind}
use Rattle.jv_model.specs.ClassBytes.{u2, u4}
use Rattle.assembler_model.specs.AssemblerTerms.{Label, FrameType, top_type, int_type, long_type, null_type, this_type, new_type, object_type, AssemblerLine, catch, operation}
use Rattle.assembler_model.specs.PoolEntries.{Entry, text_entry, class_entry}
use Rattle.assembler_model.specs.AssemblerPool.{index_in}
use Rattle.assembler_model.specs.InstructionBytes.{operation_bytes}
use Rattle.assembler_model.specs.CodeLines.{CodeLine}
use Rattle.assembler_model.specs.CodeFaults.{FrameAt, frames_of, labels_of, number_of_catch, offset_delta, target_in}

-- a verification type (JVMS 4.7.4)
abbrev pub type_bytes : List Entry → (Label → ℕ) → FrameType → List ℕ
type_bytes entries target top_type = 0 ∷ []
type_bytes entries target int_type = 1 ∷ []
type_bytes entries target long_type = 4 ∷ []
type_bytes entries target null_type = 5 ∷ []
type_bytes entries target this_type = 6 ∷ []
type_bytes entries target (object_type name) = 7 ∷ u2 (index_in entries (class_entry name))
type_bytes entries target (new_type label) = 8 ∷ u2 (target label)

-- a list of types behind its length
abbrev pub types_bytes : List Entry → (Label → ℕ) → List FrameType → List ℕ
types_bytes entries target types = u2 (length types) ++ flat_map (type_bytes entries target) types

-- full frames
unfoldable pub frames_bytes : List Entry → (Label → ℕ) → Option ℕ → List FrameAt → List ℕ
frames_bytes entries target before [] = []
frames_bytes entries target before (here ∷ frames) =
    255 ∷ u2 (unwrap_or (offset_delta before here.pc) 0) ++ types_bytes entries target here.locals
    ++ types_bytes entries target here.stack ++ frames_bytes entries target here.pc frames

-- the contents of a StackMapTable attribute
abbrev pub map_bytes : List Entry → (Label → ℕ) → List FrameAt → List ℕ
map_bytes entries target frames = u2 (length frames) ++ frames_bytes entries target None frames

-- an attribute behind its name, where there is a frame
abbrev pub maps_bytes : List Entry → (Label → ℕ) → List FrameAt → List ℕ
maps_bytes entries target [] = u2 0
maps_bytes entries target (first ∷ others) =
    u2 1 ++ u2 (index_in entries (text_entry (codes "StackMapTable")))
    ++ u4 (length (map_bytes entries target (first ∷ others)))
    ++ map_bytes entries target (first ∷ others)

-- the index of the class that a handler catches, 0 for any
abbrev pub caught_index : List Entry → Option (List ℕ) → ℕ
caught_index entries None = 0
caught_index entries (Some name) = index_in entries (class_entry name)

-- a row of the exception table
abbrev pub handler_bytes : List Entry → (Label → ℕ) → Result AssemblerLine LineKind → List ℕ
handler_bytes entries target (Ok (catch from to type_target type)) =
    u2 (target from) ++ u2 (target to) ++ u2 (target type_target) ++ u2 (caught_index entries type)
handler_bytes entries target other = []

-- the bytes of an instruction's line
abbrev pub line_bytes : List Entry → (Label → ℕ) → Option ℕ → Result AssemblerLine LineKind → List ℕ
line_bytes entries target pc (Ok (operation said)) = operation_bytes entries target (unwrap_or pc 0) said
line_bytes entries target pc other = []

-- the instructions
abbrev pub run_bytes : List Entry → (Label → ℕ) → List CodeLine → List ℕ
run_bytes entries target lines = flat_map (λ here. line_bytes entries target here.pc here.line.said) lines

-- behind the two numbers of words: the instructions, the exception table, the attributes
abbrev pub bytes_with : List Entry → (Label → ℕ) → List CodeLine → List ℕ → List ℕ
bytes_with entries target lines run =
    u4 (length run) ++ run ++ u2 (length (filter_map number_of_catch lines))
    ++ flat_map (λ here. handler_bytes entries target here.line.said) lines
    ++ maps_bytes entries target (frames_of lines)

-- the contents of a Code attribute, with at most so many words of stack and of locals
unfoldable pub code_bytes : List Entry → ℕ → ℕ → List CodeLine → List ℕ
code_bytes entries stack locals lines =
    u2 stack ++ u2 locals
    ++ bytes_with entries (target_in (labels_of lines)) lines (run_bytes entries (target_in (labels_of lines)) lines)
