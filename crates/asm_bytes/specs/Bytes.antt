-- Bytes of the parts of an instruction and of a method's code.
use Rattle.std.specs.Prelude.{ℕ, ℤ, pos, ◌+ℤ◌, ◌-ℤ◌, length, flat_map, List, [], ◌∷◌, ◌++◌, if◌then◌else◌, Option, map, option_map}
use Rattle.std.specs.Borrow.{Bor}
use Rattle.jv_model.specs.ClassBytes.{u2}
use Rattle.assembler_model.specs.AssemblerTerms.{FrameType, Label}
use Rattle.assembler_model.specs.CodeBytes.{frames_bytes, handler_bytes, types_bytes}
use Rattle.assembler_model.specs.CodeFaults.{frames_of}
use Rattle.asm_code.specs.Faults.{is_frame_said}
use Rattle.assembler_model.specs.CodeLines.{CodeLine}
use Rattle.assembler_model.specs.InstructionBytes.{distance, padding, s4}
use Rattle.assembler_model.specs.PoolEntries.{Entry}
use Rattle.asm_lines.specs.Terms.{name_of, row_of}

-- a row of lookupswitch at a pc
abbrev pub row_bytes : (Label → ℕ) → ℕ → ℤ × Label → List ℕ
row_bytes target pc row = s4 row.0 ++ s4 (distance pc (target row.1))

-- a tableswitch at a pc
abbrev pub table_bytes : (Label → ℕ) → ℕ → ℤ → List Label → Label → List ℕ
table_bytes target pc low labels default =
    0xAA ∷ padding pc ++ s4 (distance pc (target default)) ++ s4 low ++ s4 ((low +ℤ pos (length labels)) -ℤ pos 1)
    ++ flat_map (λ label. s4 (distance pc (target label))) labels

abbrev pub rows_in : List (ℤ × Bor (List ℕ)) → List (ℤ × Label)
rows_in rows = map row_of rows

abbrev pub name_if_any : Option (Bor (List ℕ)) → Option (List ℕ)
name_if_any name = option_map name_of name

-- the row of the exception table that a line is
abbrev pub handler_row : List Entry → (Label → ℕ) → CodeLine → List ℕ
handler_row entries target here = handler_bytes entries target here.line.said

-- a full frame at this distance from the one before (JVMS 4.7.4)
abbrev pub full_frame : List Entry → (Label → ℕ) → ℕ → List FrameType → List FrameType → List ℕ
full_frame entries target distance locals stack =
    255 ∷ u2 distance ++ types_bytes entries target locals ++ types_bytes entries target stack

-- the frame that a line is, behind the one before
abbrev pub frame_bytes : List Entry → (Label → ℕ) → Option ℕ → CodeLine → List ℕ
frame_bytes entries target before here = frames_bytes entries target before (frames_of (here ∷ []))

-- the pc of the last frame up to this line
abbrev pub last_pc : Option ℕ → CodeLine → Option ℕ
last_pc before here = if is_frame_said here.line.said then here.pc else before
