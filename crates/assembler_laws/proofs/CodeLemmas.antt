-- The contents of a method's Code attribute are bytes.
use Rattle.std.proofs.Common.{ℕ, zero, suc, ◌-◌, ◌%◌, ℤ, List, [], ◌∷◌, ◌++◌, Bool, true, false, replicate, Option, None, Result, Ok, length, arith}
use Rattle.std.specs.Prelude.{◌||◌, ◌+ℤ◌, ◌-ℤ◌, pos, IfOk, codes, filter_map, flat_map, if◌then◌else◌, nat_lt, not, unwrap_or}
use Rattle.std.specs.List.{AllByRecursion}
use Rattle.jv_model.specs.ClassBytes.{u1, u2, u4}
use Rattle.jv_model.specs.Operand.{MemberReference}
use Rattle.jv_model.specs.Profile.{IsU1}
use Rattle.jv_model.specs.Refusal.{LineKind}
use Rattle.assembler_model.specs.AssemblerTerms.{AssemblerLine, FrameType, Label, Operation, ReferenceKind, branch, catch, increment, int_type, load_constant, load_long, long_type, lookupswitch, new_type, newarray, null_type, object_type, of_byte, of_class, of_local, of_member, of_short, operation, plain, tableswitch, this_type, to_field, to_interface_method, to_method, top_type, wide_branch}
use Rattle.assembler_model.specs.AssemblerLines.{NumberedLine}
use Rattle.assembler_model.specs.PoolEntries.{Entry, text_entry}
use Rattle.assembler_model.specs.PoolNeeds.{constant_entry}
use Rattle.assembler_model.specs.AssemblerPool.{index_in}
use Rattle.assembler_model.specs.InstructionBytes.{count_bytes, distance, is_byte, operation_bytes, padding, s1, s2, s4}
use Rattle.assembler_model.specs.CodeLines.{CodeLine, Place, code_line, code_lines, place_after}
use Rattle.assembler_model.specs.CodeFaults.{FrameAt, frames_of, labels_of, number_of_catch, offset_delta, target_in}
use Rattle.assembler_model.specs.CodeBytes.{bytes_with, caught_index, code_bytes, frames_bytes, handler_bytes, line_bytes, map_bytes, maps_bytes, run_bytes, type_bytes, types_bytes}
use Rattle.assembler_laws.proofs.ListLemmas.{all_any, all_append, all_flat, all_weaker}
use Rattle.assembler_laws.proofs.NumberLemmas.{bytes_fit}
use Rattle.assembler_laws.proofs.PartLemmas.{FitsNumbered}
use Rattle.assembler_laws.proofs.TermLemmas.{FitsLine, FitsOperation}
use Rattle.assembler_laws.proofs.TextLemmas.{AreBytes}

-- ---- instructions

-- one list of bytes behind another
then_bytes : (xs ys : List ℕ) → AreBytes xs → AreBytes ys → AreBytes (xs ++ ys)
then_bytes xs ys first second = all_append IsU1 xs ys first second

zeros : (count : ℕ) → AreBytes (replicate count 0)
zeros zero = tt
zeros (suc count) = let here : IsU1 0 = omega arith in (here, zeros count)

local_by : (opcode local : ℕ) (test : Bool) → IsU1 opcode
    → AreBytes (if test then 0xC4 ∷ opcode ∷ u2 local else opcode ∷ u1 local)
local_by opcode local true fits = let wide : IsU1 0xC4 = omega arith in (wide, (fits, bytes_fit 2 local))
local_by opcode local false fits = (fits, bytes_fit 1 local)

increment_by : (local : ℕ) (constant : ℤ) (test : Bool)
    → AreBytes (if test then 0xC4 ∷ 0x84 ∷ u2 local ++ s2 constant else 0x84 ∷ u1 local ++ s1 constant)
increment_by local constant true =
    let wide : IsU1 0xC4 = omega arith in
    let opcode : IsU1 0x84 = omega arith in
    (wide, (opcode, then_bytes (u2 local) (s2 constant) (bytes_fit 2 local) (bytes_fit 2 _)))
increment_by local constant false =
    let opcode : IsU1 0x84 = omega arith in (opcode, then_bytes (u1 local) (s1 constant) (bytes_fit 1 local) (bytes_fit 1 _))

constant_by : (index : ℕ) (test : Bool) → AreBytes (if test then 0x13 ∷ u2 index else 0x12 ∷ u1 index)
constant_by index true = let opcode : IsU1 0x13 = omega arith in (opcode, bytes_fit 2 index)
constant_by index false = let opcode : IsU1 0x12 = omega arith in (opcode, bytes_fit 1 index)

count_fits : (kind : ReferenceKind) (reference : MemberReference) → AreBytes (count_bytes kind reference)
count_fits to_field reference = tt
count_fits to_method reference = tt
count_fits to_interface_method reference = then_bytes (u1 _) (u1 0) (bytes_fit 1 _) (bytes_fit 1 0)

operation_is : (entries : List Entry) (target : Label → ℕ) (pc : ℕ) (said : Operation) → FitsOperation said
    → AreBytes (operation_bytes entries target pc said)
unfolding operation_bytes
operation_is entries target pc (plain opcode) fits = (fits, tt)
operation_is entries target pc (of_local opcode local) fits = local_by opcode local (nat_lt 255 local) fits
operation_is entries target pc (of_byte opcode constant) fits = (fits, bytes_fit 1 _)
operation_is entries target pc (of_short opcode constant) fits = (fits, bytes_fit 2 _)
operation_is entries target pc (branch opcode label) fits = (fits, bytes_fit 2 _)
operation_is entries target pc (wide_branch opcode label) fits = (fits, bytes_fit 4 _)
operation_is entries target pc (of_member opcode kind reference) fits =
    (fits.0, then_bytes (u2 _) (count_bytes kind reference) (bytes_fit 2 _) (count_fits kind reference))
operation_is entries target pc (of_class opcode name) fits = (fits.0, bytes_fit 2 _)
operation_is entries target pc (load_constant constant) fits =
    constant_by (index_in entries (constant_entry constant)) (nat_lt 255 (index_in entries (constant_entry constant)))
operation_is entries target pc (load_long value) fits = let opcode : IsU1 0x14 = omega arith in (opcode, bytes_fit 2 _)
operation_is entries target pc (newarray type) fits = let opcode : IsU1 0xBC = omega arith in (opcode, (fits, tt))
operation_is entries target pc (increment local constant) fits = increment_by local constant (nat_lt 255 local || not (is_byte constant))
operation_is entries target pc (tableswitch low labels default) fits =
    let opcode : IsU1 0xAA = omega arith in
    let others = s4 (distance pc (target default)) in
    let most = s4 ((low +ℤ pos (length labels)) -ℤ pos 1) in
    let to = λ (label : Label). s4 (distance pc (target label)) in
    let first = then_bytes (padding pc) others (zeros (3 - pc % 4)) (bytes_fit 4 _) in
    let second = then_bytes (padding pc ++ others) (s4 low) first (bytes_fit 4 _) in
    let third = then_bytes (padding pc ++ others ++ s4 low) most second (bytes_fit 4 _) in (
      opcode,
      then_bytes (padding pc ++ others ++ s4 low ++ most) (flat_map to labels) third
          (all_flat IsU1 to labels (all_any (λ label. AreBytes (to label)) labels (λ label. bytes_fit 4 _))),
    )
operation_is entries target pc (lookupswitch rows default) fits =
    let opcode : IsU1 0xAB = omega arith in
    let others = s4 (distance pc (target default)) in
    let count = u4 (length rows) in
    let to = λ (row : ℤ × Label). s4 row.0 ++ s4 (distance pc (target row.1)) in
    let first = then_bytes (padding pc) others (zeros (3 - pc % 4)) (bytes_fit 4 _) in
    let second = then_bytes (padding pc ++ others) count first (bytes_fit 4 _) in (
      opcode,
      then_bytes (padding pc ++ others ++ count) (flat_map to rows) second
          (all_flat IsU1 to rows (all_any (λ row. AreBytes (to row)) rows
          (λ row. then_bytes (s4 row.0) (s4 (distance pc (target row.1))) (bytes_fit 4 _) (bytes_fit 4 _)))),
    )

-- ---- frames, handlers, and all lines

type_is : (entries : List Entry) (target : Label → ℕ) (type : FrameType) → AreBytes (type_bytes entries target type)
type_is entries target top_type = let tag : IsU1 0 = omega arith in (tag, tt)
type_is entries target int_type = let tag : IsU1 1 = omega arith in (tag, tt)
type_is entries target long_type = let tag : IsU1 4 = omega arith in (tag, tt)
type_is entries target null_type = let tag : IsU1 5 = omega arith in (tag, tt)
type_is entries target this_type = let tag : IsU1 6 = omega arith in (tag, tt)
type_is entries target (object_type name) = let tag : IsU1 7 = omega arith in (tag, bytes_fit 2 _)
type_is entries target (new_type label) = let tag : IsU1 8 = omega arith in (tag, bytes_fit 2 _)

types_are : (entries : List Entry) (target : Label → ℕ) (types : List FrameType) → AreBytes (types_bytes entries target types)
types_are entries target types =
    then_bytes (u2 (length types)) (flat_map (type_bytes entries target) types) (bytes_fit 2 _)
    (all_flat IsU1 (type_bytes entries target) types
    (all_any (λ type. AreBytes (type_bytes entries target type)) types (type_is entries target)))

frames_are : (entries : List Entry) (target : Label → ℕ) (before : Option ℕ) (frames : List FrameAt)
    → AreBytes (frames_bytes entries target before frames)
unfolding frames_bytes
frames_are entries target before [] = tt
frames_are entries target before (here ∷ frames) =
    let full : IsU1 255 = omega arith in
    let delta = u2 (unwrap_or (offset_delta before here.pc) 0) in
    let locals = types_bytes entries target here.locals in
    let stack = types_bytes entries target here.stack in
    let first = then_bytes delta locals (bytes_fit 2 _) (types_are entries target here.locals) in
    let second = then_bytes (delta ++ locals) stack first (types_are entries target here.stack) in (
      full,
      then_bytes (delta ++ locals ++ stack) (frames_bytes entries target here.pc frames) second
          (frames_are entries target here.pc frames),
    )

map_is : (entries : List Entry) (target : Label → ℕ) (frames : List FrameAt) → AreBytes (map_bytes entries target frames)
map_is entries target frames =
    then_bytes (u2 (length frames)) (frames_bytes entries target None frames) (bytes_fit 2 _) (frames_are entries target None frames)

maps_are : (entries : List Entry) (target : Label → ℕ) (frames : List FrameAt) → AreBytes (maps_bytes entries target frames)
maps_are entries target [] = bytes_fit 2 0
maps_are entries target (first ∷ others) =
    let name = u2 (index_in entries (text_entry (codes "StackMapTable"))) in
    let count = u4 (length (map_bytes entries target (first ∷ others))) in
    let a = then_bytes (u2 1) name (bytes_fit 2 1) (bytes_fit 2 _) in
    let b = then_bytes (u2 1 ++ name) count a (bytes_fit 4 _) in
    then_bytes (u2 1 ++ name ++ count) (map_bytes entries target (first ∷ others)) b (map_is entries target (first ∷ others))

handler_is : (entries : List Entry) (target : Label → ℕ) (said : Result AssemblerLine LineKind)
    → AreBytes (handler_bytes entries target said)
handler_is entries target (Ok (catch from to type_target type)) =
    let a = then_bytes (u2 (target from)) (u2 (target to)) (bytes_fit 2 _) (bytes_fit 2 _) in
    let b = then_bytes (u2 (target from) ++ u2 (target to)) (u2 (target type_target)) a (bytes_fit 2 _) in
    then_bytes (u2 (target from) ++ u2 (target to) ++ u2 (target type_target)) (u2 (caught_index entries type)) b (bytes_fit 2 _)
handler_is entries target other = tt

line_is : (entries : List Entry) (target : Label → ℕ) (pc : Option ℕ) (said : Result AssemblerLine LineKind) → IfOk said FitsLine
    → AreBytes (line_bytes entries target pc said)
line_is entries target pc (Ok (operation said)) fits = operation_is entries target (unwrap_or pc 0) said fits
line_is entries target pc other fits = tt

abbrev FitsCodeLine : CodeLine → Type 0
FitsCodeLine here = IfOk here.line.said FitsLine

lines_fit : (entries : List Entry) (place : Place) (lines : List NumberedLine) → AllByRecursion FitsNumbered lines
    → AllByRecursion FitsCodeLine (code_lines entries place lines)
unfolding code_lines
lines_fit entries place [] fit = tt
lines_fit entries place (line ∷ lines) fit =
    (fit.0.said, lines_fit entries (place_after entries place (code_line entries place line)) lines fit.1)

with_is : (entries : List Entry) (target : Label → ℕ) (lines : List CodeLine) → AllByRecursion FitsCodeLine lines
    → AreBytes (bytes_with entries target lines (run_bytes entries target lines))
with_is entries target lines fit =
    let run = run_bytes entries target lines in
    let count = u2 (length (filter_map number_of_catch lines)) in
    let handlers = λ (here : CodeLine). handler_bytes entries target here.line.said in
    let a = then_bytes (u4 (length run)) run (bytes_fit 4 _)
    (all_flat IsU1 (λ here. line_bytes entries target here.pc here.line.said) lines
    (all_weaker FitsCodeLine (λ here. AreBytes (line_bytes entries target here.pc here.line.said)) lines
    (λ here fits. line_is entries target here.pc here.line.said fits) fit)) in
    let b = then_bytes (u4 (length run) ++ run) count a (bytes_fit 2 _) in
    let d = then_bytes (u4 (length run) ++ run ++ count) (flat_map handlers lines) b
    (all_flat IsU1 handlers lines
    (all_any (λ here. AreBytes (handlers here)) lines (λ here. handler_is entries target here.line.said))) in
    then_bytes (u4 (length run) ++ run ++ count ++ flat_map handlers lines) (maps_bytes entries target (frames_of lines)) d
    (maps_are entries target (frames_of lines))

-- the contents of a Code attribute
pub code_is : (entries : List Entry) (stack locals : ℕ) (place : Place) (lines : List NumberedLine)
    → AllByRecursion FitsNumbered lines → AreBytes (code_bytes entries stack locals (code_lines entries place lines))
unfolding code_bytes
code_is entries stack locals place lines fit =
    let code = code_lines entries place lines in
    let target = target_in (labels_of code) in
    then_bytes (u2 stack ++ u2 locals) (bytes_with entries target code (run_bytes entries target code))
    (then_bytes (u2 stack) (u2 locals) (bytes_fit 2 stack) (bytes_fit 2 locals))
    (with_is entries target code (lines_fit entries place lines fit))
