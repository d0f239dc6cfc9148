-- A method's code has no more bytes than its lines have room for.
use Rattle.std.proofs.Common.{◌≡◌, ℕ, ℤ, ◌+◌, ◌-◌, ◌*◌, ◌%◌, ◌≤◌, List, [], ◌∷◌, ◌++◌, Bool, true, false, Option, None, Result, Ok, Err, length, length-append, refl, ap, arith}
use Rattle.std.specs.Prelude.{◌||◌, ◌+ℤ◌, ◌-ℤ◌, pos, codes, filter_map, flat_map, if◌then◌else◌, nat_lt, not, unwrap_or}
use Rattle.std.specs.List.{cons_option}
use Rattle.std.proofs.lemmas.List.{length-replicate}
use Rattle.jv_model.specs.ClassBytes.{u1, u2, u4}
use Rattle.jv_model.specs.Operand.{MemberReference}
use Rattle.jv_model.specs.Refusal.{LineKind}
use Rattle.assembler_model.specs.AssemblerTerms.{AssemblerLine, FrameType, Label, Operation, ReferenceKind, branch, catch, frame, increment, int_type, load_constant, load_long, long_type, lookupswitch, new_type, newarray, null_type, object_type, of_byte, of_class, of_local, of_member, of_short, operation, plain, tableswitch, this_type, to_field, to_interface_method, to_method, top_type, wide_branch}
use Rattle.assembler_model.specs.AssemblerLines.{NumberedLine}
use Rattle.assembler_model.specs.PoolEntries.{Entry, text_entry}
use Rattle.assembler_model.specs.PoolNeeds.{constant_entry}
use Rattle.assembler_model.specs.AssemblerPool.{index_in}
use Rattle.assembler_model.specs.InstructionBytes.{count_bytes, distance, is_byte, operation_bytes, padding, s1, s2, s4}
use Rattle.assembler_model.specs.CodeLines.{CodeLine, Place, code_line, code_lines, place_after}
use Rattle.assembler_model.specs.CodeFaults.{FrameAt, frame_of, frames_of, labels_of, number_of_catch, offset_delta, target_in}
use Rattle.assembler_model.specs.CodeBytes.{bytes_with, code_bytes, frames_bytes, handler_bytes, line_bytes, map_bytes, maps_bytes, run_bytes, type_bytes, types_bytes}
use Rattle.assembler_laws.proofs.ItemLemmas.{items_of, operands_of}

-- lists of the same length at the most, one after the other
flat_within : {A B : Type 0} (f : A → List B) (most : ℕ) (xs : List A) → ((x : A) → length (f x) ≤ most)
    → length (flat_map f xs) ≤ length xs * most
flat_within f most [] each = omega arith
flat_within f most (x ∷ xs) each =
    omega (arith, length-append (f x) (flat_map f xs), each x, flat_within f most xs each)

-- ---- instructions

local_by : (opcode local : ℕ) (test : Bool) → length (if test then 0xC4 ∷ opcode ∷ u2 local else opcode ∷ u1 local) ≤ 16
local_by opcode local true = omega arith
local_by opcode local false = omega arith

increment_by : (local : ℕ) (constant : ℤ) (test : Bool)
    → length (if test then 0xC4 ∷ 0x84 ∷ u2 local ++ s2 constant else 0x84 ∷ u1 local ++ s1 constant) ≤ 16
increment_by local constant true = omega arith
increment_by local constant false = omega arith

constant_by : (index : ℕ) (test : Bool) → length (if test then 0x13 ∷ u2 index else 0x12 ∷ u1 index) ≤ 16
constant_by index true = omega arith
constant_by index false = omega arith

count_within : (kind : ReferenceKind) (reference : MemberReference) → length (count_bytes kind reference) ≤ 2
count_within to_field reference = omega arith
count_within to_method reference = omega arith
count_within to_interface_method reference = omega arith

operation_within : (entries : List Entry) (target : Label → ℕ) (pc : ℕ) (said : Operation)
    → length (operation_bytes entries target pc said) ≤ 16 + 8 * operands_of said
unfolding operation_bytes
operation_within entries target pc (plain opcode) = omega arith
operation_within entries target pc (of_local opcode local) = local_by opcode local (nat_lt 255 local)
operation_within entries target pc (of_byte opcode constant) = omega arith
operation_within entries target pc (of_short opcode constant) = omega arith
operation_within entries target pc (branch opcode label) = omega arith
operation_within entries target pc (wide_branch opcode label) = omega arith
operation_within entries target pc (of_member opcode kind reference) = omega (arith, count_within kind reference)
operation_within entries target pc (of_class opcode name) = omega arith
operation_within entries target pc (load_constant constant) =
    constant_by (index_in entries (constant_entry constant)) (nat_lt 255 (index_in entries (constant_entry constant)))
operation_within entries target pc (load_long value) = omega arith
operation_within entries target pc (newarray type) = omega arith
operation_within entries target pc (increment local constant) = increment_by local constant (nat_lt 255 local || not (is_byte constant))
operation_within entries target pc (tableswitch low labels default) =
    let others = s4 (distance pc (target default)) in
    let most = s4 ((low +ℤ pos (length labels)) -ℤ pos 1) in
    let to = λ (label : Label). s4 (distance pc (target label)) in
    omega (
      arith,
      length-append (padding pc ++ others ++ s4 low ++ most) (flat_map to labels),
      length-append (padding pc ++ others ++ s4 low) most,
      length-append (padding pc ++ others) (s4 low),
      length-append (padding pc) others,
      length-replicate {A = ℕ} (3 - pc % 4) 0,
      flat_within to 4 labels (λ label. omega arith),
    )
operation_within entries target pc (lookupswitch rows default) =
    let others = s4 (distance pc (target default)) in
    let count = u4 (length rows) in
    let to = λ (row : ℤ × Label). s4 row.0 ++ s4 (distance pc (target row.1)) in
    omega (
      arith,
      length-append (padding pc ++ others ++ count) (flat_map to rows),
      length-append (padding pc ++ others) count,
      length-append (padding pc) others,
      length-replicate {A = ℕ} (3 - pc % 4) 0,
      flat_within to 8 rows (λ row. omega arith),
    )

-- ---- lines

-- what a line may come to, at the most
abbrev pub weight : Result AssemblerLine LineKind → ℕ
weight (Ok said) = 16 + 8 * items_of said
weight (Err kind) = 0

abbrev code_weight : List CodeLine → ℕ
code_weight [] = 0
code_weight (here ∷ lines) = weight here.line.said + code_weight lines

abbrev pub block_weight : List NumberedLine → ℕ
block_weight [] = 0
block_weight (line ∷ lines) = weight line.said + block_weight lines

same_weight : (entries : List Entry) (place : Place) (lines : List NumberedLine)
    → code_weight (code_lines entries place lines) ≡ block_weight lines
unfolding code_lines
same_weight entries place [] = refl
same_weight entries place (line ∷ lines) =
    ap (λ n. weight line.said + n) (same_weight entries (place_after entries place (code_line entries place line)) lines)

lines_within : (f : CodeLine → List ℕ) (lines : List CodeLine) → ((here : CodeLine) → length (f here) ≤ weight here.line.said)
    → length (flat_map f lines) ≤ code_weight lines
lines_within f [] each = omega arith
lines_within f (here ∷ lines) each =
    omega (arith, length-append (f here) (flat_map f lines), each here, lines_within f lines each)

line_within : (entries : List Entry) (target : Label → ℕ) (pc : Option ℕ) (said : Result AssemblerLine LineKind)
    → length (line_bytes entries target pc said) ≤ weight said
line_within entries target pc (Ok (operation said)) = operation_within entries target (unwrap_or pc 0) said
line_within entries target pc (Ok other) = omega arith
line_within entries target pc (Err kind) = omega arith

handler_within : (entries : List Entry) (target : Label → ℕ) (said : Result AssemblerLine LineKind)
    → length (handler_bytes entries target said) ≤ weight said
handler_within entries target (Ok (catch from to type_target type)) = omega arith
handler_within entries target (Ok other) = omega arith
handler_within entries target (Err kind) = omega arith

-- ---- frames

type_within : (entries : List Entry) (target : Label → ℕ) (type : FrameType) → length (type_bytes entries target type) ≤ 3
type_within entries target top_type = omega arith
type_within entries target int_type = omega arith
type_within entries target long_type = omega arith
type_within entries target null_type = omega arith
type_within entries target this_type = omega arith
type_within entries target (object_type name) = omega arith
type_within entries target (new_type label) = omega arith

types_within : (entries : List Entry) (target : Label → ℕ) (types : List FrameType)
    → length (types_bytes entries target types) ≤ 2 + length types * 3
types_within entries target types =
    omega (
      arith,
      length-append (u2 (length types)) (flat_map (type_bytes entries target) types),
      flat_within (type_bytes entries target) 3 types (type_within entries target),
    )

abbrev frames_weight : List FrameAt → ℕ
frames_weight [] = 0
frames_weight (here ∷ frames) = (16 + 8 * (length here.locals + length here.stack)) + frames_weight frames

frames_within : (entries : List Entry) (target : Label → ℕ) (before : Option ℕ) (frames : List FrameAt)
    → length (frames_bytes entries target before frames) ≤ frames_weight frames
unfolding frames_bytes
frames_within entries target before [] = omega arith
frames_within entries target before (here ∷ frames) =
    let delta = u2 (unwrap_or (offset_delta before here.pc) 0) in
    let locals = types_bytes entries target here.locals in
    let stack = types_bytes entries target here.stack in
    let others = frames_bytes entries target here.pc frames in
    omega (
      arith,
      length-append (delta ++ locals ++ stack) others,
      length-append (delta ++ locals) stack,
      length-append delta locals,
      types_within entries target here.locals,
      types_within entries target here.stack,
      frames_within entries target here.pc frames,
    )

frame_more : (here : CodeLine) (said : Result AssemblerLine LineKind) (frames : List FrameAt) (most : ℕ) → frames_weight frames ≤ most
    → frames_weight (cons_option (frame_of here said) frames) ≤ weight said + most
frame_more here (Ok (frame locals stack)) frames most less = omega arith
frame_more here (Ok other) frames most less = omega arith
frame_more here (Err kind) frames most less = omega arith

few_frames : (lines : List CodeLine) → frames_weight (frames_of lines) ≤ code_weight lines
unfolding frames_of
few_frames [] = omega arith
few_frames (here ∷ lines) =
    frame_more here here.line.said (filter_map (λ here. frame_of here here.line.said) lines) (code_weight lines) (few_frames lines)

maps_within : (entries : List Entry) (target : Label → ℕ) (frames : List FrameAt)
    → length (maps_bytes entries target frames) ≤ 10 + frames_weight frames
maps_within entries target [] = omega arith
maps_within entries target (first ∷ others) =
    let frames = first ∷ others in
    let name = u2 (index_in entries (text_entry (codes "StackMapTable"))) in
    let count = u4 (length (map_bytes entries target frames)) in
    omega (
      arith,
      length-append (u2 1 ++ name ++ count) (map_bytes entries target frames),
      length-append (u2 (length frames)) (frames_bytes entries target None frames),
      frames_within entries target None frames,
    )

-- ---- a method's code

with_within : (entries : List Entry) (target : Label → ℕ) (lines : List CodeLine)
    → length (bytes_with entries target lines (run_bytes entries target lines)) ≤ 16 + 3 * code_weight lines
with_within entries target lines =
    let run = run_bytes entries target lines in
    let count = u2 (length (filter_map number_of_catch lines)) in
    let handler = λ (here : CodeLine). handler_bytes entries target here.line.said in
    let handlers = flat_map handler lines in
    let maps = maps_bytes entries target (frames_of lines) in
    omega (
      arith,
      length-append (u4 (length run) ++ run ++ count ++ handlers) maps,
      length-append (u4 (length run) ++ run ++ count) handlers,
      length-append (u4 (length run) ++ run) count,
      length-append (u4 (length run)) run,
      lines_within (λ here. line_bytes entries target here.pc here.line.said) lines (λ here. line_within entries target here.pc here.line.said),
      lines_within handler lines (λ here. handler_within entries target here.line.said),
      maps_within entries target (frames_of lines),
      few_frames lines,
    )

-- its contents, by the lines that it comes of
pub code_within : (entries : List Entry) (stack locals : ℕ) (place : Place) (lines : List NumberedLine)
    → length (code_bytes entries stack locals (code_lines entries place lines)) ≤ 20 + 3 * block_weight lines
unfolding code_bytes
code_within entries stack locals place lines =
    let code = code_lines entries place lines in
    let target = target_in (labels_of code) in
    let rest = bytes_with entries target code (run_bytes entries target code) in
    omega (arith, length-append (u2 stack ++ u2 locals) rest, with_within entries target code, same_weight entries place lines)
