-- The lengths of what a text assembles to are no greater than it has room for.
use Rattle.std.proofs.Common.{◌≡◌, ℕ, ◌+◌, ◌*◌, ◌^◌, ◌<◌, ◌≤◌, List, [], ◌∷◌, ◌++◌, Bool, true, false, drop, Option, Some, None, Result, Ok, Err, length, subst, arith}
use Rattle.std.specs.Prelude.{◌&&◌, IfOk, IfSome, bytes_eq, if◌then◌else◌}
use Rattle.std.specs.List.{AllByRecursion}
use Rattle.jv_model.specs.ClassData.{ClassData}
use Rattle.jv_model.specs.Limits.{most_file_bytes}
use Rattle.jv_model.specs.Lines.{Line, lines_of, words_of}
use Rattle.jv_model.specs.Profile.{IsU4}
use Rattle.jv_model.specs.Refusal.{LineKind}
use Rattle.jv_model.specs.Utf16.{units_of_utf8}
use Rattle.text_model.specs.LineFaults.{first_fault}
use Rattle.text_model.specs.Words.{word_at}
use Rattle.assembler_model.specs.AssemblerTerms.{AssemblerLine, ConstantText, attribute, field, method, stack_is}
use Rattle.assembler_model.specs.AssemblerLines.{NumberedLine, line_form, line_said, numbered_from}
use Rattle.assembler_model.specs.AssemblerOrder.{Part, method_end, part_of, parts_of}
use Rattle.assembler_model.specs.AssembledClass.{assembled, assembled_lines, attribute_of, class_said, code_attribute, code_attributes, code_of, faults_behind_head, field_of, head_faults, method_of, value_attributes}
use Rattle.assembler_model.specs.Blocks.{Chunk, Cut, chunks_of, cut, ended, opened_by, within}
use Rattle.assembler_model.specs.CodeBytes.{code_bytes}
use Rattle.assembler_model.specs.CodeLines.{at_start}
use Rattle.assembler_model.specs.PoolEntries.{Entry}
use Rattle.assembler_model.specs.PoolNeeds.{all_needs}
use Rattle.assembler_model.specs.AssemblerPool.{entries_of}
use Rattle.assembler_laws.specs.Laws.{FitsNumbers, HaveLengths}
use Rattle.assembler_laws.proofs.FaultLemmas.{none_told}
use Rattle.assembler_laws.proofs.ItemLemmas.{ItemsWithin, line_within}
use Rattle.assembler_laws.proofs.ListLemmas.{all_map, all_some, all_weaker}
use Rattle.assembler_laws.proofs.RoomLemmas.{lines_room, lines_within, room_of}
use Rattle.assembler_laws.proofs.SizeLemmas.{block_weight, code_within, weight}

-- ---- blocks

-- a line, and the block that it opens
abbrev ChunkWithin : ℕ → Chunk → Type 0
ChunkWithin most chunk = (room_of chunk.line ≤ most) × (lines_room chunk.block ≤ most)

record CutWithin (most : ℕ) (lines : List Line) (front : Cut) : Type 0 where
  block : lines_room front.block ≤ lines_room lines
  chunks : AllByRecursion (ChunkWithin most) front.chunks

by_end : (most number : ℕ) (test : Bool) (line : Line) (lines : List Line) (first second : Cut) → CutWithin most lines first
    → CutWithin most lines second → CutWithin most (line ∷ lines) (if test then ended first else within line second)
by_end most number true line lines first second one other = record { block = omega arith; chunks = one.chunks }
by_end most number false line lines first second one other = record { block = omega (arith, other.block); chunks = other.chunks }

opened : (most number : ℕ) (line : Line) (lines : List Line) (front : Cut) → room_of line + lines_room lines ≤ most
    → CutWithin most lines front → CutWithin most (line ∷ lines) (opened_by number line front)
opened most number line lines front fits is =
    let here : ChunkWithin most (record { number = number; line = line; block = front.block; is_closed = front.is_closed }) =
    let own : room_of line ≤ most = omega arith in
    let block : lines_room front.block ≤ most = omega (arith, is.block) in
    (own, block) in
    record { block = omega arith; chunks = (here, is.chunks) }

-- blocks are no longer than the lines that they are cut from
blocks_are_shorter : (most : ℕ) (opens : Line → Option (List ℕ)) (end : Option (List ℕ)) (number : ℕ) (lines : List Line)
    → lines_room lines ≤ most → CutWithin most lines (cut opens end number lines)
unfolding cut
blocks_are_shorter most opens None number [] fits = record { block = omega arith; chunks = tt }
blocks_are_shorter most opens (Some end) number [] fits = record { block = omega arith; chunks = tt }
blocks_are_shorter most opens None number (line ∷ lines) fits =
    let fewer : lines_room lines ≤ most = omega arith in
    opened most number line lines (cut opens (opens line) (number + 1) lines) fits
    (blocks_are_shorter most opens (opens line) (number + 1) lines fewer)
blocks_are_shorter most opens (Some end) number (line ∷ lines) fits =
    let fewer : lines_room lines ≤ most = omega arith in
    by_end most number (line.is_ended && bytes_eq line.bytes end) line lines (cut opens None (number + 1) lines)
    (cut opens (Some end) (number + 1) lines) (blocks_are_shorter most opens None (number + 1) lines fewer)
    (blocks_are_shorter most opens (Some end) (number + 1) lines fewer)

-- ---- parts

line_weight : (said : Result AssemblerLine LineKind) (room : ℕ) → 1 ≤ room → IfOk said (ItemsWithin (2 * room))
    → weight said ≤ 32 * room
line_weight (Ok said) room some is = omega arith
line_weight (Err kind) room some is = omega arith

lines_weight : (number : ℕ) (lines : List Line) → block_weight (numbered_from number lines) ≤ 32 * lines_room lines
unfolding numbered_from
lines_weight number [] = omega arith
lines_weight number (line ∷ lines) =
    let some : 1 ≤ room_of line = omega arith in
    omega (arith, line_weight (line_said line) (room_of line) some (line_within line), lines_weight (number + 1) lines)

-- what a part says has room in so much text
record PartWithin (most : ℕ) (part : Part) : Type 0 where
  line : IfOk part.line.said (ItemsWithin (2 * most))
  block : block_weight part.block ≤ 32 * most

more_items : (said : Result AssemblerLine LineKind) (few many : ℕ) → few ≤ many → IfOk said (ItemsWithin (2 * few))
    → IfOk said (ItemsWithin (2 * many))
more_items (Ok said) few many less is = omega arith
more_items (Err kind) few many less is = tt

part_within : (most : ℕ) (chunk : Chunk) → ChunkWithin most chunk → PartWithin most (part_of chunk)
part_within most chunk is = record {
  line = more_items (line_said chunk.line) (room_of chunk.line) most is.0 (line_within chunk.line);
  block = omega (arith, lines_weight (chunk.number + 1) chunk.block, is.1);
}

parts_within : (most : ℕ) (lines : List Line) → lines_room lines ≤ most → AllByRecursion (PartWithin most) (parts_of lines)
unfolding parts_of
parts_within most lines fits =
    let opens = λ (line : Line). method_end (line_form line) in
    all_map (PartWithin most) part_of (chunks_of opens lines)
    (all_weaker (ChunkWithin most) (λ chunk. PartWithin most (part_of chunk)) (chunks_of opens lines) (part_within most)
    (blocks_are_shorter most opens None 2 lines fits).chunks)

-- ---- the lengths of attributes

-- the room of a text's lines, where the text is no longer than a file may be
abbrev most_room : ℕ
most_room = most_file_bytes + 1

value_short : (entries : List Entry) (value : Option ConstantText) → HaveLengths (value_attributes entries value)
value_short entries None = tt
value_short entries (Some constant) = let two : 2 < 2 ^ 32 = omega arith in (two, tt)

field_short : (entries : List Entry) (said : Result AssemblerLine LineKind)
    → IfSome (field_of entries said) (λ field. HaveLengths field.attributes)
field_short entries (Ok (field flags name descriptor value)) = value_short entries value
field_short entries other = tt

drop_weight : (block : List NumberedLine) → block_weight (drop 1 block) ≤ block_weight block
drop_weight [] = omega arith
drop_weight (first ∷ rest) = omega arith

code_short : (entries : List Entry) (part : Part) (said : Result AssemblerLine LineKind) → block_weight part.block ≤ 32 * most_room
    → HaveLengths (code_attribute entries part said)
code_short entries part (Ok (stack_is stack locals)) is =
    let short : length (code_bytes entries stack locals (code_of entries part)) < 2 ^ 32 =
    omega (arith, code_within entries stack locals at_start (drop 1 part.block), drop_weight part.block) in
    (short, tt)
code_short entries part other is = tt

codes_short : (entries : List Entry) (part : Part) (block : List NumberedLine) → block_weight part.block ≤ 32 * most_room
    → HaveLengths (code_attributes entries part block)
codes_short entries part [] is = tt
codes_short entries part (first ∷ rest) is = code_short entries part first.said is

method_short : (entries : List Entry) (part : Part) (said : Result AssemblerLine LineKind) → block_weight part.block ≤ 32 * most_room
    → IfSome (method_of entries part said) (λ method. HaveLengths method.attributes)
method_short entries part (Ok (method flags name descriptor)) is = codes_short entries part part.block is
method_short entries part other is = tt

attribute_short : (entries : List Entry) (said : Result AssemblerLine LineKind) → IfOk said (ItemsWithin (2 * most_room))
    → IfSome (attribute_of entries said) (λ attribute. IsU4 (length attribute.bytes))
attribute_short entries (Ok (attribute name bytes)) is = omega arith
attribute_short entries other is = tt

-- ---- the class

class_fits : (this super : List ℕ) (parts : List Part) (entries : List Entry) → AllByRecursion (PartWithin most_room) parts
    → FitsNumbers (class_said this super parts entries)
class_fits this super parts entries short = record {
  fields = all_some (PartWithin most_room) (λ field. HaveLengths field.attributes) (λ part. field_of entries part.line.said) parts
      short (λ part is. field_short entries part.line.said);
  methods = all_some (PartWithin most_room) (λ method. HaveLengths method.attributes)
      (λ part. method_of entries part part.line.said) parts short
      (λ part is. method_short entries part part.line.said is.block);
  attributes = all_some (PartWithin most_room) (λ attribute. IsU4 (length attribute.bytes))
      (λ part. attribute_of entries part.line.said) parts short
      (λ part is. attribute_short entries part.line.said is.line);
}

by_lines : (lines : List Line) (class : ClassData) → assembled_lines lines ≡ Ok class → lines_room lines ≤ most_room
    → FitsNumbers class
by_lines [] class is fits = absurd cc
by_lines (head ∷ lines) class is fits =
    let this = units_of_utf8 (word_at (words_of head.bytes) 1) in
    let super = units_of_utf8 (word_at (words_of head.bytes) 3) in
    let parts = parts_of lines in
    let entries = entries_of (all_needs this super parts) in
    let faults = faults_behind_head (length lines + 1) this super parts entries in
    let told = none_told (first_fault (head_faults head ++ faults)) (class_said this super parts entries) class is in
    let rest : lines_room lines ≤ most_room = omega arith in
    subst FitsNumbers told.1 (class_fits this super parts entries (parts_within most_room lines rest))

-- the lengths of what a text assembles to can be written, where the text is no longer than a file may be
pub numbers_fit : (text : List ℕ) (class : ClassData) → assembled text ≡ Ok class → length text ≤ most_file_bytes → FitsNumbers class
unfolding assembled
numbers_fit text class is fits =
    let room : lines_room (lines_of text) ≤ most_room = omega (arith, lines_within text) in
    by_lines (lines_of text) class is room
