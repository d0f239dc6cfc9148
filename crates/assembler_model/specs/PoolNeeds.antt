-- Which entries of the constant pool an assembler text needs, in order.
use Rattle.std.specs.Prelude.{ℕ, List, [], ◌∷◌, ◌++◌, Option, Some, None, Result, Ok, flat_map, map, codes}
use Rattle.jv_model.specs.Refusal.{LineKind}
use Rattle.assembler_model.specs.AssemblerTerms.{ConstantText, of_int, of_long, of_string, Operation, of_member, of_class, load_constant, load_long, FrameType, object_type, AssemblerLine, implements, field, method, stack_is, frame, catch, operation, attribute}
use Rattle.assembler_model.specs.AssemblerLines.{NumberedLine}
use Rattle.assembler_model.specs.AssemblerOrder.{Part}
use Rattle.assembler_model.specs.PoolEntries.{Entry, class_entry, int_entry, long_entry, member_entry, string_entry, text_entry}

-- An entry, and the number of the line that needs it.
pub record Need : Type 0 where
  pub line : ℕ
  pub entry : Entry

-- what the line with this number needs
abbrev pub needs_at : ℕ → List Entry → List Need
needs_at number entries = map (λ entry. record { line = number; entry = entry }) entries

-- the entry of a constant
abbrev pub constant_entry : ConstantText → Entry
constant_entry (of_int value) = int_entry value
constant_entry (of_long value) = long_entry value
constant_entry (of_string text) = string_entry text

-- what an instruction names
abbrev pub operation_entries : Operation → List Entry
operation_entries (of_member opcode kind reference) = member_entry kind reference ∷ []
operation_entries (of_class opcode name) = class_entry name ∷ []
operation_entries (load_constant constant) = constant_entry constant ∷ []
operation_entries (load_long value) = long_entry value ∷ []
operation_entries other = []

-- what a field's constant value needs
abbrev pub value_entries : Option ConstantText → List Entry
value_entries None = []
value_entries (Some constant) = text_entry (codes "ConstantValue") ∷ constant_entry constant ∷ []

-- what a line needs where it stands, frames and handlers apart
abbrev pub line_entries : Result AssemblerLine LineKind → List Entry
line_entries (Ok (implements name)) = class_entry name ∷ []
line_entries (Ok (field flags name descriptor value)) = text_entry name ∷ text_entry descriptor ∷ value_entries value
line_entries (Ok (method flags name descriptor)) = text_entry name ∷ text_entry descriptor ∷ []
line_entries (Ok (stack_is stack locals)) = text_entry (codes "Code") ∷ []
line_entries (Ok (operation said)) = operation_entries said
line_entries (Ok (attribute name bytes)) = text_entry name ∷ []
line_entries other = []

-- what a handler needs
abbrev pub caught_entries : Result AssemblerLine LineKind → List Entry
caught_entries (Ok (catch from to target (Some name))) = class_entry name ∷ []
caught_entries other = []

-- what a type of a frame needs
abbrev pub type_entries : FrameType → List Entry
type_entries (object_type name) = class_entry name ∷ []
type_entries other = []

-- what a frame needs
abbrev pub frame_entries : Result AssemblerLine LineKind → List Entry
frame_entries (Ok (frame locals stack)) =
    text_entry (codes "StackMapTable") ∷ flat_map type_entries locals ++ flat_map type_entries stack
frame_entries other = []

-- what lines need, of one sort
abbrev pub needs_by : (Result AssemblerLine LineKind → List Entry) → List NumberedLine → List Need
needs_by entries lines = flat_map (λ line. needs_at line.number (entries line.said)) lines

-- a method's code, then its handlers, then its frames
abbrev pub part_needs : Part → List Need
part_needs part =
    needs_by line_entries (part.line ∷ part.block) ++ needs_by caught_entries part.block
    ++ needs_by frame_entries part.block

-- this class and its superclass, and what the lines behind the first need
abbrev pub all_needs : List ℕ → List ℕ → List Part → List Need
all_needs this super parts = needs_at 1 (class_entry this ∷ class_entry super ∷ []) ++ flat_map part_needs parts
