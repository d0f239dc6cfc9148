-- The class that an assembler text describes, or its first fault.
use Rattle.std.specs.Prelude.{ℕ, ◌+◌, List, [], ◌∷◌, ◌++◌, Bool, ◌&&◌, Option, Some, None, unwrap_or, Result, Ok, Err, filter_map, flat_map, length, codes, slice_get, drop}
use Rattle.jv_model.specs.Fallible.{unless}
use Rattle.jv_model.specs.Refusal.{LineKind, not_text, wrong_head}
use Rattle.jv_model.specs.Lines.{Line, lines_of, words_of}
use Rattle.jv_model.specs.Utf16.{units_of_utf8}
use Rattle.jv_model.specs.ClassData.{Attr, Member, ClassData}
use Rattle.jv_model.specs.ClassBytes.{u2}
use Rattle.text_model.specs.LineFaults.{Fault, first_fault, unless_true, at_line, is_text}
use Rattle.text_model.specs.Words.{says, are_words, word_at}
use Rattle.assembler_model.specs.AssemblerTerms.{ConstantText, AssemblerLine, flags_are, implements, field, method, stack_is, attribute}
use Rattle.assembler_model.specs.AssemblerLines.{NumberedLine}
use Rattle.assembler_model.specs.AssemblerOrder.{Part, parts_of, outside_faults, part_faults}
use Rattle.assembler_model.specs.PoolEntries.{Entry, text_entry, class_entry}
use Rattle.assembler_model.specs.PoolNeeds.{constant_entry, all_needs}
use Rattle.assembler_model.specs.AssemblerPool.{entries_of, index_in, pool_of, pool_faults}
use Rattle.assembler_model.specs.CodeLines.{CodeLine, at_start, code_lines}
use Rattle.assembler_model.specs.CodeFaults.{code_faults}
use Rattle.assembler_model.specs.CodeBytes.{code_bytes}

-- ---- faults

-- `class NAME extends NAME`
abbrev pub is_head : List (List ℕ) → Bool
is_head words = are_words 4 words && says (word_at words 0) "class" && says (word_at words 2) "extends"

-- the first line
abbrev pub head_faults : Line → List Fault
head_faults line =
    at_line 1 (unless_true (is_text line) not_text ++ unless_true (is_head (words_of line.bytes)) wrong_head)

-- a line that stands outside methods, by itself
abbrev pub said_faults_of : NumberedLine → Result AssemblerLine LineKind → List Fault
said_faults_of line (Err kind) = at_line line.number (kind ∷ [])
said_faults_of line (Ok said) = []

-- the lines behind a method's first line
abbrev pub code_of : List Entry → Part → List CodeLine
code_of entries part = code_lines entries at_start (drop 1 part.block)

-- the first line of a method's block by itself
abbrev pub begin_faults : List NumberedLine → List Fault
begin_faults [] = []
begin_faults (first ∷ rest) = said_faults_of first first.said

-- a line outside methods, with the method that it begins
abbrev pub faults_of_part : List Entry → ℕ → Part → List Fault
faults_of_part entries last part =
    said_faults_of part.line part.line.said ++ part_faults last part ++ begin_faults part.block
    ++ code_faults (code_of entries part)

-- all faults behind the first line
abbrev pub faults_behind_head : ℕ → List ℕ → List ℕ → List Part → List Entry → List Fault
faults_behind_head last this super parts entries =
    outside_faults 0 parts ++ pool_faults entries (all_needs this super parts)
    ++ flat_map (faults_of_part entries last) parts

-- ---- the class

-- the flags that a line tells
abbrev pub flags_of : Result AssemblerLine LineKind → Option ℕ
flags_of (Ok (flags_are flags)) = Some flags
flags_of other = None

-- public and super (JVMS 4.1)
abbrev pub default_flags : ℕ
default_flags = 33

-- the interface that a line names
abbrev pub interface_of : List Entry → Result AssemblerLine LineKind → Option ℕ
interface_of entries (Ok (implements name)) = Some (index_in entries (class_entry name))
interface_of entries other = None

-- a field's constant value (JVMS 4.7.2)
abbrev pub value_attributes : List Entry → Option ConstantText → List Attr
value_attributes entries None = []
value_attributes entries (Some constant) =
    record {
      name = index_in entries (text_entry (codes "ConstantValue"));
      bytes = u2 (index_in entries (constant_entry constant));
    } ∷ []

-- a field or a method
abbrev pub member : List Entry → ℕ → List ℕ → List ℕ → List Attr → Member
member entries flags name descriptor attributes =
    record {
      flags = flags;
      name = index_in entries (text_entry name);
      descriptor = index_in entries (text_entry descriptor);
      attributes = attributes;
    }

-- the field that a line names
abbrev pub field_of : List Entry → Result AssemblerLine LineKind → Option Member
field_of entries (Ok (field flags name descriptor value)) =
    Some (member entries flags name descriptor (value_attributes entries value))
field_of entries other = None

-- a method's code, where its block begins with `stack`
abbrev pub code_attribute : List Entry → Part → Result AssemblerLine LineKind → List Attr
code_attribute entries part (Ok (stack_is stack locals)) =
    record {
      name = index_in entries (text_entry (codes "Code"));
      bytes = code_bytes entries stack locals (code_of entries part);
    } ∷ []
code_attribute entries part other = []

-- a method with an empty block has none
abbrev pub code_attributes : List Entry → Part → List NumberedLine → List Attr
code_attributes entries part [] = []
code_attributes entries part (first ∷ rest) = code_attribute entries part first.said

-- the method that a line begins
abbrev pub method_of : List Entry → Part → Result AssemblerLine LineKind → Option Member
method_of entries part (Ok (method flags name descriptor)) =
    Some (member entries flags name descriptor (code_attributes entries part part.block))
method_of entries part other = None

-- the attribute that a line names
abbrev pub attribute_of : List Entry → Result AssemblerLine LineKind → Option Attr
attribute_of entries (Ok (attribute name bytes)) =
    Some (record { name = index_in entries (text_entry name); bytes = bytes })
attribute_of entries other = None

-- what lines outside methods say of one kind, in order
abbrev pub all_of : {A : Type 0} → (Part → Result AssemblerLine LineKind → Option A) → List Part → List A
all_of said parts = filter_map (λ part. said part part.line.said) parts

-- of Java SE 8
abbrev pub class_said : List ℕ → List ℕ → List Part → List Entry → ClassData
class_said this super parts entries =
    record {
      minor = 0;
      major = 52;
      pool = pool_of entries;
      flags = unwrap_or (slice_get (all_of (λ part. flags_of) parts) 0) default_flags;
      this_class = index_in entries (class_entry this);
      super_class = index_in entries (class_entry super);
      interfaces = all_of (λ part. interface_of entries) parts;
      fields = all_of (λ part. field_of entries) parts;
      methods = all_of (method_of entries) parts;
      attributes = all_of (λ part. attribute_of entries) parts;
    }

-- the class, unless there is a fault
abbrev pub class_unless : List ℕ → List ℕ → List Fault → ℕ → List Part → List Entry → Result ClassData Fault
class_unless this super faults last parts entries =
    unless (first_fault (faults ++ faults_behind_head last this super parts entries))
    (class_said this super parts entries)

-- of a class with these names, and these faults in its first line
abbrev pub class_of_parts : List ℕ → List ℕ → List Fault → ℕ → List Part → Result ClassData Fault
class_of_parts this super faults last parts =
    class_unless this super faults last parts (entries_of (all_needs this super parts))

-- of an assembler text's lines
abbrev pub assembled_lines : List Line → Result ClassData Fault
assembled_lines [] = Err (1, wrong_head)
assembled_lines (head ∷ lines) =
    class_of_parts (units_of_utf8 (word_at (words_of head.bytes) 1))
    (units_of_utf8 (word_at (words_of head.bytes) 3)) (head_faults head)
    (length lines + 1) (parts_of lines)

-- what an assembler text assembles to, or its first fault
unfoldable pub assembled : List ℕ → Result ClassData Fault
assembled text = assembled_lines (lines_of text)
