-- Where the lines of an assembler text may stand.
use Rattle.std.specs.Prelude.{ℕ, ◌+◌, List, [], ◌∷◌, ◌++◌, Bool, true, false, ◌&&◌, not, if◌then◌else◌, ◌==◌, nat_le, Option, Some, None, Result, Ok, codes, map}
use Rattle.jv_model.specs.Refusal.{LineKind, wrong_order, open_block}
use Rattle.jv_model.specs.Lines.{Line}
use Rattle.jv_model.specs.Profile.{has_code}
use Rattle.text_model.specs.LineFaults.{Fault, unless_true, where_true, at_line}
use Rattle.assembler_model.specs.Blocks.{Chunk, chunks_of}
use Rattle.assembler_model.specs.AssemblerTerms.{AssemblerLine, method}
use Rattle.assembler_model.specs.AssemblerLines.{LineForm, class_form, flags_form, implements_form, field_form, method_form, attribute_form, stack_form, end_form, line_form, NumberedLine, numbered, numbered_from}

-- A line that stands outside methods; and where it begins a method, the lines up to its `end`.
pub record Part : Type 0 where
  pub line : NumberedLine
  pub block : List NumberedLine
  pub is_closed : Bool

-- the line that ends a method
abbrev pub method_end : Option LineForm → Option (List ℕ)
method_end (Some method_form) = Some (codes "end")
method_end other = None

abbrev pub part_of : Chunk → Part
part_of chunk =
    record {
      line = numbered chunk.number chunk.line;
      block = numbered_from (chunk.number + 1) chunk.block;
      is_closed = chunk.is_closed;
    }

-- the parts of a text behind its first line
unfoldable pub parts_of : List Line → List Part
parts_of lines = map part_of (chunks_of (λ line. method_end (line_form line)) lines)

-- ---- outside methods: flags, implements, fields, methods, attributes, in this order

-- the place of a line in that order
abbrev pub place_of : LineForm → Option ℕ
place_of flags_form = Some 1
place_of implements_form = Some 2
place_of field_form = Some 3
place_of method_form = Some 4
place_of attribute_form = Some 5
place_of other = None

-- flags stand once
abbrev pub may_stand : ℕ → Option ℕ → Bool
may_stand reached None = false
may_stand reached (Some place) = if place == 1 then reached == 0 else nat_le reached place

-- a line whose first word is unknown is told by that
abbrev pub stands : ℕ → Option LineForm → Bool
stands reached None = true
stands reached (Some form) = may_stand reached (place_of form)

-- a place, where there is one
abbrev pub place_or : ℕ → Option ℕ → ℕ
place_or reached None = reached
place_or reached (Some place) = place

-- the place that a line leads to
abbrev pub reached_by : ℕ → Option LineForm → ℕ
reached_by reached None = reached
reached_by reached (Some form) = place_or reached (place_of form)

-- behind lines that reached that place
unfoldable pub outside_faults : ℕ → List Part → List Fault
outside_faults reached [] = []
outside_faults reached (part ∷ parts) =
    at_line part.line.number (unless_true (stands reached part.line.form) wrong_order)
    ++ outside_faults (reached_by reached part.line.form) parts

-- ---- inside a method

-- whether its flags ask for code
abbrev pub asks_code : Result AssemblerLine LineKind → Bool
asks_code (Ok (method flags name descriptor)) = has_code flags
asks_code other = false

-- the first line of its block: `stack` where it has code; else there is none but `end`
abbrev pub begins_method : Bool → Option LineForm → Bool
begins_method has_code None = true
begins_method has_code (Some stack_form) = has_code
begins_method has_code (Some end_form) = not has_code
begins_method has_code (Some other) = false

-- any other line of it
abbrev pub goes_on : Option LineForm → Bool
goes_on (Some class_form) = false
goes_on (Some flags_form) = false
goes_on (Some implements_form) = false
goes_on (Some field_form) = false
goes_on (Some method_form) = false
goes_on (Some attribute_form) = false
goes_on (Some stack_form) = false
goes_on other = true

-- A method that asks for code and has no line is told at its end.
abbrev pub block_faults : Part → List NumberedLine → List Fault
block_faults part [] =
    at_line (part.line.number + 1) (where_true (asks_code part.line.said && part.is_closed) wrong_order)
block_faults part (first ∷ rest) =
    at_line first.number (unless_true (begins_method (asks_code part.line.said) first.form) wrong_order)

-- A method without its end is told at the last line, which has this number.
abbrev pub part_faults : ℕ → Part → List Fault
part_faults last part = block_faults part part.block ++ at_line last (unless_true part.is_closed open_block)
