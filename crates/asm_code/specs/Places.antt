-- Lines of code at their places, as the definitions see them.
use Rattle.std.specs.Prelude.{◌≡◌, ℕ, List, [], ◌∷◌, ◌++◌, Bool, true, false, Option, Some, None, map, bytes_eq}
use Rattle.std.specs.List.{list_any}
use Rattle.jv_model.specs.Refusal as refusals
use Rattle.jv_model.specs.Refusal.{wrong_order}
use Rattle.jv_types.specs.Refusal.{line_kind_of}
use Rattle.jv_types.specs.declared.refusal.LineKind.{LineKind}
use Rattle.text_model.specs.LineFaults.{where_true}
use Rattle.assembler_model.specs.AssemblerTerms.{Label}
use Rattle.assembler_model.specs.CodeLines as model
use Rattle.asm_lines.specs.NumberedLines.{numbered_of}
use Rattle.asm_code.specs.declared.code_line.CodeLine.{CodeLine}
use Rattle.asm_code.specs.declared.code_line.Place.{Place}

abbrev pub kinds_if_any : Option LineKind → List refusals.LineKind
kinds_if_any None = []
kinds_if_any (Some kind) = line_kind_of kind ∷ []

abbrev pub code_line_of : CodeLine → model.CodeLine
code_line_of here = record {
  line = numbered_of here.line.now;
  pc = here.pc;
  faults = where_true here.is_out_of_order wrong_order ++ kinds_if_any here.fault;
}

abbrev pub lines_of : List CodeLine → List model.CodeLine
lines_of lines = map code_line_of lines

-- of the labels that stand twice, a table keeps one
abbrev pub place_of : Place → model.Place
place_of place = record {
  pc = place.pc;
  framed = place.framed;
  labels = map (λ entry. entry.0.now) place.labels.entries;
}

-- Two places with the same labels, in whatever order and however often.
pub record SamePlace (place other : model.Place) : Type 0 where
  pub pc : place.pc ≡ other.pc
  pub framed : place.framed ≡ other.framed
  pub labels : (label : Label) → list_any (bytes_eq label) place.labels ≡ list_any (bytes_eq label) other.labels

-- a place whose pc is unknown, where the test holds
abbrev pub place_unless : Bool → model.Place → model.Place
place_unless true place = record place { pc = None }
place_unless false place = place
