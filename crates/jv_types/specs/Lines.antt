-- Lines and words as the definitions see them.
use Rattle.std.specs.Prelude.{ℕ, List, [], Option, Some, None}
use Rattle.std.specs.Borrow.{Bor}
use Rattle.jv_types.specs.declared.lines.Line.{Line}
use Rattle.jv_model.specs.Lines as model

abbrev pub line_view : Line → model.Line
line_view line = record { bytes = line.bytes.now; is_ended = line.is_ended }

-- the words behind the first one
abbrev pub operand_words : Option (Bor (List ℕ)) → List (List ℕ)
operand_words None = []
operand_words (Some text) = model.words_of text.now
