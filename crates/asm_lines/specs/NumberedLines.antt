-- Lines with their numbers as the definitions see them.
use Rattle.std.specs.Prelude.{ℕ, List, Result}
use Rattle.jv_model.specs.Refusal as refusals
use Rattle.jv_model.specs.Lines.{words_of}
use Rattle.text_model.specs.Words.{word_at}
use Rattle.assembler_model.specs.AssemblerTerms as terms
use Rattle.assembler_model.specs.AssemblerLines as model
use Rattle.asm_lines.specs.Terms.{line_of}
use Rattle.asm_lines.specs.Told.{told}
use Rattle.asm_lines.specs.LineForms.{form_if_any}
use Rattle.asm_lines.specs.declared.numbered_line.NumberedLine.{NumberedLine}

-- what a line says, or the kind of its least fault
abbrev pub said_of : NumberedLine → Result terms.AssemblerLine refusals.LineKind
said_of line = told line_of line.said

abbrev pub numbered_of : NumberedLine → model.NumberedLine
numbered_of line = record { number = line.number; form = form_if_any line.form; said = said_of line }

-- a line of text
abbrev pub numbered_text : ℕ → List ℕ → model.NumberedLine
numbered_text number text = record {
  number = number;
  form = model.form_of (word_at (words_of text) 0);
  said = model.read_words (model.form_of (word_at (words_of text) 0)) (words_of text);
}
