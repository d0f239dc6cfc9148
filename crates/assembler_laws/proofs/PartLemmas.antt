-- What the lines of a text's parts say fits a class file.
use Rattle.std.proofs.Common.{◌≡◌, ℕ, ◌+◌, List, [], ◌∷◌, true}
use Rattle.std.specs.Prelude.{IfOk}
use Rattle.std.specs.List.{AllByRecursion}
use Rattle.jv_model.specs.Lines.{Line}
use Rattle.assembler_model.specs.Blocks.{Chunk, chunks_of}
use Rattle.assembler_model.specs.AssemblerLines.{NumberedLine, line_form, numbered, numbered_from}
use Rattle.assembler_model.specs.AssemblerOrder.{Part, method_end, part_of, parts_of}
use Rattle.assembler_laws.proofs.LineLemmas.{line_right}
use Rattle.assembler_laws.proofs.ListLemmas.{all_any, all_map}
use Rattle.assembler_laws.proofs.MethodLemmas.{form_right}
use Rattle.assembler_laws.proofs.SaidLemmas.{line_fits}
use Rattle.assembler_laws.proofs.TermLemmas.{FitsLine}

-- a line says what its form is for, and what it says fits
pub record FitsNumbered (line : NumberedLine) : Type 0 where
  pub form : form_right line.form line.said ≡ true
  pub said : IfOk line.said FitsLine

pub record FitsPart (part : Part) : Type 0 where
  pub line : FitsNumbered part.line
  pub block : AllByRecursion FitsNumbered part.block

numbered_fits : (number : ℕ) (line : Line) → FitsNumbered (numbered number line)
numbered_fits number line = record { form = line_right line; said = line_fits line }

block_fits : (number : ℕ) (lines : List Line) → AllByRecursion FitsNumbered (numbered_from number lines)
unfolding numbered_from
block_fits number [] = tt
block_fits number (line ∷ lines) = (numbered_fits number line, block_fits (number + 1) lines)

part_fits : (chunk : Chunk) → FitsPart (part_of chunk)
part_fits chunk =
    record { line = numbered_fits chunk.number chunk.line; block = block_fits (chunk.number + 1) chunk.block }

pub parts_fit : (lines : List Line) → AllByRecursion FitsPart (parts_of lines)
unfolding parts_of
parts_fit lines =
    all_map FitsPart part_of (chunks_of (λ line. method_end (line_form line)) lines)
    (all_any (λ chunk. FitsPart (part_of chunk)) (chunks_of (λ line. method_end (line_form line)) lines) part_fits)
