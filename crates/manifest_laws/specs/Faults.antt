-- What is wrong with the lines of a manifest that stand in no block opened before them.
use Rattle.std.specs.Prelude.{ℕ, List, ◌++◌, Option, None, Result}
use Rattle.jv_model.specs.Lines.{Line}
use Rattle.jv_model.specs.Refusal.{LineKind}
use Rattle.text_model.specs.LineFaults.{Fault, text_faults}
use Rattle.assembler_model.specs.Blocks.{Chunk, cut}
use Rattle.manifest_model.specs.ManifestLines.{ManifestLine}
use Rattle.manifest_model.specs.Manifest.{block_end, read_line, statement_faults}

-- the line that ends the block that a line opens
abbrev pub opens : Line → Option (List ℕ)
opens line = block_end (read_line line)

-- the statements of these lines, the first of which has that number
abbrev pub chunks_from : ℕ → List Line → List Chunk
chunks_from number lines = (cut opens None number lines).chunks

-- what is wrong with them, behind lines that say this, up to the text's last line
abbrev pub faults_from : ℕ → List (Result ManifestLine LineKind) → ℕ → List Line → List Fault
faults_from last before number lines =
    text_faults number lines ++ statement_faults last before (chunks_from number lines)
