-- Blocks of a text, by the line that ends them.
use Rattle.std.specs.Prelude.{ℕ, List, [], ◌∷◌, ◌++◌, ◌&&◌, Bool, if◌then◌else◌, bytes_eq}
use Rattle.std.specs.List.{list_any}
use Rattle.jv_model.specs.Lines.{Line}
use Rattle.jv_model.specs.Refusal.{open_block}
use Rattle.text_model.specs.LineFaults.{Fault, at_line, text_faults, unless_true}

-- a line that a line feed ends has these bytes
abbrev pub is_line : List ℕ → Line → Bool
is_line end line = line.is_ended && bytes_eq line.bytes end

-- some line ends the block
abbrev pub has_end : List ℕ → List Line → Bool
has_end end lines = list_any (is_line end) lines

-- the lines of a block: those before the first that ends it, or all
abbrev pub lines_before : List ℕ → List Line → List Line
lines_before end [] = []
lines_before end (line ∷ lines) = if is_line end line then [] else line ∷ lines_before end lines

-- what stands behind the line that ends it
abbrev pub lines_behind : List ℕ → List Line → List Line
lines_behind end [] = []
lines_behind end (line ∷ lines) = if is_line end line then lines else lines_behind end lines

-- What is wrong with a block, whose first line has that number: lines that are no text, and at the
-- text's last line that none ends it.
abbrev pub block_faults : List ℕ → ℕ → ℕ → List Line → List Fault
block_faults end last number lines =
    text_faults number (lines_before end lines)
    ++ at_line last (unless_true (has_end end lines) open_block)
