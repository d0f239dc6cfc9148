-- The block that a line opens, or none.
use Rattle.std.specs.Prelude.{◌≡◌, ℕ, List, [], Option, Some, None, Result, MatchResult}
use Rattle.asm_parts.specs.declared.first_fault.LineFault.{LineFault}
use Rattle.asm_lines.specs.declared.error.ReadError.{ReadError}
use Rattle.asm_lines.specs.declared.error.ReadError.TheVariants as read_errors
use Rattle.manifest_reader.specs.declared.error.ManifestError.{ManifestError}
use Rattle.manifest_reader.specs.declared.error.ManifestError.TheVariants as errors
use Rattle.manifest_reader.specs.declared.block.Block.{Block}
use Rattle.manifest_reader.specs.Blocks.{CutsBlock}

-- no lines, and all of the text is left
pub record IsNoBlock (number : ℕ) (text : List ℕ) (block : Block) : Type 0 where
  pub text_is : block.text.now ≡ []
  pub last_is : block.last ≡ number
  pub left_is : block.left.now ≡ text

abbrev pub OpensBlock : Option (List ℕ) → ℕ → List ℕ → Result Block LineFault → Type 0
OpensBlock (Some end) number text result = CutsBlock end number text result
OpensBlock None number text result = MatchResult result (IsNoBlock number text) (λ fault. ⊥)

-- the error of a line with this number
abbrev pub error_at : ℕ → ReadError → ManifestError
error_at number (read_errors.Line kind) = errors.Line (record { line = number; kind = kind })
error_at number read_errors.NoMemory = errors.NoMemory
