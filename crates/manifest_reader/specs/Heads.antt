-- The first line of a manifest.
use Rattle.std.specs.Prelude.{◌≡◌, ℕ, ◌<◌, List, [], ◌∷◌, Option, Some, None, if◌then◌else◌, bytes_eq, codes, length, option_map}
use Rattle.jv_model.specs.Lines.{Line, lines_of}
use Rattle.jv_model.specs.Refusal.{LineKind, not_text, wrong_head}
use Rattle.text_model.specs.LineFaults.{Fault, is_text}
use Rattle.asm_parts.specs.Faults.{fault_of}
use Rattle.manifest_reader.specs.declared.error.ManifestError.{ManifestError}
use Rattle.manifest_reader.specs.declared.error.ManifestError.TheVariants as errors

-- what is wrong with it
abbrev pub head_kind : Line → Option LineKind
head_kind head =
    if is_text head then (if bytes_eq head.bytes (codes "jvolve 1") then None else Some wrong_head)
    else Some not_text

-- what is wrong with the first line of a text
abbrev pub head_fault : List Line → Option Fault
head_fault [] = Some (1, wrong_head)
head_fault (head ∷ lines) = option_map (λ kind. (1, kind)) (head_kind head)

-- These bytes stand behind the first line, which is right.
pub record IsBehindHead (text behind : List ℕ) : Type 0 where
  pub head : Line
  pub lines_are : lines_of text ≡ head ∷ lines_of behind
  pub is_right : head_kind head ≡ None
  pub shorter : length behind < length text

-- the fault that an error tells
abbrev pub fault_told : ManifestError → Option Fault
fault_told (errors.Line fault) = Some (fault_of fault)
fault_told errors.NoMemory = None
