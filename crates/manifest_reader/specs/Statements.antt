-- Statements of a manifest, and what the lines before one have brought.
use Rattle.std.specs.Prelude.{◌≡◌, ℕ, ◌+◌, List, [], ◌∷◌, ◌++◌, true, nat_lt, Option, Some, None, Result, Ok, Err, MatchResult, count_by, filter_map, is_some, length, map, option_map, option_to_list, slice_get, unwrap_or}
use Rattle.jv_model.specs.Refusal as refusals
use Rattle.jv_model.specs.Lines.{Line, lines_of}
use Rattle.text_model.specs.LineFaults.{first_fault, is_text}
use Rattle.assembler_model.specs.Blocks.{Chunk}
use Rattle.manifest_model.specs.ManifestLines as lines
use Rattle.manifest_model.specs.Manifest as model
use Rattle.manifest_laws.specs.Faults.{chunks_from, faults_from}
use Rattle.jv_types.specs.declared.refusal.LineKind.{LineKind}
use Rattle.jv_types.specs.Refusal.{line_kind_of}
use Rattle.asm_lines.specs.declared.error.ReadError.{ReadError}
use Rattle.asm_lines.specs.declared.error.ReadError.TheVariants as read_errors
use Rattle.asm_parts.specs.Faults.{fault_of}
use Rattle.manifest_reader.specs.declared.error.ManifestError.{ManifestError}
use Rattle.manifest_reader.specs.declared.error.ManifestError.TheVariants as errors
use Rattle.manifest_reader.specs.declared.seen.Seen.{Seen}
use Rattle.manifest_reader.specs.declared.statement.Admitted.{Admitted}
use Rattle.manifest_reader.specs.declared.statement.Statement.{Statement}
use Rattle.manifest_reader.specs.declared.manifest.Manifest.{Manifest}
use Rattle.manifest_reader.specs.Items.{item_of, line_of, name_of}

-- what a line says by itself, or the kind of its least fault
abbrev pub Reading : Type 0
Reading = Result lines.ManifestLine refusals.LineKind

-- ---- what lines have brought

-- the main class, where a line named one
abbrev pub mains : Seen → List (List ℕ)
mains seen = option_to_list (option_map name_of seen.main)

pub record IsSeen (before : List Reading) (seen : Seen) : Type 0 where
  pub has_main : is_some seen.main ≡ nat_lt 0 (count_by model.is_main before)
  pub classes : seen.classes ≡ count_by model.is_class before
  pub updates : seen.updates ≡ count_by model.is_update before

-- Behind the lines before it the line isn't faulty, and brings what it says.
pub record IsSeenWith (before : List Reading) (seen next : Seen) (line : lines.ManifestLine)
    : Type 0 where
  pub no_fault : model.line_faults before (Ok line) ≡ []
  pub seen_are : IsSeen (before ++ Ok line ∷ []) next
  pub mains_are : mains next ≡ mains seen ++ option_to_list (model.main_of (Ok line))

-- The line goes with the lines before it, or is the one fault that it has behind them.
abbrev pub SeesLine : Seen → lines.ManifestLine → Result Seen LineKind → Type 0
SeesLine seen line result =
    (before : List Reading) → IsSeen before seen
    → MatchResult result (λ next. IsSeenWith before seen next line)
    (λ kind. model.line_faults before (Ok line) ≡ line_kind_of kind ∷ [])

-- ---- lines

-- Whatever stands behind the line, it's told by this kind, if it has that number and the text ends
-- at the last one.
abbrev pub IsToldAt : List Reading → Line → refusals.LineKind → Type 0
IsToldAt before line kind =
    (number last : ℕ) (rest : List Line) → last ≡ number + length rest
    → first_fault (faults_from last before number (line ∷ rest)) ≡ Some (number, kind)

pub record IsAdmitted (before : List Reading) (seen : Seen) (line : Line) (admitted : Admitted)
    : Type 0 where
  pub is_text : is_text line ≡ true
  pub said_is : model.read_line line ≡ Ok (line_of admitted.said)
  pub with_it : IsSeenWith before seen admitted.seen (line_of admitted.said)

abbrev pub AdmitsBehind : List Reading → Seen → Line → Result Admitted ReadError → Type 0
AdmitsBehind before seen line (Ok admitted) = IsAdmitted before seen line admitted
AdmitsBehind before seen line (Err (read_errors.Line kind)) =
    IsToldAt before line (line_kind_of kind)
AdmitsBehind before seen line (Err read_errors.NoMemory) = Unit {0}

-- The line isn't faulty behind the lines before it, or its fault is told.
abbrev pub Admits : Seen → Line → Result Admitted ReadError → Type 0
Admits seen line result =
    (before : List Reading) → IsSeen before seen → AdmitsBehind before seen line result

-- ---- statements

-- the main class that a statement names
abbrev pub main_said : Chunk → Option (List ℕ)
main_said chunk = model.main_of (model.read_line chunk.line)

-- the item that it brings
abbrev pub item_said : Chunk → Option model.ManifestItem
item_said chunk = model.item_of chunk (model.read_line chunk.line)

-- what these lines, numbered from that one on, say, behind the ones before
pub record IsStatement (end : ℕ) (before : List Reading) (seen : Seen) (last : ℕ) (text : List ℕ)
    (statement : Statement) : Type 0 where
  pub line : lines.ManifestLine
  pub seen_are : IsSeen (before ++ Ok line ∷ []) statement.seen
  pub faults_are :
      first_fault (faults_from end before (last + 1) (lines_of text))
      ≡ first_fault
      (faults_from end (before ++ Ok line ∷ []) (statement.last + 1) (lines_of statement.left.now))
  pub mains_are :
      mains seen ++ filter_map main_said (chunks_from (last + 1) (lines_of text))
      ≡ mains statement.seen
      ++ filter_map main_said (chunks_from (statement.last + 1) (lines_of statement.left.now))
  pub items_are :
      filter_map item_said (chunks_from (last + 1) (lines_of text))
      ≡ option_to_list (option_map item_of statement.item)
      ++ filter_map item_said (chunks_from (statement.last + 1) (lines_of statement.left.now))
  pub end_is : statement.last + length (lines_of statement.left.now) ≡ end

abbrev pub ReadsBehind : ℕ → List Reading → Seen → ℕ → List ℕ → Result Statement ManifestError
    → Type 0
ReadsBehind end before seen last text (Ok statement) =
    IsStatement end before seen last text statement
ReadsBehind end before seen last text (Err (errors.Line fault)) =
    first_fault (faults_from end before (last + 1) (lines_of text)) ≡ Some (fault_of fault)
ReadsBehind end before seen last text (Err errors.NoMemory) = Unit {0}

-- It is the first of the statements of a text, or their first fault is told.
abbrev pub ReadsStatement : Seen → ℕ → List ℕ → Result Statement ManifestError → Type 0
ReadsStatement seen last text result =
    (before : List Reading) → IsSeen before seen
    → ReadsBehind (last + length (lines_of text)) before seen last text result

-- ---- the whole

abbrev pub manifest_view : Manifest → model.Manifest
manifest_view manifest =
    record { main = name_of manifest.main; items = map item_of manifest.items.items }

-- what is wrong with the lines behind the first
abbrev pub behind_fault : List Line → Option (ℕ × refusals.LineKind)
behind_fault lines = first_fault (faults_from (length lines + 1) [] 2 lines)

-- It is what the lines behind the first say, or their first fault.
abbrev pub ReadsLines : List Line → Result Manifest ManifestError → Type 0
ReadsLines lines (Ok manifest) =
    (behind_fault lines ≡ None)
    × (manifest_view manifest ≡ model.manifest_said (chunks_from 2 lines))
ReadsLines lines (Err (errors.Line fault)) = behind_fault lines ≡ Some (fault_of fault)
ReadsLines lines (Err errors.NoMemory) = Unit {0}

-- It is what a manifest's text says, or its first fault, unless memory ran out.
abbrev pub TellsManifest : Result Manifest ManifestError
    → Result model.Manifest (ℕ × refusals.LineKind) → Type 0
TellsManifest (Ok manifest) read = read ≡ Ok (manifest_view manifest)
TellsManifest (Err (errors.Line fault)) read = read ≡ Err (fault_of fault)
TellsManifest (Err errors.NoMemory) read = Unit {0}
