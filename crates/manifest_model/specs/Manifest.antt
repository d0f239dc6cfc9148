-- The text that names a program: its main class, its classes and its updates.
use Rattle.std.specs.Prelude.{ℕ, ◌+◌, List, [], ◌∷◌, ◌++◌, Bool, true, false, nat_lt, drop, Option, Some, None, Result, Ok, Err, filter_map, length, codes, bytes_eq, count_by, slice_get, unwrap_or}
use Rattle.jv_model.specs.Fallible.{unless}
use Rattle.jv_model.specs.Limits.{most_classes, most_updates}
use Rattle.jv_model.specs.Refusal.{LineKind, wrong_head, too_many, open_block, wrong_main}
use Rattle.jv_model.specs.Lines.{Line, lines_of, words_of}
use Rattle.jv_model.specs.Updates.{When}
use Rattle.text_model.specs.LineFaults.{Fault, first_fault, unless_true, where_true, at_line, text_faults}
use Rattle.assembler_model.specs.Blocks.{Chunk, chunks_of, block_text}
use Rattle.manifest_model.specs.Items.{ItemForm, ClassItem, in_file, in_lines, of_lines, class_item_of}
use Rattle.manifest_model.specs.ManifestLines.{ManifestLine, brings_update, manifest_line_of, names_class, names_main, names_update}

-- An update that an item brings.
pub record UpdateItem : Type 0 where
  pub line : ℕ
  pub when : When
  pub form : ItemForm

pub data ManifestItem : Type 0 where
  class_item : ClassItem → ManifestItem
  update_item : UpdateItem → ManifestItem

-- What a manifest says.
pub record Manifest : Type 0 where
  -- the main class
  pub main : List ℕ
  -- numbered from 1 in the order of their lines
  pub items : List ManifestItem

-- what a line says by itself
abbrev pub read_line : Line → Result ManifestLine LineKind
read_line line = manifest_line_of (words_of line.bytes)

-- the line that ends the block that a line opens
abbrev pub block_end : Result ManifestLine LineKind → Option (List ℕ)
block_end (Ok (names_class (of_lines class))) = Some (codes ".end")
block_end (Ok (brings_update when)) = Some (codes ".done")
block_end other = None

-- the statements behind the first line
abbrev pub statements : List Line → List Chunk
statements lines = chunks_of (λ line. block_end (read_line line)) lines

abbrev pub is_main : Result ManifestLine LineKind → Bool
is_main (Ok (names_main class)) = true
is_main other = false

abbrev pub is_class : Result ManifestLine LineKind → Bool
is_class (Ok (names_class line)) = true
is_class other = false

abbrev pub is_update : Result ManifestLine LineKind → Bool
is_update (Ok (names_update file when)) = true
is_update (Ok (brings_update when)) = true
is_update other = false

-- what is wrong with a line, behind lines that say this
abbrev pub line_faults : List (Result ManifestLine LineKind) → Result ManifestLine LineKind → List LineKind
line_faults before (Err kind) = kind ∷ []
line_faults before (Ok (names_main class)) =
    where_true (nat_lt 0 (count_by is_main before)) wrong_main
line_faults before (Ok (names_class line)) =
    unless_true (nat_lt (count_by is_class before) most_classes) too_many
line_faults before (Ok other) =
    unless_true (nat_lt (count_by is_update before) most_updates) too_many

-- A block without an end is told at the last line, which has this number.
unfoldable pub statement_faults : ℕ → List (Result ManifestLine LineKind) → List Chunk
    → List Fault
statement_faults last before [] =
    at_line last (unless_true (nat_lt 0 (count_by is_main before)) wrong_main)
statement_faults last before (chunk ∷ chunks) =
    at_line chunk.number (line_faults before (read_line chunk.line)) ++ at_line last
    (unless_true chunk.is_closed open_block)
    ++ statement_faults last (before ++ read_line chunk.line ∷ []) chunks

-- all faults of a text
abbrev pub manifest_faults : List Line → List Fault
manifest_faults [] = (1, wrong_head) ∷ []
manifest_faults (head ∷ lines) =
    text_faults 1 (head ∷ lines)
    ++ at_line 1 (unless_true (bytes_eq head.bytes (codes "jvolve 1")) wrong_head)
    ++ statement_faults (length lines + 1) [] (statements lines)

-- the main class that a line names
abbrev pub main_of : Result ManifestLine LineKind → Option (List ℕ)
main_of (Ok (names_main class)) = Some class
main_of other = None

-- an update with its time and its contents
abbrev pub update_of_chunk : Chunk → When → ItemForm → ManifestItem
update_of_chunk chunk when form =
    update_item (record { line = chunk.number; when = when; form = form })

-- the item that a statement brings
abbrev pub item_of : Chunk → Result ManifestLine LineKind → Option ManifestItem
item_of chunk (Ok (names_class line)) =
    Some (class_item (class_item_of chunk.number line (block_text chunk.block)))
item_of chunk (Ok (names_update file when)) = Some (update_of_chunk chunk when (in_file file))
item_of chunk (Ok (brings_update when)) =
    Some (update_of_chunk chunk when (in_lines (block_text chunk.block)))
item_of chunk other = None

-- what statements without a fault say together
abbrev pub manifest_said : List Chunk → Manifest
manifest_said chunks =
    record {
      main =
          unwrap_or (slice_get (filter_map (λ chunk. main_of (read_line chunk.line)) chunks) 0) [];
      items = filter_map (λ chunk. item_of chunk (read_line chunk.line)) chunks;
    }

-- and its lines
abbrev pub manifest_of_lines : List Line → Result Manifest Fault
manifest_of_lines lines =
    unless (first_fault (manifest_faults lines)) (manifest_said (statements (drop 1 lines)))

-- what a manifest's text says, or its first fault
unfoldable pub manifest_of : List ℕ → Result Manifest Fault
manifest_of text = manifest_of_lines (lines_of text)
