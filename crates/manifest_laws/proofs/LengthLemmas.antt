-- Blocks are no longer than the text that they are cut from.
use Rattle.std.proofs.Common.{◌≡◌, ℕ, ◌+◌, ◌≤◌, List, [], ◌∷◌, ◌++◌, Bool, true, false, Option, Some, None, Result, Ok, Err, drop, length, refl, subst, arith}
use Rattle.std.specs.Prelude.{◌==◌, ◌&&◌, All, IfSome, bytes_eq, filter_map, if◌then◌else◌}
use Rattle.std.specs.List.{AllByRecursion, cons_option, join_with_byte, slice_split}
use Rattle.std.proofs.lemmas.List.{length-append}
use Rattle.std.proofs.lemmas.List.Elements.{All-cons, All-nil, All-weaker}
use Rattle.std.proofs.lemmas.List.Splits.{join_with_byte-slice_split}
use Rattle.jv_model.specs.Fallible.{unless}
use Rattle.jv_model.specs.Lines.{Line, lines_from, lines_of}
use Rattle.jv_model.specs.Refusal.{LineKind}
use Rattle.text_model.specs.LineFaults.{first_fault}
use Rattle.assembler_model.specs.Blocks.{Chunk, Cut, block_text, cut, ended, opened_by, within}
use Rattle.manifest_model.specs.Items.{ItemForm, in_file, in_lines, of_file, of_lines}
use Rattle.manifest_model.specs.ManifestLines.{ManifestLine, brings_update, names_class, names_main, names_update}
use Rattle.manifest_model.specs.Manifest.{Manifest, ManifestItem, class_item, item_of, manifest_faults, manifest_of, manifest_said, read_line, statements, update_item}
use Rattle.manifest_laws.specs.Faults.{opens}
use Rattle.manifest_laws.specs.Laws.{BlockIsWithin, BlocksAreShorter, FormIsWithin}

-- how long lines are, each with a line feed
abbrev room : List Line → ℕ
room [] = 0
room (line ∷ lines) = (length line.bytes + 1) + room lines

room_is : (lines : List Line) → length (block_text lines) ≡ room lines
room_is [] = refl
room_is (line ∷ lines) =
    let whole = length-append (line.bytes ++ 10 ∷ []) (block_text lines) in
    omega (arith, whole, length-append line.bytes (10 ∷ []), room_is lines)

-- ---- the lines of a text

by_last : (last : List ℕ) (test : Bool)
    → room (if test then [] else record { bytes = last; is_ended = false } ∷ []) ≤ length last + 1
by_last last true = omega arith
by_last last false = omega arith

parts_room : (parts : List (List ℕ)) → room (lines_from parts) ≤ length (join_with_byte 10 parts) + 1
parts_room [] = omega arith
parts_room (last ∷ []) = by_last last (length last == 0)
parts_room (part ∷ next ∷ others) =
    omega (arith, length-append part (10 ∷ join_with_byte 10 (next ∷ others)), parts_room (next ∷ others))

-- only a text's last line can lack its line feed
lines_room : (text : List ℕ) → room (lines_of text) ≤ length text + 1
lines_room text =
    let fits = parts_room (slice_split (λ byte. byte == 10) text) in
    rw (join_with_byte-slice_split 10 text) at fits

behind_head : (lines : List Line) (most : ℕ) → room lines ≤ most + 1 → room (drop 1 lines) ≤ most
behind_head [] most fits = omega arith
behind_head (head ∷ lines) most fits = omega (arith, fits)

-- ---- blocks

record CutIsWithin (most : ℕ) (lines : List Line) (front : Cut) : Type 0 where
  block : room front.block ≤ room lines
  chunks : AllByRecursion (λ chunk. room chunk.block ≤ most) front.chunks

by_end : (most : ℕ) (test : Bool) (line : Line) (lines : List Line) (behind inside : Cut) → CutIsWithin most lines behind
    → CutIsWithin most lines inside → CutIsWithin most (line ∷ lines) (if test then ended behind else within line inside)
by_end most true line lines behind inside first second = record { block = omega arith; chunks = first.chunks }
by_end most false line lines behind inside first second =
    record { block = omega (arith, second.block); chunks = second.chunks }

opened : (most number : ℕ) (line : Line) (lines : List Line) (front : Cut) → room lines ≤ most
    → CutIsWithin most lines front → CutIsWithin most (line ∷ lines) (opened_by number line front)
opened most number line lines front fits is =
    let here : room front.block ≤ most = omega (arith, is.block) in
    record { block = omega arith; chunks = (here, is.chunks) }

cut_within : (most : ℕ) (opened_at : Line → Option (List ℕ)) (end : Option (List ℕ)) (number : ℕ) (lines : List Line)
    → room lines ≤ most → CutIsWithin most lines (cut opened_at end number lines)
unfolding cut
cut_within most opened_at None number [] fits = record { block = omega arith; chunks = tt }
cut_within most opened_at (Some end) number [] fits = record { block = omega arith; chunks = tt }
cut_within most opened_at None number (line ∷ lines) fits =
    let fewer : room lines ≤ most = omega arith in
    opened most number line lines (cut opened_at (opened_at line) (number + 1) lines) fewer
    (cut_within most opened_at (opened_at line) (number + 1) lines fewer)
cut_within most opened_at (Some end) number (line ∷ lines) fits =
    let fewer : room lines ≤ most = omega arith in
    by_end most (line.is_ended && bytes_eq line.bytes end) line lines (cut opened_at None (number + 1) lines)
    (cut opened_at (Some end) (number + 1) lines) (cut_within most opened_at None (number + 1) lines fewer)
    (cut_within most opened_at (Some end) (number + 1) lines fewer)

-- ---- items

item_within : (most : ℕ) (chunk : Chunk) (said : Result ManifestLine LineKind) → room chunk.block ≤ most
    → IfSome (item_of chunk said) (BlockIsWithin most)
item_within most chunk (Ok (names_main class)) fits = tt
item_within most chunk (Ok (names_class (of_file class file))) fits = tt
item_within most chunk (Ok (names_class (of_lines class))) fits = omega (arith, fits, room_is chunk.block)
item_within most chunk (Ok (names_update file when)) fits = tt
item_within most chunk (Ok (brings_update when)) fits = omega (arith, fits, room_is chunk.block)
item_within most chunk (Err kind) fits = tt

with_item : (most : ℕ) (item : Option ManifestItem) (items : List ManifestItem) → IfSome item (BlockIsWithin most)
    → All (BlockIsWithin most) items → All (BlockIsWithin most) (cons_option item items)
with_item most None items is all = all
with_item most (Some item) items is all = All-cons (BlockIsWithin most) item items is all

items_within : (most : ℕ) (chunks : List Chunk) → AllByRecursion (λ chunk. room chunk.block ≤ most) chunks
    → All (BlockIsWithin most) (filter_map (λ chunk. item_of chunk (read_line chunk.line)) chunks)
items_within most [] all = All-nil (BlockIsWithin most)
items_within most (chunk ∷ chunks) all =
    with_item most (item_of chunk (read_line chunk.line)) _ (item_within most chunk (read_line chunk.line) all.0)
    (items_within most chunks all.1)

-- ---- the whole

told_none : {A E : Type 0} (fault : Option E) (x y : A) → unless fault x ≡ Ok y → x ≡ y
told_none None x y is = cc
told_none (Some fault) x y is = absurd cc

pub blocks_are_shorter : BlocksAreShorter
unfolding manifest_of
blocks_are_shorter text manifest is =
    let lines = drop 1 (lines_of text) in
    let fits : room lines ≤ length text = behind_head (lines_of text) (length text) (lines_room text) in
    let said : manifest_said (statements lines) ≡ manifest =
    told_none (first_fault (manifest_faults (lines_of text))) (manifest_said (statements lines)) manifest is in
    subst (λ (manifest : Manifest). All (BlockIsWithin (length text)) manifest.items) said
    (items_within (length text) (statements lines) (cut_within (length text) opens None 2 lines fits).chunks)

form_longer : (few many : ℕ) → few ≤ many → (form : ItemForm) → FormIsWithin few form → FormIsWithin many form
form_longer few many less (in_file name) is = tt
form_longer few many less (in_lines text) is = omega (arith, is)

item_longer : (few many : ℕ) → few ≤ many → (item : ManifestItem) → BlockIsWithin few item → BlockIsWithin many item
item_longer few many less (class_item item) is = form_longer few many less item.form is
item_longer few many less (update_item item) is = form_longer few many less item.form is

-- what bounds the text bounds its blocks
pub blocks_are_within : (most : ℕ) (text : List ℕ) (manifest : Manifest) → manifest_of text ≡ Ok manifest
    → length text ≤ most → All (BlockIsWithin most) manifest.items
blocks_are_within most text manifest is fits =
    All-weaker (BlockIsWithin (length text)) (BlockIsWithin most) (item_longer (length text) most fits) manifest.items
    (blocks_are_shorter text manifest is)
