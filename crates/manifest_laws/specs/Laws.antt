-- The laws of what is told of a manifest, and of its blocks.
use Rattle.std.specs.Prelude.{◌≡◌, ℕ, ◌+◌, ◌≤◌, List, All, Option, Some, None, Ok, length}
use Rattle.jv_model.specs.Lines.{Line}
use Rattle.text_model.specs.LineFaults.{Fault, IsFirstFault, first_fault}
use Rattle.assembler_model.specs.Blocks.{Cut, cut}
use Rattle.manifest_model.specs.Items.{ItemForm, in_file, in_lines}
use Rattle.manifest_model.specs.Manifest.{Manifest, ManifestItem, class_item, manifest_of, update_item}
use Rattle.manifest_laws.specs.Blocks.{has_end, lines_before, lines_behind}

-- The fault that is told of a list is one of them, and none of them is before it: it is a fault of
-- the first faulty line, whatever the order in which they were found.
abbrev pub FirstFaultIsTold : Type 0
FirstFaultIsTold = (faults : List Fault) → IsFirstFault faults (first_fault faults)

-- what stands behind a block whose first line has that number
abbrev pub behind_block : (Line → Option (List ℕ)) → List ℕ → ℕ → List Line → Cut
behind_block opens end number lines =
    cut opens None (number + length (lines_before end lines) + 1) (lines_behind end lines)

-- A block is the lines before the first that ends it, and statements go on behind that one.
abbrev pub BlocksAreCut : Type 0
BlocksAreCut =
    (opens : Line → Option (List ℕ)) (end : List ℕ) (number : ℕ) (lines : List Line)
    → cut opens (Some end) number lines
    ≡ record {
      block = lines_before end lines;
      is_closed = has_end end lines;
      chunks = (behind_block opens end number lines).chunks;
    }

-- contents in lines have at most so many bytes
abbrev pub FormIsWithin : ℕ → ItemForm → Type 0
FormIsWithin most (in_file name) = Unit {0}
FormIsWithin most (in_lines text) = length text ≤ most

-- the block of an item, where it has one, does
abbrev pub BlockIsWithin : ℕ → ManifestItem → Type 0
BlockIsWithin most (class_item item) = FormIsWithin most item.form
BlockIsWithin most (update_item item) = FormIsWithin most item.form

-- No block of a manifest is longer than the whole text.
abbrev pub BlocksAreShorter : Type 0
BlocksAreShorter =
    (text : List ℕ) (manifest : Manifest) → manifest_of text ≡ Ok manifest
    → All (BlockIsWithin (length text)) manifest.items
