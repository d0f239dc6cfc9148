-- What manifests and bundles name: classes, each in a class file or as lines of an assembler text.
use Rattle.std.specs.Prelude.{ℕ, List, if◌then◌else◌, Result, Ok, Err}
use Rattle.jv_model.specs.Refusal.{LineKind, wrong_count}
use Rattle.jv_model.specs.Utf16.{units_of_utf8}
use Rattle.text_model.specs.Words.{are_words, word_at}

-- Where an item's contents are: in the file of this name, or in the lines of a block, as a text of
-- their own.
pub data ItemForm : Type 0 where
  in_file : List ℕ → ItemForm
  in_lines : List ℕ → ItemForm

-- A class that an item brings.
pub record ClassItem : Type 0 where
  -- the number of its line
  pub line : ℕ
  -- the class that is to be in it
  pub class : List ℕ
  pub form : ItemForm

-- What such a line says: the class, and the file where it names one.
pub data ClassLine : Type 0 where
  of_file : List ℕ → List ℕ → ClassLine
  of_lines : List ℕ → ClassLine

-- `class C FILE`
abbrev pub class_line : List (List ℕ) → Result ClassLine LineKind
class_line words =
    if are_words 3 words then Ok (of_file (units_of_utf8 (word_at words 1)) (word_at words 2))
    else Err wrong_count

-- `asm C`
abbrev pub asm_line : List (List ℕ) → Result ClassLine LineKind
asm_line words =
    if are_words 2 words then Ok (of_lines (units_of_utf8 (word_at words 1))) else Err wrong_count

-- the item of a line with this number, and with this text in its block
abbrev pub class_item_of : ℕ → ClassLine → List ℕ → ClassItem
class_item_of number (of_file class file) text =
    record { line = number; class = class; form = in_file file }
class_item_of number (of_lines class) text =
    record { line = number; class = class; form = in_lines text }

-- the class that a line names
abbrev pub class_of_line : ClassLine → List ℕ
class_of_line (of_file class file) = class
class_of_line (of_lines class) = class
