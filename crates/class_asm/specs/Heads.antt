-- The first line of a text.
use Rattle.std.specs.Prelude.{◌≡◌, ℕ, List, ◌∷◌, true}
use Rattle.jv_model.specs.Lines.{Line, lines_of, words_of}
use Rattle.text_model.specs.LineFaults.{is_text}
use Rattle.text_model.specs.Words.{word_at}
use Rattle.assembler_model.specs.AssembledClass.{is_head}
use Rattle.class_asm.specs.declared.head.Head.{Head}
use Rattle.class_asm.specs.declared.head.Names.{Names}

-- These words are those of a first line with these names.
pub record SaysNames (words : List (List ℕ)) (names : Names) : Type 0 where
  pub is_right : is_head words ≡ true
  pub this : word_at words 1 ≡ names.this.now
  pub super_class : word_at words 3 ≡ names.super_class.now

-- A text begins with a line that is right, and other lines stand behind it.
pub record BeginsText (text : List ℕ) (head : Head) : Type 0 where
  pub line : Line
  pub lines_are : lines_of text ≡ line ∷ lines_of head.behind.now
  pub is_read : is_text line ≡ true
  pub names : SaysNames (words_of line.bytes) head.names
