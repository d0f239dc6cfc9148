-- A text, and the lines that it is cut into.
use Rattle.std.proofs.Common.{◌≡◌, ℕ, List, [], ◌∷◌, ◌++◌, Bool, true, false, length, refl, ap, sym, ◌∙◌, append_assoc, arith}
use Rattle.std.specs.Prelude.{◌==◌, if◌then◌else◌}
use Rattle.std.specs.List.{join_with_byte, slice_split}
use Rattle.std.proofs.lemmas.Bool.{eqb-true}
use Rattle.std.proofs.lemmas.List.{append-nil}
use Rattle.std.proofs.lemmas.List.Splits.{join_with_byte-slice_split}
use Rattle.jv_model.specs.Lines.{Line, lines_from, lines_of}

-- a line with its line feed, where it has one
abbrev pub whole_line : Line → List ℕ
whole_line line = line.bytes ++ (if line.is_ended then 10 ∷ [] else [])

abbrev pub whole_text : List Line → List ℕ
whole_text [] = []
whole_text (line ∷ lines) = whole_line line ++ whole_text lines

last_by : (last : List ℕ) (test : Bool) → (length last == 0) ≡ test
    → whole_text (if test then [] else record { bytes = last; is_ended = false } ∷ []) ≡ last
last_by [] true is = refl
last_by (byte ∷ last) true is = let none : length (byte ∷ last) ≡ 0 = eqb-true (length (byte ∷ last)) 0 is in absurd (omega arith)
last_by last false is = append-nil (last ++ []) ∙ append-nil last

from_parts : (parts : List (List ℕ)) → whole_text (lines_from parts) ≡ join_with_byte 10 parts
from_parts [] = refl
from_parts (last ∷ []) = last_by last (length last == 0) refl
from_parts (part ∷ next ∷ others) =
    append_assoc part (10 ∷ []) (whole_text (lines_from (next ∷ others)))
    ∙ ap (λ rest. part ++ 10 ∷ rest) (from_parts (next ∷ others))

-- the lines of a text are all of it
pub whole_lines : (text : List ℕ) → whole_text (lines_of text) ≡ text
whole_lines text = from_parts (slice_split (λ byte. byte == 10) text) ∙ join_with_byte-slice_split 10 text

-- what stands behind a line that is ended
pub text_behind_line : (text : List ℕ) (line : Line) (left : List ℕ) → line.is_ended ≡ true
    → lines_of text ≡ line ∷ lines_of left → text ≡ (line.bytes ++ 10 ∷ []) ++ left
text_behind_line text line left ended is =
    sym (whole_lines text) ∙ ap whole_text is ∙ rw (ended, whole_lines left)
