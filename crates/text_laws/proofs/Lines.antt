-- Texts cut into lines, and put together again.
use Rattle.std.proofs.Common.{◌≡◌, ℕ, ◌<◌, List, [], ◌∷◌, ◌++◌, true, false, length, refl, ap, ◌∙◌, append_assoc, arith}
use Rattle.std.specs.Prelude.{◌==◌, if◌then◌else◌}
use Rattle.std.specs.List.{All, slice_split, flat_map, join_with_byte}
use Rattle.std.proofs.lemmas.Bool.{ne_eqb}
use Rattle.std.proofs.lemmas.List.{append-nil}
use Rattle.std.proofs.lemmas.List.Splits.{slice_split_at, length-slice_split, join_with_byte-slice_split}
use Rattle.jv_model.specs.Lines.{Line, lines_from, lines_of}

lines_from-more : (part : List ℕ) (parts : List (List ℕ)) → 0 < length parts
    → lines_from (part ∷ parts) ≡ record { bytes = part; is_ended = true } ∷ lines_from parts
lines_from-more part [] some = absurd (omega arith)
lines_from-more part (next ∷ others) some = refl

-- a line stands first
pub lines_of-line : (line rest : List ℕ) → All (λ byte. (byte == 10) ≡ false) line
    → lines_of (line ++ 10 ∷ rest) ≡ record { bytes = line; is_ended = true } ∷ lines_of rest
lines_of-line line rest lacks =
    ap lines_from (slice_split_at (λ byte. byte == 10) line 10 rest lacks refl)
    ∙ lines_from-more line (slice_split (λ byte. byte == 10) rest) (omega (arith, length-slice_split (λ byte. byte == 10) rest))

-- the bytes of a line
abbrev pub bytes_of : Line → List ℕ
bytes_of line = if line.is_ended then line.bytes ++ 10 ∷ [] else line.bytes

last_part : (last : List ℕ) → flat_map bytes_of (lines_from (last ∷ [])) ≡ last
last_part [] = refl
last_part (byte ∷ last) =
    let some : (length (byte ∷ last) == 0) ≡ false = ne_eqb (length (byte ∷ last)) 0 (omega arith) in
    rw some (append-nil (byte ∷ last))

bytes_of-lines_from : (parts : List (List ℕ)) → 0 < length parts → flat_map bytes_of (lines_from parts) ≡ join_with_byte 10 parts
bytes_of-lines_from [] some = absurd (omega arith)
bytes_of-lines_from (last ∷ []) some = last_part last
bytes_of-lines_from (part ∷ next ∷ others) some =
    append_assoc part (10 ∷ []) (flat_map bytes_of (lines_from (next ∷ others)))
    ∙ ap (λ rest. part ++ 10 ∷ rest) (bytes_of-lines_from (next ∷ others) (omega arith))

-- the lines of a text are all of it
pub bytes_of-lines_of : (text : List ℕ) → flat_map bytes_of (lines_of text) ≡ text
bytes_of-lines_of text =
    bytes_of-lines_from (slice_split (λ byte. byte == 10) text) (omega (arith, length-slice_split (λ byte. byte == 10) text))
    ∙ join_with_byte-slice_split 10 text
