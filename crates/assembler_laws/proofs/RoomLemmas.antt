-- How much room lines and words take in a text.
use Rattle.std.proofs.Common.{◌≡◌, ℕ, zero, suc, ◌+◌, ◌≤◌, List, [], ◌∷◌, Bool, true, false, cond, length, refl, arith}
use Rattle.std.specs.Prelude.{◌==◌, if◌then◌else◌}
use Rattle.std.specs.List.{onto_first, slice_split}
use Rattle.jv_model.specs.Lines.{Line, lines_from, lines_of, words_of}
use Rattle.text_model.specs.Words.{word_at}

-- parts of a list, each with what cuts it off
abbrev pub room : {A : Type 0} → List (List A) → ℕ
room [] = 0
room (part ∷ parts) = (length part + 1) + room parts

onto_room : {A : Type 0} (x : A) (parts : List (List A)) (n : ℕ) → room parts ≡ n + 1 → room (onto_first x parts) ≡ n + 2
onto_room x [] n is = absurd (omega arith)
onto_room x (part ∷ parts) n is = omega arith

by_split : {A : Type 0} (test : Bool) (x : A) (parts : List (List A)) (n : ℕ) → room parts ≡ n + 1
    → room (cond test ([] ∷ parts) (onto_first x parts)) ≡ n + 2
by_split true x parts n is = omega arith
by_split false x parts n is = onto_room x parts n is

pub split_room : {A : Type 0} (p : A → Bool) (xs : List A) → room (slice_split p xs) ≡ length xs + 1
split_room p [] = refl
split_room p (x ∷ xs) =
    let more = by_split (p x) x (slice_split p xs) (length xs) (split_room p xs) in
    omega (arith, more)

pub parts_within : {A : Type 0} (parts : List (List A)) → length parts ≤ room parts
parts_within [] = omega arith
parts_within (part ∷ parts) = omega (arith, parts_within parts)

pub part_within : (parts : List (List ℕ)) (k : ℕ) → length (word_at parts k) ≤ room parts
part_within [] k = omega arith
part_within (part ∷ parts) zero = omega arith
part_within (part ∷ parts) (suc k) = omega (arith, part_within parts k)

-- ---- lines

abbrev pub room_of : Line → ℕ
room_of line = length line.bytes + 1

abbrev pub lines_room : List Line → ℕ
lines_room [] = 0
lines_room (line ∷ lines) = room_of line + lines_room lines

by_last : (last : List ℕ) (test : Bool)
    → lines_room (if test then [] else record { bytes = last; is_ended = false } ∷ []) ≤ length last + 1
by_last last true = omega arith
by_last last false = omega arith

parts_room : (parts : List (List ℕ)) → lines_room (lines_from parts) ≤ room parts
parts_room [] = omega arith
parts_room (last ∷ []) = let less = by_last last (length last == 0) in omega (arith, less)
parts_room (part ∷ next ∷ others) = omega (arith, parts_room (next ∷ others))

-- the lines of a text take no more room than it, but for a line feed at its end
pub lines_within : (text : List ℕ) → lines_room (lines_of text) ≤ length text + 1
lines_within text =
    omega (arith, parts_room (slice_split (λ byte. byte == 10) text), split_room (λ byte. byte == 10) text)

-- the words of a line take as much as it
pub words_room : (line : Line) → room (words_of line.bytes) ≡ room_of line
words_room line = split_room (λ byte. byte == 32) line.bytes
