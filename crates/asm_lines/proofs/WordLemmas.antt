-- Words, and the text that they were cut from.
use Rattle.std.proofs.Common.{◌≡◌, ℕ, ◌+◌, ◌≤◌, ◌<◌, List, [], ◌∷◌, ◌++◌, Bool, true, false, not, cond, eqb, ltb, Some, None, position, length, take, drop, refl, ap, sym, ◌∙◌, arith}
use Rattle.std.specs.Prelude.{◌==◌, if◌then◌else◌}
use Rattle.std.specs.List.{slice_split, onto_first, position_or_len, before_first, after_first}
use Rattle.std.proofs.lemmas.List.Splits.{length-slice_split}
use Rattle.std.specs.Str.{IsUtf8, is_utf8}
use Rattle.std.proofs.lemmas.Str.{IsUtf8-from_is_utf8}
use Rattle.std.proofs.lemmas.Bool.{eqb-true, ltb-true, ltb-false}
use Rattle.std.proofs.lemmas.List.Sums.{prefix_len-le-length}
use Rattle.jv_types.proofs.WordLemmas.{words_of_first, words_of_only}
use Rattle.std.proofs.lemmas.List.{length-drop, drop-drop, drop_all}
use Rattle.text_model.specs.Words.{text_behind, word_at}
use Rattle.jv_model.specs.Lines.{spaced, words_of}

spaced-none : (words : List (List ℕ)) → 0 < length words → spaced ([] ∷ words) ≡ 32 ∷ spaced words
spaced-none [] some = absurd (omega arith)
spaced-none (word ∷ words) some = refl

spaced-onto : (byte : ℕ) (words : List (List ℕ)) → 0 < length words → spaced (onto_first byte words) ≡ byte ∷ spaced words
spaced-onto byte [] some = absurd (omega arith)
spaced-onto byte (word ∷ []) some = refl
spaced-onto byte (word ∷ next ∷ others) some = refl

by_byte : (byte : ℕ) (text : List ℕ) (test : Bool) → (byte == 32) ≡ test → 0 < length (words_of text) → spaced (words_of text) ≡ text
    → spaced (if test then [] ∷ words_of text else onto_first byte (words_of text)) ≡ byte ∷ text
by_byte byte text true is some rest =
    let space : byte ≡ 32 = eqb-true byte 32 is in
    rw space (spaced-none (words_of text) some ∙ ap (λ text. 32 ∷ text) rest)
by_byte byte text false is some rest = spaced-onto byte (words_of text) some ∙ ap (λ text. byte ∷ text) rest

-- the words of a text, with a space between each two, are the text
pub spaced_words : (text : List ℕ) → spaced (words_of text) ≡ text
spaced_words [] = refl
spaced_words (byte ∷ text) =
    by_byte byte text (byte == 32) refl (omega (arith, length-slice_split (λ byte. byte == 32) text)) (spaced_words text)

-- behind so many words
pub behind_all : (line left : List ℕ) (place count : ℕ) → place ≡ count → drop place (words_of line) ≡ words_of left
    → left ≡ text_behind count (words_of line)
behind_all line left place count same is = sym (spaced_words left) ∙ ap spaced (sym is ∙ ap (λ n. drop n (words_of line)) same)

none_left : (words : List (List ℕ)) (word : List ℕ) (place count : ℕ) → place < count → drop place words ≡ word ∷ [] → drop count words ≡ []
none_left words word place count more is =
    let long : length words ≤ count = omega (arith, length-drop place words, ap length is) in
    drop_all count words long

-- behind more words than there are
pub behind_none : (line left word : List ℕ) (place count : ℕ) → place < count → drop place (words_of line) ≡ words_of left
    → words_of left ≡ word ∷ [] → [] ≡ text_behind count (words_of line)
behind_none line left word place count more is only = sym (ap spaced (none_left (words_of line) word place count more (is ∙ only)))

drop-one-more : (words : List (List ℕ)) (place : ℕ) → drop (place + 1) words ≡ drop 1 (drop place words)
drop-one-more words place = sym (drop-drop 1 place words)

-- one word more
pub behind_more : (line left next word : List ℕ) (place : ℕ) → drop place (words_of line) ≡ words_of left
    → words_of left ≡ word ∷ words_of next → drop (place + 1) (words_of line) ≡ words_of next
behind_more line left next word place is first =
    drop-one-more (words_of line) place ∙ ap (drop 1) (is ∙ first)

-- ---- texts

not_true : (test : Bool) → (test ≡ true → ⊥) → test ≡ false
not_true true never = absurd (never refl)
not_true false never = refl

-- bytes that aren't UTF-8 don't pass the test
pub is_utf8-not : (bytes : List ℕ) → (IsUtf8 bytes → ⊥) → is_utf8 bytes ≡ false
is_utf8-not bytes never = not_true (is_utf8 bytes) (λ is. never (IsUtf8-from_is_utf8 bytes is))

-- ---- the first word

abbrev is_space : ℕ → Bool
is_space byte = eqb byte 32

place_cases : (test : Bool) (place end : ℕ) → Some end ≡ cond test (Some place) None → (test ≡ true) × (place ≡ end)
place_cases true place end is = (refl, cc)
place_cases false place end is = absurd cc

none_cases : (test : Bool) (place : ℕ) → None ≡ cond test (Some place) None → test ≡ false
none_cases true place is = absurd cc
none_cases false place is = refl

-- what stands before the first space
pub first_word-some : (line : List ℕ) (end : ℕ) → Some end ≡ position is_space line → take end line ≡ word_at (words_of line) 0
first_word-some line end is =
    let at = place_cases (ltb (position_or_len is_space line) (length line)) (position_or_len is_space line) end is in
    rw (words_of_first line (before_first is_space line) (after_first is_space line) (ltb-true _ _ at.0) refl refl)
    (ap (λ n. take n line) (sym at.1))

-- no space
pub first_word-none : (line : List ℕ) → None ≡ position is_space line → line ≡ word_at (words_of line) 0
first_word-none line is =
    let far : length line ≤ position_or_len is_space line =
    ltb-false _ _ (none_cases (ltb (position_or_len is_space line) (length line)) (position_or_len is_space line) is) in
    let all : position_or_len is_space line ≡ length line = omega (arith, prefix_len-le-length (λ byte. not (eqb byte 32)) line) in
    rw (words_of_only line all)
