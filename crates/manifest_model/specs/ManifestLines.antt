-- The lines of a manifest behind its first, each by itself.
use Rattle.std.specs.Prelude.{ℕ, List, [], ◌∷◌, not, if◌then◌else◌, ◌||◌, Result, Ok, Err, codes}
use Rattle.jv_model.specs.Fallible.{◌>>=◌}
use Rattle.jv_model.specs.Limits.{most_request_step}
use Rattle.jv_model.specs.Refusal.{LineKind, unknown_word, wrong_order, wrong_count}
use Rattle.jv_model.specs.Utf16.{units_of_utf8}
use Rattle.jv_model.specs.Updates.{When, at_step, on_call}
use Rattle.text_model.specs.Words.{says, are_words, word_at, is_one_of, provided}
use Rattle.text_model.specs.Numerals.{natural_in}
use Rattle.manifest_model.specs.Items.{ClassLine, class_line, asm_line}

-- What a line behind the first says.
pub data ManifestLine : Type 0 where
  -- `main C`
  names_main : List ℕ → ManifestLine
  -- `class C FILE`, `asm C`
  names_class : ClassLine → ManifestLine
  -- `update FILE` with its time
  names_update : List ℕ → When → ManifestLine
  -- `update here` with its time
  brings_update : When → ManifestLine

-- `main C`
abbrev pub main_line : List (List ℕ) → Result ManifestLine LineKind
main_line words =
    if are_words 2 words then Ok (names_main (units_of_utf8 (word_at words 1))) else Err wrong_count

-- a line that names a class, among the lines of manifests
abbrev pub class_named : Result ClassLine LineKind → Result ManifestLine LineKind
class_named read = read >>= λ line. Ok (names_class line)

-- an update's time, of the words that have the right form: `at N`, `on call`
abbrev pub when_read : List (List ℕ) → Result When LineKind
when_read words =
    if says (word_at words 2) "on" then Ok on_call
    else natural_in 0 most_request_step (word_at words 3) >>= λ step. Ok (at_step step)

-- what an update line says with that time
abbrev pub update_of : List (List ℕ) → When → ManifestLine
update_of words when =
    if says (word_at words 1) "here" then brings_update when
    else names_update (word_at words 1) when

-- `update FILE at N`, `update FILE on call`, and `here` in place of the file
abbrev pub update_line : List (List ℕ) → Result ManifestLine LineKind
update_line words =
    provided (is_one_of words 2 (codes "at" ∷ codes "on" ∷ [])) unknown_word
    (provided (not (says (word_at words 2) "on") || is_one_of words 3 (codes "call" ∷ []))
    unknown_word
    (provided (are_words 4 words) wrong_count
    (when_read words >>= λ when. Ok (update_of words when))))

-- The other words that manifests have somewhere are out of order.
unfoldable pub manifest_line_of : List (List ℕ) → Result ManifestLine LineKind
manifest_line_of words =
    if says (word_at words 0) "main" then main_line words
    else if says (word_at words 0) "class" then class_named (class_line words)
    else if says (word_at words 0) "asm" then class_named (asm_line words)
    else if says (word_at words 0) "update" then update_line words
    else if says (word_at words 0) "jvolve" then Err wrong_order
    else if says (word_at words 0) ".end" then Err wrong_order
    else if says (word_at words 0) ".done" then Err wrong_order
    else Err unknown_word
