-- Which kinds lines of a manifest are told by.
use Rattle.std.proofs.Common.{ℕ, ◌≤◌, List, [], ◌∷◌, Bool, true, false, Option, Some, None, Result, Ok, Err, arith}
use Rattle.std.specs.Prelude.{◌||◌, not, if◌then◌else◌, codes}
use Rattle.jv_model.specs.Fallible.{◌>>=◌}
use Rattle.jv_model.specs.Limits.{most_request_step}
use Rattle.jv_model.specs.Refusal.{LineKind, unknown_word, wrong_count, wrong_number, wrong_order}
use Rattle.jv_model.specs.Updates.{When, at_step, on_call}
use Rattle.jv_model.specs.Utf16.{units_of_utf8}
use Rattle.text_model.specs.LineFaults.{rank}
use Rattle.text_model.specs.Numerals.{natural_in}
use Rattle.text_model.specs.Words.{are_words, is_one_of, provided, present, says, word_at}
use Rattle.manifest_model.specs.Items.{class_line, asm_line, of_file, of_lines}
use Rattle.manifest_model.specs.ManifestLines.{ManifestLine, class_named, main_line, manifest_line_of, names_class, names_main, update_line, update_of, when_read}

-- what was read, or a kind that is told before the last ones
abbrev pub IsLow : {A : Type 0} → Result A LineKind → Type 0
IsLow (Ok x) = Unit {0}
IsLow (Err kind) = rank kind ≤ 9

choice : {A : Type 0} (test : Bool) (x y : Result A LineKind) → IsLow x → IsLow y → IsLow (if test then x else y)
choice true x y first second = first
choice false x y first second = second

provided-low : {A : Type 0} (test : Bool) (kind : LineKind) (x : Result A LineKind) → rank kind ≤ 9 → IsLow x
    → IsLow (provided test kind x)
provided-low true kind x low rest = rest
provided-low false kind x low rest = low

then-low : {A B : Type 0} (x : Result A LineKind) (f : A → Result B LineKind) → IsLow x → ((a : A) → IsLow (f a))
    → IsLow (x >>= f)
then-low (Ok a) f low rest = rest a
then-low (Err kind) f low rest = low

present-low : {A : Type 0} (x : Option A) (kind : LineKind) → rank kind ≤ 9 → IsLow (present x kind)
present-low (Some a) kind low = tt
present-low None kind low = low

count_low : rank wrong_count ≤ 9
count_low = omega arith

word_low : rank unknown_word ≤ 9
word_low = omega arith

order_low : rank wrong_order ≤ 9
order_low = omega arith

number_low : (least most : ℕ) (word : List ℕ) → IsLow (natural_in least most word)
unfolding natural_in
number_low least most word = present-low _ wrong_number (omega arith)

abbrev step_read : List (List ℕ) → Result When LineKind
step_read words = natural_in 0 most_request_step (word_at words 3) >>= λ step. Ok (at_step step)

step_low : (words : List (List ℕ)) → IsLow (step_read words)
step_low words =
    then-low (natural_in 0 most_request_step (word_at words 3)) (λ step. Ok (at_step step))
    (number_low 0 most_request_step (word_at words 3)) (λ step. tt)

when_low : (words : List (List ℕ)) → IsLow (when_read words)
when_low words = choice (says (word_at words 2) "on") (Ok on_call) (step_read words) tt (step_low words)

-- the forms of an update line, one inside another
abbrev timed : List (List ℕ) → Result ManifestLine LineKind
timed words = when_read words >>= λ when. Ok (update_of words when)

abbrev counted_update : List (List ℕ) → Result ManifestLine LineKind
counted_update words = provided (are_words 4 words) wrong_count (timed words)

abbrev is_call : List (List ℕ) → Bool
is_call words = not (says (word_at words 2) "on") || is_one_of words 3 (codes "call" ∷ [])

abbrev called : List (List ℕ) → Result ManifestLine LineKind
called words = provided (is_call words) unknown_word (counted_update words)

update_low : (words : List (List ℕ)) → IsLow (update_line words)
update_low words =
    provided-low (is_one_of words 2 (codes "at" ∷ codes "on" ∷ [])) unknown_word (called words) word_low
    (provided-low (is_call words) unknown_word (counted_update words) word_low
    (provided-low (are_words 4 words) wrong_count (timed words) count_low
    (then-low (when_read words) (λ when. Ok (update_of words when)) (when_low words) (λ when. tt))))

main_low : (words : List (List ℕ)) → IsLow (main_line words)
main_low words = choice (are_words 2 words) (Ok (names_main (units_of_utf8 (word_at words 1)))) (Err wrong_count) tt count_low

class_low : (words : List (List ℕ)) → IsLow (class_named (class_line words))
class_low words =
    then-low (class_line words) (λ line. Ok (names_class line))
    (choice (are_words 3 words) (Ok (of_file (units_of_utf8 (word_at words 1)) (word_at words 2))) (Err wrong_count) tt count_low)
    (λ line. tt)

asm_low : (words : List (List ℕ)) → IsLow (class_named (asm_line words))
asm_low words =
    then-low (asm_line words) (λ line. Ok (names_class line))
    (choice (are_words 2 words) (Ok (of_lines (units_of_utf8 (word_at words 1)))) (Err wrong_count) tt count_low)
    (λ line. tt)

abbrev failed : LineKind → Result ManifestLine LineKind
failed kind = Err kind

abbrev from_done : List (List ℕ) → Result ManifestLine LineKind
from_done words = if says (word_at words 0) ".done" then failed wrong_order else failed unknown_word

abbrev from_end : List (List ℕ) → Result ManifestLine LineKind
from_end words = if says (word_at words 0) ".end" then failed wrong_order else from_done words

abbrev from_jvolve : List (List ℕ) → Result ManifestLine LineKind
from_jvolve words = if says (word_at words 0) "jvolve" then failed wrong_order else from_end words

abbrev from_update : List (List ℕ) → Result ManifestLine LineKind
from_update words = if says (word_at words 0) "update" then update_line words else from_jvolve words

abbrev from_asm : List (List ℕ) → Result ManifestLine LineKind
from_asm words = if says (word_at words 0) "asm" then class_named (asm_line words) else from_update words

abbrev from_class : List (List ℕ) → Result ManifestLine LineKind
from_class words = if says (word_at words 0) "class" then class_named (class_line words) else from_asm words

-- the least fault of a line by itself
pub line_low : (words : List (List ℕ)) → IsLow (manifest_line_of words)
unfolding manifest_line_of
line_low words =
    choice (says (word_at words 0) "main") (main_line words) (from_class words) (main_low words)
    (choice (says (word_at words 0) "class") (class_named (class_line words)) (from_asm words) (class_low words)
    (choice (says (word_at words 0) "asm") (class_named (asm_line words)) (from_update words) (asm_low words)
    (choice (says (word_at words 0) "update") (update_line words) (from_jvolve words) (update_low words)
    (choice (says (word_at words 0) "jvolve") (failed wrong_order) (from_end words) order_low
    (choice (says (word_at words 0) ".end") (failed wrong_order) (from_done words) order_low
    (choice (says (word_at words 0) ".done") (failed wrong_order) (failed unknown_word) order_low word_low))))))
