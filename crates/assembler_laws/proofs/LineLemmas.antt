-- What a line says is what its form is for.
use Rattle.std.proofs.Common.{◌≡◌, ℕ, List, [], ◌∷◌, Bool, true, false, Option, Some, None, Result, Ok, Err, refl}
use Rattle.std.specs.Prelude.{codes, if◌then◌else◌}
use Rattle.jv_model.specs.Fallible.{◌>>=◌}
use Rattle.jv_model.specs.Lines.{Line, words_of}
use Rattle.jv_model.specs.Refusal.{LineKind, not_text, unknown_word, wrong_count}
use Rattle.text_model.specs.LineFaults.{is_text}
use Rattle.text_model.specs.Numerals.{u2_in}
use Rattle.text_model.specs.Words.{are_words, is_one_of, provided, word_at}
use Rattle.assembler_model.specs.AssemblerTerms.{AssemblerLine, end_line, stack_is}
use Rattle.assembler_model.specs.AssemblerLines.{LineForm, end_form, line_form, line_said, read_form, read_words, stack_form, stack_read}
use Rattle.assembler_laws.proofs.MethodLemmas.{form_right}

provided_right : (form : Option LineForm) (test : Bool) (kind : LineKind) (read : Result AssemblerLine LineKind)
    → form_right form read ≡ true → form_right form (provided test kind read) ≡ true
provided_right form true kind read right = right
provided_right form false kind read right = refl

then_right : {A : Type 0} (form : Option LineForm) (read : Result A LineKind) (next : A → Result AssemblerLine LineKind)
    → ((x : A) → form_right form (next x) ≡ true) → form_right form (read >>= next) ≡ true
then_right form (Ok x) next right = right x
then_right form (Err kind) next right = refl

abbrev is_plain : LineForm → Bool
is_plain stack_form = false
is_plain end_form = false
is_plain form = true

plain_right : (form : LineForm) (said : Result AssemblerLine LineKind) → is_plain form ≡ true → form_right (Some form) said ≡ true
plain_right stack_form said plain = absurd cc
plain_right end_form said plain = absurd cc
plain_right form (Ok said) plain = refl
plain_right form (Err kind) plain = refl

-- what a `stack` line says behind its words
abbrev locals_read : List (List ℕ) → ℕ → Result AssemblerLine LineKind
locals_read words stack = u2_in (word_at words 3) >>= λ locals. Ok (stack_is stack locals)

abbrev numbers_read : List (List ℕ) → Result AssemblerLine LineKind
numbers_read words = u2_in (word_at words 1) >>= locals_read words

stack_right : (words : List (List ℕ)) → form_right (Some stack_form) (stack_read words) ≡ true
stack_right words =
    provided_right (Some stack_form) (is_one_of words 2 (codes "locals" ∷ [])) unknown_word
    (provided (are_words 4 words) wrong_count (numbers_read words))
    (provided_right (Some stack_form) (are_words 4 words) wrong_count (numbers_read words)
    (then_right (Some stack_form) (u2_in (word_at words 1)) (locals_read words)
    (λ stack. then_right (Some stack_form) (u2_in (word_at words 3)) (λ locals. Ok (stack_is stack locals)) (λ locals. refl))))

words_right : (form : Option LineForm) (words : List (List ℕ)) → form_right form (read_words form words) ≡ true
unfolding read_form
words_right None words = refl
words_right (Some stack_form) words = stack_right words
words_right (Some end_form) words = provided_right (Some end_form) (are_words 1 words) wrong_count (Ok end_line) refl
words_right (Some form) words = plain_right form (read_form form words) refl

by_text : (text : Bool) (form : Option LineForm) (words : List (List ℕ))
    → form_right form (if text then read_words form words else Err not_text) ≡ true
by_text true form words = words_right form words
by_text false form words = refl

pub line_right : (line : Line) → form_right (line_form line) (line_said line) ≡ true
line_right line = by_text (is_text line) (line_form line) (words_of line.bytes)
