-- A journal, line by line.
use Rattle.std.proofs.Common.{◌≡◌, ℕ, ◌+◌, ◌<◌, List, [], ◌∷◌, ◌++◌, Bool, true, false, Option, Some, None, length, refl, ap, sym, append_assoc, arith}
use Rattle.std.specs.Prelude.{◌==◌, if◌then◌else◌, is_some}
use Rattle.std.specs.Borrow.{Bor}
use Rattle.std.specs.List.{slice_split, onto_first}
use Rattle.std.specs.Str.{IsUtf8, is_utf8}
use Rattle.std.proofs.lemmas.Str.{IsUtf8-from_is_utf8}
use Rattle.std.proofs.lemmas.Bool.{ne_eqb}
use Rattle.std.proofs.lemmas.List.{append-nil}
use Rattle.std.proofs.lemmas.List.Splits.{length-slice_split}
use Rattle.jv_model.specs.Journal.{Entry}
use Rattle.jv_model.specs.Lines.{Line, lines_from, lines_of, words_of}
use Rattle.jv_types.specs.Lines.{operand_words}
use Rattle.text_model.specs.JournalText.{ReadJournal, run_read, entry_of, is_end, bad_behind_end, journal_from}

-- what is read behind these entries
abbrev pub behind : List Entry → ReadJournal → ReadJournal
behind entries read = record read { entries = entries ++ read.entries }

-- ---- by the first line

pub journal_from-none : (entries : List Entry) (number : ℕ) (left : List ℕ) → (length left == 0) ≡ true
    → behind entries (journal_from number (lines_of left)) ≡ record { entries = entries; bad = Some number }
unfolding journal_from
journal_from-none entries number [] none = ap (λ all. record { entries = all; bad = Some number }) (append-nil entries)
journal_from-none entries number (byte ∷ left) none =
    let not_empty : (length (byte ∷ left) == 0) ≡ false = ne_eqb (length (byte ∷ left)) 0 (omega arith) in
    absurd cc

pub journal_from-end : (entries : List Entry) (number : ℕ) (line : Line) (lines : List Line) → is_end line ≡ true
    → behind entries (journal_from number (line ∷ lines)) ≡ record { entries = entries; bad = bad_behind_end (number + 1) lines }
unfolding journal_from
journal_from-end entries number line lines ends =
    rw ends (ap (λ all. record { entries = all; bad = bad_behind_end (number + 1) lines }) (append-nil entries))

pub journal_from-bad : (entries : List Entry) (number : ℕ) (line : Line) (lines : List Line) → is_end line ≡ false → entry_of line ≡ None
    → behind entries (journal_from number (line ∷ lines)) ≡ record { entries = entries; bad = Some number }
unfolding journal_from
journal_from-bad entries number line lines goes_on bad =
    rw (goes_on, bad) (ap (λ all. record { entries = all; bad = Some number }) (append-nil entries))

pub journal_from-entry : (entries : List Entry) (number : ℕ) (line : Line) (lines : List Line) (entry : Entry) → is_end line ≡ false → entry_of line ≡ Some entry
    → behind entries (journal_from number (line ∷ lines)) ≡ behind (entries ++ entry ∷ []) (journal_from (number + 1) lines)
unfolding journal_from
journal_from-entry entries number line lines entry goes_on is =
    let rest = journal_from (number + 1) lines in
    rw (goes_on, is) (ap (λ all. record rest { entries = all }) (sym (append_assoc entries (entry ∷ []) rest.entries)))

-- ---- behind the line `end`

first_of : (number byte : ℕ) (starts : Bool) (parts : List (List ℕ)) → 0 < length parts
    → bad_behind_end number (lines_from (if starts then [] ∷ parts else onto_first byte parts)) ≡ Some number
first_of number byte true (part ∷ parts) some = refl
first_of number byte false (part ∷ []) some =
    let not_empty : (length (byte ∷ part) == 0) ≡ false = ne_eqb (length (byte ∷ part)) 0 (omega arith) in
    rw not_empty
first_of number byte false (part ∷ next ∷ others) some = refl
first_of number byte starts [] some = absurd (omega arith)

-- where bytes follow, a line does
pub a_line_behind : (number : ℕ) (text : List ℕ) → (length text == 0) ≡ false → bad_behind_end number (lines_of text) ≡ Some number
a_line_behind number [] some = absurd cc
a_line_behind number (byte ∷ text) some =
    first_of number byte (byte == 10) (slice_split (λ byte. byte == 10) text) (omega (arith, length-slice_split (λ byte. byte == 10) text))

-- ---- words behind the third

no_run : (first second third : List ℕ) (words : List (List ℕ)) → 0 < length words → run_read (first ∷ second ∷ third ∷ words) ≡ None
no_run first second third (word ∷ words) some = refl
no_run first second third [] some = absurd (omega arith)

pub run_read-more : (first second third : List ℕ) (behind : Option (Bor (List ℕ))) → is_some behind ≡ true
    → run_read (first ∷ second ∷ third ∷ operand_words behind) ≡ None
run_read-more first second third None some = absurd cc
run_read-more first second third (Some text) some =
    no_run first second third (words_of text.now) (omega (arith, length-slice_split (λ byte. byte == 32) text.now))

-- ---- texts

not_true : (test : Bool) → (test ≡ true → ⊥) → test ≡ false
not_true true never = absurd (never refl)
not_true false never = refl

pub is_utf8-not : (bytes : List ℕ) → (IsUtf8 bytes → ⊥) → is_utf8 bytes ≡ false
is_utf8-not bytes never = not_true (is_utf8 bytes) (λ is. never (IsUtf8-from_is_utf8 bytes is))
