-- Journals as texts, and back.
use Rattle.std.proofs.Common.{◌≡◌, ℕ, ◌+◌, ◌<◌, ◌≤◌, ◌^◌, List, [], ◌∷◌, ◌++◌, Bool, true, false, Option, Some, None, Result, Ok, Err, codes, get_or, refl, ap, sym, ◌∙◌, append_assoc, arith}
use Rattle.std.specs.Prelude.{◌==◌, ◌&&◌, not, if◌then◌else◌, nat_le, nat_lt, is_some, decimal, bytes_eq, flat_map}
use Rattle.std.specs.List.{All, list_all, join_with_byte}
use Rattle.std.specs.Str.{is_utf8, IsAscii}
use Rattle.std.proofs.lemmas.Bool.{ne_eqb, leb-true, ltb-true, lt-ltb}
use Rattle.std.proofs.lemmas.Slice.Eq.{bytes_eq-Decides}
use Rattle.std.proofs.lemmas.Str.{is_utf8-from_IsUtf8, IsUtf8-from_ascii}
use Rattle.std.proofs.lemmas.Str.Ascii.{IsAscii-from_all}
use Rattle.std.proofs.lemmas.List.Folds.{list_all-append}
use Rattle.std.proofs.lemmas.List.Sums.{AllPass-from_list_all}
use Rattle.std.proofs.lemmas.List.Splits.{slice_split_at, slice_split_none, join_with_byte-slice_split}
use Rattle.jv_model.specs.Limits.{most_entry_steps}
use Rattle.jv_model.specs.Fallible.{◌>>=◌}
use Rattle.jv_model.specs.Refusal.{LineKind}
use Rattle.text_model.specs.LineFaults.{is_text}
use Rattle.text_model.specs.Words.{says}
use Rattle.jv_model.specs.Lines.{Line, lines_of, words_of, line_of}
use Rattle.jv_model.specs.Journal.{Entry, run, attempt}
use Rattle.text_model.specs.Numerals.{is_digit, natural_in}
use Rattle.text_model.specs.JournalText.{most_thread, entry_line, journal_text, ReadJournal, entry_of, is_end, run_read, read_entry, bad_behind_end, entry_before, journal_from, journal_of, is_sayable, IsReadBack, HasOneSpelling}
use Rattle.text_laws.proofs.Tests.{both, list_all-weaker, none_passes}
use Rattle.text_laws.proofs.Lines.{lines_of-line, bytes_of, bytes_of-lines_of}
use Rattle.text_laws.proofs.Numerals.{decimal-digits, natural_in-decimal, decimal-natural_in}

-- ---- an entry's line

-- an entry's line without its line feed
abbrev pub entry_bytes : Entry → List ℕ
entry_bytes (run t count) = codes "run" ++ 32 ∷ (decimal t ++ 32 ∷ decimal count)
entry_bytes attempt = codes "attempt"

entry_line-bytes : (entry : Entry) → entry_line entry ≡ entry_bytes entry ++ 10 ∷ []
entry_line-bytes (run t count) = ap (λ rest. codes "run " ++ rest) (sym (append_assoc (decimal t) (32 ∷ decimal count) (10 ∷ [])))
entry_line-bytes attempt = refl

-- an entry that can be said
pub record IsSayable (t count : ℕ) : Type 0 where
  pub thread : t ≤ most_thread
  pub some : 1 ≤ count
  pub high : count ≤ most_entry_steps

sayable : (t count : ℕ) → is_sayable (run t count) ≡ true → IsSayable t count
sayable t count is =
    let parts = both (nat_le t most_thread && nat_le 1 count) (nat_le count most_entry_steps) is in
    let low = both (nat_le t most_thread) (nat_le 1 count) parts.0 in
    record { thread = leb-true t most_thread low.0; some = leb-true 1 count low.1; high = leb-true count most_entry_steps parts.1 }

-- a digit isn't a byte below the digits
is_other : (byte digit : ℕ) → byte < 48 → is_digit digit ≡ true → not (digit == byte) ≡ true
is_other byte digit low is =
    let above : 48 ≤ digit = leb-true 48 digit (both (nat_le 48 digit) (nat_le digit 57) is).0 in
    let differs : (digit == byte) ≡ false = ne_eqb digit byte (omega arith) in
    rw differs

decimal-lacks : (byte n : ℕ) → byte < 48 → n < 2 ^ 64 → list_all (λ digit. not (digit == byte)) (decimal n) ≡ true
decimal-lacks byte n low small =
    list_all-weaker is_digit (λ digit. not (digit == byte)) (λ digit is. is_other byte digit low is) (decimal n) (decimal-digits n small)

entry_bytes-lack : (entry : Entry) → is_sayable entry ≡ true → list_all (λ byte. not (byte == 10)) (entry_bytes entry) ≡ true
entry_bytes-lack (run t count) is =
    let fits = sayable t count is in
    list_all-append (λ byte. not (byte == 10)) (decimal t) (32 ∷ decimal count)
    ∙ rw (decimal-lacks 10 t (omega arith) (omega (arith, fits.thread)), decimal-lacks 10 count (omega arith) (omega (arith, fits.high)))
entry_bytes-lack attempt is = refl

-- the words of an entry's line
entry_bytes-words : (t count : ℕ) → IsSayable t count → words_of (entry_bytes (run t count)) ≡ codes "run" ∷ decimal t ∷ decimal count ∷ []
entry_bytes-words t count fits =
    let space : ℕ → Bool = λ byte. byte == 32 in
    let thread : All (λ byte. (byte == 32) ≡ false) (decimal t) = none_passes (λ byte. byte == 32) (decimal t) (decimal-lacks 32 t (omega arith) (omega (arith, fits.thread))) in
    let steps : All (λ byte. (byte == 32) ≡ false) (decimal count) = none_passes (λ byte. byte == 32) (decimal count) (decimal-lacks 32 count (omega arith) (omega (arith, fits.high))) in
    ap (λ words. codes "run" ∷ words) (slice_split_at (λ byte. byte == 32) (decimal t) 32 (decimal count) thread refl
    ∙ ap (λ words. decimal t ∷ words) (slice_split_none (λ byte. byte == 32) (decimal count) steps))

-- the bytes of a line are ASCII
ascii : (bytes : List ℕ) → list_all (λ byte. nat_lt byte 128) bytes ≡ true → IsAscii bytes
ascii bytes all =
    IsAscii-from_all bytes (λ k d below. ltb-true (get_or bytes k d) 128 (AllPass-from_list_all (λ byte. nat_lt byte 128) bytes all k d below))

is_small : (digit : ℕ) → is_digit digit ≡ true → nat_lt digit 128 ≡ true
is_small digit is = lt-ltb digit 128 (omega (arith, leb-true digit 57 (both (nat_le 48 digit) (nat_le digit 57) is).1))

decimal-small : (n : ℕ) → n < 2 ^ 64 → list_all (λ byte. nat_lt byte 128) (decimal n) ≡ true
decimal-small n small = list_all-weaker is_digit (λ byte. nat_lt byte 128) is_small (decimal n) (decimal-digits n small)

entry_bytes-small : (entry : Entry) → is_sayable entry ≡ true → list_all (λ byte. nat_lt byte 128) (entry_bytes entry) ≡ true
entry_bytes-small (run t count) is =
    let fits = sayable t count is in
    list_all-append (λ byte. nat_lt byte 128) (decimal t) (32 ∷ decimal count)
    ∙ rw (decimal-small t (omega (arith, fits.thread)), decimal-small count (omega (arith, fits.high)))
entry_bytes-small attempt is = refl

entry_bytes-text : (entry : Entry) → is_sayable entry ≡ true → is_utf8 (entry_bytes entry) ≡ true
entry_bytes-text entry is =
    is_utf8-from_IsUtf8 (entry_bytes entry) (IsUtf8-from_ascii (entry_bytes entry) (ascii (entry_bytes entry) (entry_bytes-small entry is)))

-- an entry is read from its line
entry_of-bytes : (entry : Entry) → is_sayable entry ≡ true → entry_of (record { bytes = entry_bytes entry; is_ended = true }) ≡ Some entry
entry_of-bytes (run t count) is =
    let fits = sayable t count is in
    rw (entry_bytes-text (run t count) is, entry_bytes-words t count fits, natural_in-decimal 0 most_thread t (omega arith) fits.thread (omega arith), natural_in-decimal 1 most_entry_steps count fits.some fits.high (omega arith))
entry_of-bytes attempt is = rw (entry_bytes-text attempt is)

not_end : (entry : Entry) → is_end (record { bytes = entry_bytes entry; is_ended = true }) ≡ false
not_end (run t count) = refl
not_end attempt = refl

-- ---- a journal is read back

entry_first : (number : ℕ) (line : Line) (lines : List Line) (entry : Entry) → is_end line ≡ false → entry_of line ≡ Some entry
    → journal_from number (line ∷ lines) ≡ entry_before (Some entry) number (journal_from (number + 1) lines)
unfolding journal_from
entry_first number line lines entry goes_on is = rw (goes_on, is)

read_back : (number : ℕ) (entries : List Entry) → list_all is_sayable entries ≡ true
    → journal_from number (lines_of (flat_map entry_line entries ++ line_of (codes "end" ∷ []))) ≡ record { entries = entries; bad = None }
unfolding journal_from
read_back number [] all = refl
read_back number (entry ∷ entries) all =
    let parts = both (is_sayable entry) (list_all is_sayable entries) all in
    let rest = flat_map entry_line entries ++ line_of (codes "end" ∷ []) in
    let text : flat_map entry_line (entry ∷ entries) ++ line_of (codes "end" ∷ []) ≡ entry_bytes entry ++ 10 ∷ rest =
    ap (λ line. (line ++ flat_map entry_line entries) ++ line_of (codes "end" ∷ [])) (entry_line-bytes entry)
    ∙ append_assoc (entry_bytes entry ++ 10 ∷ []) (flat_map entry_line entries) (line_of (codes "end" ∷ []))
    ∙ append_assoc (entry_bytes entry) (10 ∷ []) rest in
    let lines : lines_of (flat_map entry_line (entry ∷ entries) ++ line_of (codes "end" ∷ [])) ≡ record { bytes = entry_bytes entry; is_ended = true } ∷ lines_of rest =
    ap lines_of text ∙ lines_of-line (entry_bytes entry) rest (none_passes (λ byte. byte == 10) (entry_bytes entry) (entry_bytes-lack entry parts.0)) in
    ap (journal_from number) lines
    ∙ entry_first number (record { bytes = entry_bytes entry; is_ended = true }) (lines_of rest) entry (not_end entry) (entry_of-bytes entry parts.0)
    ∙ ap (entry_before (Some entry) number) (read_back (number + 1) entries parts.1)

pub is_read_back : (entries : List Entry) → IsReadBack entries
unfolding journal_text journal_of
is_read_back entries all = read_back 0 entries all

-- ---- a text has the entries of one journal

-- what an entry of three words tells
pub record IsRun (named : Bool) (t k : Result ℕ LineKind) (entry : Entry) : Type 0 where
  pub thread : ℕ
  pub count : ℕ
  pub named_is : named ≡ true
  pub thread_is : t ≡ Ok thread
  pub count_is : k ≡ Ok count
  pub is : entry ≡ run thread count

three_words : (named : Bool) (t k : Result ℕ LineKind) (entry : Entry) → (if named then read_entry (t >>= λ t. k >>= λ k. Ok (run t k)) else None) ≡ Some entry
    → IsRun named t k entry
three_words true (Ok t) (Ok k) entry is = record { thread = t; count = k; named_is = refl; thread_is = refl; count_is = refl; is = cc }
three_words true (Ok t) (Err fault) entry is = absurd cc
three_words true (Err fault) k entry is = absurd cc
three_words false t k entry is = absurd cc

run_bytes : (word thread count : List ℕ) (t k : ℕ) (entry : Entry) → entry ≡ run t k → word ≡ codes "run" → decimal t ≡ thread → decimal k ≡ count
    → entry_line entry ≡ (word ++ 32 ∷ (thread ++ 32 ∷ count)) ++ 10 ∷ []
run_bytes word thread count t k entry is named first second =
    rw (is, named, first, second) (ap (λ rest. codes "run " ++ rest) (sym (append_assoc thread (32 ∷ count) (10 ∷ []))))

run_line : (words : List (List ℕ)) (entry : Entry) → run_read words ≡ Some entry → entry_line entry ≡ join_with_byte 32 words ++ 10 ∷ []
run_line [] entry is = absurd cc
run_line (first ∷ []) entry is = absurd cc
run_line (first ∷ second ∷ []) entry is = absurd cc
run_line (word ∷ thread ∷ count ∷ []) entry is =
    let read = three_words (says word "run") (natural_in 0 most_thread thread) (natural_in 1 most_entry_steps count) entry is in
    let named : word ≡ codes "run" = (bytes_eq-Decides word (codes "run")).0 read.named_is in
    let first : decimal read.thread ≡ thread = decimal-natural_in 0 most_thread thread read.thread (omega arith) read.thread_is in
    let second : decimal read.count ≡ count = decimal-natural_in 1 most_entry_steps count read.count (omega arith) read.count_is in
    run_bytes word thread count read.thread read.count entry read.is named first second
run_line (first ∷ second ∷ third ∷ fourth ∷ others) entry is = absurd cc

found_line : (same : Bool) (bytes : List ℕ) (entry : Entry) → (same ≡ true → bytes ≡ codes "attempt")
    → (if same then Some attempt else run_read (words_of bytes)) ≡ Some entry → entry_line entry ≡ bytes ++ 10 ∷ []
found_line true bytes entry spelled is =
    let entry_is : entry ≡ attempt = cc in
    rw (entry_is, spelled refl)
found_line false bytes entry spelled is =
    run_line (words_of bytes) entry is ∙ ap (λ bytes. bytes ++ 10 ∷ []) (join_with_byte-slice_split 32 bytes)

in_text : (text : Bool) (found : Option Entry) (entry : Entry) → (if text then found else None) ≡ Some entry → (text ≡ true) × (found ≡ Some entry)
in_text true found entry is = (refl, is)
in_text false found entry is = absurd cc

-- a line that spells an entry is the entry's line
entry_line-entry_of : (line : Line) (entry : Entry) → entry_of line ≡ Some entry → entry_line entry ≡ bytes_of line
entry_line-entry_of line entry is =
    let found = in_text (is_text line) (if bytes_eq line.bytes (codes "attempt") then Some attempt else run_read (words_of line.bytes)) entry is in
    let ended : line.is_ended ≡ true = (both line.is_ended (is_utf8 line.bytes) found.0).0 in
    rw ended (found_line (bytes_eq line.bytes (codes "attempt")) line.bytes entry (bytes_eq-Decides line.bytes (codes "attempt")).0 found.1)

-- the lines of a text that is read without a bad one
last_spelled : (number : ℕ) (line : Line) (lines : List Line) → is_end line ≡ true → is_some (bad_behind_end number lines) ≡ false
    → line_of (codes "end" ∷ []) ≡ flat_map bytes_of (line ∷ lines)
last_spelled number line [] ends good =
    let parts = both line.is_ended (bytes_eq line.bytes (codes "end")) ends in
    let bytes : line.bytes ≡ codes "end" = (bytes_eq-Decides line.bytes (codes "end")).0 parts.1 in
    rw (parts.0, bytes)
last_spelled number line (next ∷ lines) ends good = absurd cc

first_spelled : (number : ℕ) (line : Line) (lines : List Line) (found : Option Entry) (rest : ReadJournal) → entry_of line ≡ found
    → (is_some rest.bad ≡ false → flat_map entry_line rest.entries ++ line_of (codes "end" ∷ []) ≡ flat_map bytes_of lines)
    → is_some (entry_before found number rest).bad ≡ false
    → flat_map entry_line (entry_before found number rest).entries ++ line_of (codes "end" ∷ []) ≡ flat_map bytes_of (line ∷ lines)
first_spelled number line lines None rest is spelled good = absurd cc
first_spelled number line lines (Some entry) rest is spelled good =
    append_assoc (entry_line entry) (flat_map entry_line rest.entries) (line_of (codes "end" ∷ []))
    ∙ ap (λ bytes. bytes ++ (flat_map entry_line rest.entries ++ line_of (codes "end" ∷ []))) (entry_line-entry_of line entry is)
    ∙ ap (λ text. bytes_of line ++ text) (spelled good)

either_spelled : (number : ℕ) (line : Line) (lines : List Line) (ends : Bool) (rest : ReadJournal) → is_end line ≡ ends
    → (is_some rest.bad ≡ false → flat_map entry_line rest.entries ++ line_of (codes "end" ∷ []) ≡ flat_map bytes_of lines)
    → let read : ReadJournal = if ends then record { entries = []; bad = bad_behind_end (number + 1) lines } else entry_before (entry_of line) number rest in
    is_some read.bad ≡ false → flat_map entry_line read.entries ++ line_of (codes "end" ∷ []) ≡ flat_map bytes_of (line ∷ lines)
either_spelled number line lines true rest is spelled good = last_spelled (number + 1) line lines is good
either_spelled number line lines false rest is spelled good = first_spelled number line lines (entry_of line) rest refl spelled good

spelled_lines : (number : ℕ) (lines : List Line) → is_some (journal_from number lines).bad ≡ false
    → flat_map entry_line (journal_from number lines).entries ++ line_of (codes "end" ∷ []) ≡ flat_map bytes_of lines
unfolding journal_from
spelled_lines number [] good = absurd cc
spelled_lines number (line ∷ lines) good =
    either_spelled number line lines (is_end line) (journal_from (number + 1) lines) refl (spelled_lines (number + 1) lines) good

pub has_one_spelling : (text : List ℕ) → HasOneSpelling text
unfolding journal_text journal_of
has_one_spelling text good = spelled_lines 0 (lines_of text) good ∙ bytes_of-lines_of text
