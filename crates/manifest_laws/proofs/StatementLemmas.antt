-- What is wrong with the statements of a manifest, and the first faulty line of it.
use Rattle.std.proofs.Common.{◌≡◌, ℕ, ◌+◌, ◌≤◌, List, [], ◌∷◌, ◌++◌, Bool, true, false, Option, Some, None, Result, length, refl, ap, sym, ◌∙◌, append_assoc, arith}
use Rattle.std.specs.Prelude.{nat_lt, count_by, bytes_eq, codes}
use Rattle.std.proofs.lemmas.List.{append-nil}
use Rattle.std.specs.Str.{is_utf8}
use Rattle.jv_model.specs.Lines.{Line}
use Rattle.jv_model.specs.Refusal.{LineKind, not_text, open_block, wrong_head, wrong_main}
use Rattle.text_model.specs.LineFaults.{Fault, at_line, first_fault, is_text, rank, text_faults, unless_true}
use Rattle.assembler_model.specs.Blocks.{Chunk, Cut, cut}
use Rattle.manifest_model.specs.ManifestLines.{ManifestLine}
use Rattle.manifest_model.specs.Manifest.{is_main, line_faults, manifest_faults, read_line, statement_faults}
use Rattle.manifest_laws.specs.Blocks.{block_faults, has_end, is_line, lines_before, lines_behind}
use Rattle.manifest_laws.specs.Faults.{chunks_from, faults_from, opens}
use Rattle.manifest_laws.proofs.FaultLemmas.{From, From-append, From-at_line, From-less, From-NoneBefore, From-BeforeAll, From-text, NoneBefore, NoneBefore-append, first-told, middle-told, not_before}
use Rattle.manifest_laws.proofs.BlockLemmas.{cut_at_end, cut_none_block, cut_none_closed}
use Rattle.manifest_laws.proofs.TextLemmas.{before_all, behind_none, block_told, lines_around, texts_around, texts_from, texts_in}

-- ---- the numbers of statements

abbrev ChunksIn : ℕ → ℕ → List Chunk → Type 0
ChunksIn n last [] = Unit {0}
ChunksIn n last (chunk ∷ chunks) = (n ≤ chunk.number) × (chunk.number ≤ last) × ChunksIn n last chunks

chunks_in-by : (begins : Line → Option (List ℕ)) (end : List ℕ) (low n last : ℕ) (line : Line) (lines : List Line) (test : Bool)
    → is_line end line ≡ test → ChunksIn low last (cut begins None (n + 1) lines).chunks
    → ChunksIn low last (cut begins (Some end) (n + 1) lines).chunks → ChunksIn low last (cut begins (Some end) n (line ∷ lines)).chunks
unfolding cut
chunks_in-by begins end low n last line lines true is first second = rw is first
chunks_in-by begins end low n last line lines false is first second = rw is second

chunks_in : (begins : Line → Option (List ℕ)) (end : Option (List ℕ)) (low n last : ℕ) (lines : List Line)
    → low ≤ n → n + length lines ≤ last + 1 → ChunksIn low last (cut begins end n lines).chunks
unfolding cut
chunks_in begins None low n last [] less within = tt
chunks_in begins (Some end) low n last [] less within = tt
chunks_in begins None low n last (line ∷ lines) less within =
    (less, omega arith, chunks_in begins (begins line) low (n + 1) last lines (omega arith) (omega arith))
chunks_in begins (Some end) low n last (line ∷ lines) less within =
    chunks_in-by begins end low n last line lines (is_line end line) refl
    (chunks_in begins None low (n + 1) last lines (omega arith) (omega arith))
    (chunks_in begins (Some end) low (n + 1) last lines (omega arith) (omega arith))

-- ---- where their faults stand

main_from : (n last : ℕ) (test : Bool) → (test ≡ false → n ≤ last) → From n (at_line last (unless_true test wrong_main))
main_from n last true near = tt
main_from n last false near = (near refl, tt)

statements_from : (n last : ℕ) (before : List (Result ManifestLine LineKind)) (chunks : List Chunk) → ChunksIn n last chunks
    → (nat_lt 0 (count_by is_main before) ≡ false → n ≤ last) → From n (statement_faults last before chunks)
unfolding statement_faults
statements_from n last before [] within near = main_from n last (nat_lt 0 (count_by is_main before)) near
statements_from n last before (chunk ∷ chunks) within near =
    let far : n ≤ last = omega (arith, within.0, within.1) in
    let read = read_line chunk.line in
    let rest = statements_from n last (before ++ read ∷ []) chunks within.2 (λ _. far) in
    let here = at_line chunk.number (line_faults before read) in
    let end = at_line last (unless_true chunk.is_closed open_block) in
    From-append n (here ++ end) (statement_faults last (before ++ read ∷ []) chunks)
    (From-append n here end (From-at_line n chunk.number (line_faults before read) within.0)
    (From-at_line n last (unless_true chunk.is_closed open_block) far))
    rest

main_not_before : (f : Fault) (last : ℕ) (test : Bool) → f.0 ≤ last → rank f.1 ≤ 10
    → NoneBefore f (at_line last (unless_true test wrong_main))
main_not_before f last true near low = tt
main_not_before f last false near low = (not_before f (last, wrong_main) near (λ same. low), tt)

-- no statement of a later line has a fault that is told before, nor has the whole text
statements_none_before : (f : Fault) (last : ℕ) (before : List (Result ManifestLine LineKind)) (chunks : List Chunk)
    → ChunksIn (f.0 + 1) last chunks → f.0 ≤ last → rank f.1 ≤ 10 → NoneBefore f (statement_faults last before chunks)
unfolding statement_faults
statements_none_before f last before [] within near low = main_not_before f last (nat_lt 0 (count_by is_main before)) near low
statements_none_before f last before (chunk ∷ chunks) within near low =
    let far : f.0 + 1 ≤ last = omega (arith, within.0, within.1) in
    From-NoneBefore f (f.0 + 1) (statement_faults last before (chunk ∷ chunks)) (omega arith)
    (statements_from (f.0 + 1) last before (chunk ∷ chunks) within (λ _. far))

-- ---- line by line

-- the statements behind a line, and the front that stands in the block that it opens
abbrev pub behind : ℕ → Line → List Line → Cut
behind n line rest = cut opens (opens line) (n + 1) rest

pub faults_more : (last : ℕ) (before : List (Result ManifestLine LineKind)) (n : ℕ) (line : Line) (rest : List Line)
    → faults_from last before n (line ∷ rest)
    ≡ (at_line n (unless_true (is_text line) not_text) ++ text_faults (n + 1) rest)
    ++ (at_line n (line_faults before (read_line line)) ++ at_line last (unless_true (behind n line rest).is_closed open_block)
    ++ statement_faults last (before ++ read_line line ∷ []) (behind n line rest).chunks)
unfolding text_faults statement_faults cut
faults_more last before n line rest = refl

-- ---- a line that is no text

from_no_text : (n : ℕ) (texts others : List Fault) → From (n + 1) texts → From n others
    → first_fault (((n, not_text) ∷ texts) ++ others) ≡ Some (n, not_text)
from_no_text n texts others first second =
    first-told (n, not_text) (texts ++ others)
    (From-text n (texts ++ others) (From-append n texts others (From-less n (n + 1) texts (omega arith) first) second))

-- it is told, whatever stands behind it
pub no_text_told : (last : ℕ) (before : List (Result ManifestLine LineKind)) (n : ℕ) (line : Line) (rest : List Line)
    → last ≡ n + length rest → is_text line ≡ false → first_fault (faults_from last before n (line ∷ rest)) ≡ Some (n, not_text)
unfolding text_faults
no_text_told last before n line rest end text =
    let within = chunks_in opens None n n last (line ∷ rest) (omega arith) (omega arith) in
    let others = statements_from n last before (chunks_from n (line ∷ rest)) within (λ _. omega arith) in
    rw text (from_no_text n (text_faults (n + 1) rest) (statement_faults last before (chunks_from n (line ∷ rest)))
    (texts_from (n + 1) rest) others)

-- ---- a line that is faulty by itself or among others

told_between : (n : ℕ) (kind : LineKind) (texts ends others : List Fault) → From (n + 1) texts → NoneBefore (n, kind) ends
    → NoneBefore (n, kind) others → first_fault (texts ++ (((n, kind) ∷ []) ++ ends ++ others)) ≡ Some (n, kind)
told_between n kind texts ends others first second third =
    middle-told texts (n, kind) (ends ++ others) (From-BeforeAll (n, kind) (n + 1) texts (omega arith) first)
    (NoneBefore-append (n, kind) ends others second third)

-- it is told, where an open block isn't told before it
pub line_told : (last : ℕ) (before : List (Result ManifestLine LineKind)) (n : ℕ) (line : Line) (rest : List Line)
    (kind : LineKind) → last ≡ n + length rest → is_text line ≡ true → line_faults before (read_line line) ≡ kind ∷ []
    → rank kind ≤ 10 → NoneBefore (n, kind) (at_line last (unless_true (behind n line rest).is_closed open_block))
    → first_fault (faults_from last before n (line ∷ rest)) ≡ Some (n, kind)
line_told last before n line rest kind end text is low closed =
    let within = chunks_in opens (opens line) (n + 1) (n + 1) last rest (omega arith) (omega arith) in
    let others = statements_none_before (n, kind) last (before ++ read_line line ∷ []) (behind n line rest).chunks within (omega arith) low in
    ap first_fault (faults_more last before n line rest)
    ∙ rw (text, is) (told_between n kind (text_faults (n + 1) rest)
    (at_line last (unless_true (behind n line rest).is_closed open_block))
    (statement_faults last (before ++ read_line line ∷ []) (behind n line rest).chunks)
    (texts_from (n + 1) rest) closed others)

-- as where the line opens no block
pub closed_not_before : (f : Fault) (last n : ℕ) (line : Line) (rest : List Line) → opens line ≡ None
    → NoneBefore f (at_line last (unless_true (behind n line rest).is_closed open_block))
closed_not_before f last n line rest none =
    let closed : (behind n line rest).is_closed ≡ true = rw none (cut_none_closed opens (n + 1) rest) in
    rw closed tt

open_not_before : (f : Fault) (last : ℕ) (test : Bool) → f.0 ≤ last → rank f.1 ≤ 9
    → NoneBefore f (at_line last (unless_true test open_block))
open_not_before f last true near low = tt
open_not_before f last false near low = (not_before f (last, open_block) near (λ same. low), tt)

-- or its fault has a lesser rank
pub low_not_before : (f : Fault) (last n : ℕ) (line : Line) (rest : List Line) → f.0 ≤ last → rank f.1 ≤ 9
    → NoneBefore f (at_line last (unless_true (behind n line rest).is_closed open_block))
low_not_before f last n line rest near low = open_not_before f last (behind n line rest).is_closed near low

-- ---- a line that isn't faulty

-- What is wrong from such a line on.
pub faults_behind : (last : ℕ) (before : List (Result ManifestLine LineKind)) (n : ℕ) (line : Line) (rest : List Line)
    → is_text line ≡ true → line_faults before (read_line line) ≡ []
    → faults_from last before n (line ∷ rest)
    ≡ text_faults (n + 1) rest ++ (at_line last (unless_true (behind n line rest).is_closed open_block)
    ++ statement_faults last (before ++ read_line line ∷ []) (behind n line rest).chunks)
faults_behind last before n line rest text is = faults_more last before n line rest ∙ rw (text, is)

-- where it opens no block
pub goes_on : (last : ℕ) (before : List (Result ManifestLine LineKind)) (n : ℕ) (line : Line) (rest : List Line)
    → is_text line ≡ true → line_faults before (read_line line) ≡ [] → opens line ≡ None
    → faults_from last before n (line ∷ rest) ≡ faults_from last (before ++ read_line line ∷ []) (n + 1) rest
goes_on last before n line rest text is none =
    let closed : (behind n line rest).is_closed ≡ true = rw none (cut_none_closed opens (n + 1) rest) in
    faults_behind last before n line rest text is ∙ rw (closed, none)

-- where the block that it opens has no fault
pub goes_on_behind : (last : ℕ) (before : List (Result ManifestLine LineKind)) (n : ℕ) (line : Line) (rest : List Line)
    (end : List ℕ) → is_utf8 end ≡ true → is_text line ≡ true → line_faults before (read_line line) ≡ []
    → opens line ≡ Some end → has_end end rest ≡ true → text_faults (n + 1) (lines_before end rest) ≡ []
    → faults_from last before n (line ∷ rest)
    ≡ faults_from last (before ++ read_line line ∷ []) (n + 1 + length (lines_before end rest) + 1) (lines_behind end rest)
goes_on_behind last before n line rest end utf8 text is some has none =
    faults_behind last before n line rest text is
    ∙ rw (some, cut_at_end opens end (n + 1) rest, has, texts_around end (n + 1) rest utf8 has, none)

-- ---- a block that is faulty

main_from_last : (last : ℕ) (test : Bool) → From last (at_line last (unless_true test wrong_main))
main_from_last last true = tt
main_from_last last false = (omega arith, tt)

open_then : (last : ℕ) (f : Fault) (test : Bool) → first_fault ((last, open_block) ∷ []) ≡ Some f
    → first_fault ((last, open_block) ∷ at_line last (unless_true test wrong_main)) ≡ Some f
open_then last f test is =
    let alone : first_fault ((last, open_block) ∷ []) ≡ Some (last, open_block) = first-told (last, open_block) [] tt in
    first-told (last, open_block) (at_line last (unless_true test wrong_main))
    (main_not_before (last, open_block) last test (omega arith) (omega arith)) ∙ sym alone ∙ is

none_told : (f : Fault) (gs : List Fault) → first_fault [] ≡ Some f → first_fault gs ≡ Some f
unfolding first_fault
none_told f gs is = absurd cc

-- where a line ends the block, a line of the block is told
closed_told : (last : ℕ) (before : List (Result ManifestLine LineKind)) (n : ℕ) (rest : List Line) (end : List ℕ) (f : Fault)
    → last ≡ n + length rest → is_utf8 end ≡ true → has_end end rest ≡ true
    → first_fault (text_faults (n + 1) (lines_before end rest) ++ []) ≡ Some f
    → first_fault (text_faults (n + 1) rest
    ++ ([] ++ statement_faults last before (chunks_from (n + 1 + length (lines_before end rest) + 1) (lines_behind end rest)))) ≡ Some f
closed_told last before n rest end f is_last utf8 has told =
    let block = lines_before end rest in
    let left = lines_behind end rest in
    let at = n + 1 + length block in
    let count = lines_around end rest has in
    let texts = text_faults (n + 1) block in
    let later = text_faults (at + 1) left in
    let others = statement_faults last before (chunks_from (at + 1) left) in
    let within = chunks_in opens None at (at + 1) last left (omega arith) (omega arith) in
    let near : at ≤ last = omega arith in
    rw (texts_around end (n + 1) rest utf8 has)
    (ap first_fault (append_assoc texts later others)
    ∙ block_told texts [] (later ++ others) f (n + 1) at at (texts_in (n + 1) at block (omega arith)) (omega arith) tt
    (From-append at later others (From-less at (at + 1) later (omega arith) (texts_from (at + 1) left))
    (statements_from at last before (chunks_from (at + 1) left) within (λ _. near)))
    (none_told f (later ++ others)) told)

-- where none does, a line of it is told, or else the last one
unclosed_told : (last : ℕ) (before : List (Result ManifestLine LineKind)) (n : ℕ) (rest : List Line) (f : Fault)
    → last ≡ n + length rest → first_fault (text_faults (n + 1) rest ++ (last, open_block) ∷ []) ≡ Some f
    → first_fault (text_faults (n + 1) rest ++ (((last, open_block) ∷ []) ++ statement_faults last before [])) ≡ Some f
unfolding statement_faults
unclosed_told last before n rest f is_last told =
    let test = nat_lt 0 (count_by is_main before) in
    block_told (text_faults (n + 1) rest) ((last, open_block) ∷ []) (at_line last (unless_true test wrong_main)) f
    (n + 1) (last + 1) last (texts_in (n + 1) (last + 1) rest (omega arith)) (omega arith) (omega arith, tt)
    (main_from_last last test) (open_then last f test) told

no_chunks : (n : ℕ) → chunks_from n [] ≡ []
unfolding cut
no_chunks n = refl

block_by : (last : ℕ) (before : List (Result ManifestLine LineKind)) (n : ℕ) (line : Line) (rest : List Line)
    (end : List ℕ) (f : Fault) (test : Bool) → has_end end rest ≡ test → last ≡ n + length rest → is_utf8 end ≡ true
    → opens line ≡ Some end → first_fault (block_faults end last (n + 1) rest) ≡ Some f
    → first_fault (text_faults (n + 1) rest ++ (at_line last (unless_true (behind n line rest).is_closed open_block)
    ++ statement_faults last before (behind n line rest).chunks)) ≡ Some f
block_by last before n line rest end f true has is_last utf8 some told =
    let told' : first_fault (text_faults (n + 1) (lines_before end rest) ++ []) ≡ Some f = rw has at told in
    rw (some, cut_at_end opens end (n + 1) rest, has) (closed_told last before n rest end f is_last utf8 has told')
block_by last before n line rest end f false has is_last utf8 some told =
    let told' : first_fault (text_faults (n + 1) rest ++ (last, open_block) ∷ []) ≡ Some f = rw (has, before_all end rest has) at told in
    rw (some, cut_at_end opens end (n + 1) rest, has, behind_none end rest has, no_chunks (n + 1 + length (lines_before end rest) + 1))
    (unclosed_told last before n rest f is_last told')

pub block_fault_told : (last : ℕ) (before : List (Result ManifestLine LineKind)) (n : ℕ) (line : Line) (rest : List Line)
    (end : List ℕ) (f : Fault) → last ≡ n + length rest → is_utf8 end ≡ true → is_text line ≡ true
    → line_faults before (read_line line) ≡ [] → opens line ≡ Some end
    → first_fault (block_faults end last (n + 1) rest) ≡ Some f
    → first_fault (faults_from last before n (line ∷ rest)) ≡ Some f
block_fault_told last before n line rest end f is_last utf8 text is some told =
    ap first_fault (faults_behind last before n line rest text is)
    ∙ block_by last (before ++ read_line line ∷ []) n line rest end f (has_end end rest) refl is_last utf8 some told

-- ---- the end of the text

pub faults_end : (last : ℕ) (before : List (Result ManifestLine LineKind)) (n : ℕ)
    → faults_from last before n [] ≡ at_line last (unless_true (nat_lt 0 (count_by is_main before)) wrong_main)
unfolding text_faults statement_faults cut
faults_end last before n = refl

-- ---- statements by their lines

pub chunk_alone : (n : ℕ) (line : Line) (rest : List Line) → opens line ≡ None
    → chunks_from n (line ∷ rest)
    ≡ record { number = n; line = line; block = []; is_closed = true } ∷ chunks_from (n + 1) rest
unfolding cut
chunk_alone n line rest none = rw (none, cut_none_closed opens (n + 1) rest, cut_none_block opens (n + 1) rest)

pub chunk_around : (n : ℕ) (line : Line) (rest : List Line) (end : List ℕ) → opens line ≡ Some end → has_end end rest ≡ true
    → chunks_from n (line ∷ rest)
    ≡ record { number = n; line = line; block = lines_before end rest; is_closed = true }
    ∷ chunks_from (n + 1 + length (lines_before end rest) + 1) (lines_behind end rest)
unfolding cut
chunk_around n line rest end some has = rw (some, cut_at_end opens end (n + 1) rest, has)

-- ---- the first line

-- where it is the one that manifests begin with
pub head_right : (head : Line) (lines : List Line) → is_text head ≡ true → bytes_eq head.bytes (codes "jvolve 1") ≡ true
    → manifest_faults (head ∷ lines) ≡ faults_from (length lines + 1) [] 2 lines
unfolding text_faults
head_right head lines text is =
    rw (text, is) (ap (λ texts. texts ++ statement_faults (length lines + 1) [] (chunks_from 2 lines)) (append-nil (text_faults 2 lines)))

statements_from_head : (n : ℕ) (lines : List Line) → n ≤ 2 → n ≤ length lines + 1
    → From n (statement_faults (length lines + 1) [] (chunks_from 2 lines))
statements_from_head n lines less near =
    statements_from n (length lines + 1) [] (chunks_from 2 lines)
    (chunks_in opens None n 2 (length lines + 1) lines less (omega arith)) (λ _. near)

-- where it is no text
pub head_no_text : (head : Line) (lines : List Line) → is_text head ≡ false
    → first_fault (manifest_faults (head ∷ lines)) ≡ Some (1, not_text)
unfolding text_faults
head_no_text head lines text =
    let test = bytes_eq head.bytes (codes "jvolve 1") in
    let here = at_line 1 (unless_true test wrong_head) in
    let others = statement_faults (length lines + 1) [] (chunks_from 2 lines) in
    rw text (first-told (1, not_text) ((text_faults 2 lines ++ here) ++ others)
    (From-text 1 ((text_faults 2 lines ++ here) ++ others)
    (From-append 1 (text_faults 2 lines ++ here) others
    (From-append 1 (text_faults 2 lines) here (From-less 1 2 (text_faults 2 lines) (omega arith) (texts_from 2 lines))
    (From-at_line 1 1 (unless_true test wrong_head) (omega arith)))
    (statements_from_head 1 lines (omega arith) (omega arith)))))

-- where it is another one
pub head_wrong : (head : Line) (lines : List Line) → is_text head ≡ true → bytes_eq head.bytes (codes "jvolve 1") ≡ false
    → first_fault (manifest_faults (head ∷ lines)) ≡ Some (1, wrong_head)
unfolding text_faults
head_wrong head lines text is =
    let others = statement_faults (length lines + 1) [] (chunks_from 2 lines) in
    rw (text, is) (ap first_fault (append_assoc (text_faults 2 lines) ((1, wrong_head) ∷ []) others)
    ∙ middle-told (text_faults 2 lines) (1, wrong_head) others
    (From-BeforeAll (1, wrong_head) 2 (text_faults 2 lines) (omega arith) (texts_from 2 lines))
    (statements_none_before (1, wrong_head) (length lines + 1) [] (chunks_from 2 lines)
    (chunks_in opens None 2 2 (length lines + 1) lines (omega arith) (omega arith)) (omega arith) (omega arith)))
