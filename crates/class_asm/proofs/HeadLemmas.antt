-- A fault of the first line is told before all that stands behind it.
use Rattle.std.proofs.Common.{◌≡◌, ℕ, zero, suc, ◌+◌, ◌≤◌, List, [], ◌∷◌, ◌++◌, Bool, true, false, Option, Some, None, Result, Ok, Err, map, drop, length, refl, ap, sym, ◌∙◌, arith, lit≤}
use Rattle.std.specs.Prelude.{◌&&◌, ◌||◌, ◌==◌, IsErrAnd, flat_map, filter_map, nat_le, nat_lt}
use Rattle.std.specs.List.{list_all}
use Rattle.std.proofs.lemmas.Bool.{leb-true}
use Rattle.std.proofs.lemmas.Bool.Decides.{nat_tests}
use Rattle.std.proofs.lemmas.Grind.{flat_map-append}
use Rattle.std.proofs.lemmas.List.Folds.{list_all-append}
use Rattle.jv_model.specs.Refusal.{LineKind, not_text, open_block, out_of_range, too_many, wrong_head, wrong_order}
use Rattle.jv_model.specs.Fallible.{unless}
use Rattle.jv_model.specs.Lines.{Line, lines_of, words_of}
use Rattle.jv_model.specs.Utf16.{units_of_utf8}
use Rattle.text_model.specs.LineFaults.{Fault, at_line, first_fault, is_before, is_text, rank, unless_true, where_true}
use Rattle.text_model.specs.Words.{word_at}
use Rattle.assembler_model.specs.AssemblerTerms.{AssemblerLine}
use Rattle.assembler_model.specs.AssemblerLines.{NumberedLine}
use Rattle.assembler_model.specs.AssemblerOrder.{Part, asks_code, begins_method, block_faults, outside_faults, part_faults, parts_of, reached_by, stands}
use Rattle.assembler_model.specs.PoolEntries.{Entry, class_entry}
use Rattle.assembler_model.specs.PoolNeeds.{Need, all_needs, caught_entries, frame_entries, line_entries, needs_at, needs_by, part_needs}
use Rattle.assembler_model.specs.AssemblerPool.{entries_of, is_too_far, pool_faults}
use Rattle.assembler_model.specs.CodeLines.{CodeLine, Place, at_start, code_line, code_lines, place_after}
use Rattle.assembler_model.specs.CodeFaults.{code_faults, frame_faults, frames_of, is_catch, label_faults, labels_of, number_of_catch, offset_delta, is_above_u2, too_many_of}
use Rattle.assembler_model.specs.AssembledClass.{assembled, assembled_lines, begin_faults, class_of_parts, class_said, code_of, faults_behind_head, faults_of_part, head_faults, is_head, said_faults_of}
use Rattle.asm_parts.specs.Faults.{either, fault_of}
use Rattle.asm_parts.proofs.FaultLemmas.{either-assoc, first_fault-append}
use Rattle.asm_parts.proofs.UnitLemmas.{both}
use Rattle.asm_code.specs.Faults.{frame_numbers, is_frame_said}
use Rattle.asm_code.proofs.FaultLemmas.{catch_number, catch_skip, frame_next, frame_number, frame_skip}
use Rattle.asm_parts.specs.declared.first_fault.LineFault.{LineFault}
use Rattle.jv_types.specs.declared.class_data.ClassData as rows
use Rattle.class_asm.specs.declared.error.AsmError.{AsmError}
use Rattle.class_asm.specs.declared.error.AsmError.TheVariants as errors
use Rattle.class_asm.specs.declared.head.Head.{Head}
use Rattle.class_asm.specs.Assembles.{Assembles, head_fault}
use Rattle.class_asm.specs.Heads.{BeginsText}
use Rattle.class_asm.proofs.LineNumbers.{is_behind, is_part_behind, next, parts_behind}

-- ---- what is told after a fault of the first line

-- of a line behind the first, or of the first line and not its text
abbrev is_later : Fault → Bool
is_later fault = nat_le 2 fault.0 || ((fault.0 == 1) && nat_le 1 (rank fault.1))

abbrev Good : List Fault → Type 0
Good faults = list_all is_later faults ≡ true

good_append : (fs gs : List Fault) → Good fs → Good gs → Good (fs ++ gs)
good_append fs gs first second = list_all-append is_later fs gs ∙ rw (first, second) refl

good_line : (line : ℕ) (kinds : List LineKind) → nat_le 2 line ≡ true → Good (at_line line kinds)
good_line line [] from = refl
good_line line (kind ∷ kinds) from = rw (from, good_line line kinds from) refl

first_later : (line r : ℕ) → 1 ≤ line → 1 ≤ r → (nat_le 2 line || ((line == 1) && nat_le 1 r)) ≡ true
first_later line r from more = grind (arith, nat_tests)

-- a fault of another kind than text, whatever its line
good_kind : (line : ℕ) (kind : LineKind) → 1 ≤ line → 1 ≤ rank kind → Good ((line, kind) ∷ [])
good_kind line kind from more = rw (first_later line (rank kind) from more) refl

good_far : (line : ℕ) (test : Bool) → 1 ≤ line → Good (at_line line (where_true test out_of_range))
good_far line false from = refl
good_far line true from = good_kind line out_of_range from (lit≤ tt)

good_open : (line : ℕ) (test : Bool) → 1 ≤ line → Good (at_line line (unless_true test open_block))
good_open line true from = refl
good_open line false from = good_kind line open_block from (lit≤ tt)

good_flat : {X : Type 0} (faults : X → List Fault) (p : X → Bool) → ((x : X) → p x ≡ true → Good (faults x)) → (xs : List X)
    → list_all p xs ≡ true → Good (flat_map faults xs)
good_flat faults p good [] all = refl
good_flat faults p good (x ∷ xs) all =
    let here = both (p x) (list_all p xs) all in
    good_append (faults x) (flat_map faults xs) (good x here.0) (good_flat faults p good xs here.1)

-- ---- outside methods

good_outside : (reached : ℕ) (parts : List Part) → list_all is_part_behind parts ≡ true → Good (outside_faults reached parts)
unfolding outside_faults
good_outside reached [] all = refl
good_outside reached (part ∷ parts) all =
    let here = both (is_part_behind part) (list_all is_part_behind parts) all in
    let line = both (is_behind part.line) (list_all is_behind part.block) here.0 in
    good_append (at_line part.line.number (unless_true (stands reached part.line.form) wrong_order))
    (outside_faults (reached_by reached part.line.form) parts)
    (good_line part.line.number (unless_true (stands reached part.line.form) wrong_order) line.0)
    (good_outside (reached_by reached part.line.form) parts here.1)

-- ---- the constant pool

abbrev GoodNeeds : List Entry → List Need → Type 0
GoodNeeds entries needs = Good (pool_faults entries needs)

needs_both : (entries : List Entry) (first second : List Need) → GoodNeeds entries first → GoodNeeds entries second
    → GoodNeeds entries (first ++ second)
needs_both entries first second one two =
    let faults = λ (need : Need). at_line need.line (where_true (is_too_far entries need.entry) out_of_range) in
    ap (list_all is_later) (flat_map-append faults first second)
    ∙ good_append (flat_map faults first) (flat_map faults second) one two

needs_line : (entries : List Entry) (line : ℕ) (es : List Entry) → 1 ≤ line → GoodNeeds entries (needs_at line es)
needs_line entries line [] from = refl
needs_line entries line (entry ∷ es) from =
    good_append (at_line line (where_true (is_too_far entries entry) out_of_range)) (pool_faults entries (needs_at line es))
    (good_far line (is_too_far entries entry) from) (needs_line entries line es from)

needs_lines : (entries : List Entry) (by : Result AssemblerLine LineKind → List Entry) (lines : List NumberedLine)
    → list_all is_behind lines ≡ true → GoodNeeds entries (needs_by by lines)
needs_lines entries by [] all = refl
needs_lines entries by (line ∷ lines) all =
    let here = both (is_behind line) (list_all is_behind lines) all in
    needs_both entries (needs_at line.number (by line.said)) (needs_by by lines)
    (needs_line entries line.number (by line.said) (omega (arith, leb-true 2 line.number here.0))) (needs_lines entries by lines here.1)

needs_part : (entries : List Entry) (part : Part) → is_part_behind part ≡ true → GoodNeeds entries (part_needs part)
needs_part entries part all =
    let here = both (is_behind part.line) (list_all is_behind part.block) all in
    let first = needs_by line_entries (part.line ∷ part.block) in
    let second = needs_by caught_entries part.block in
    let third = needs_by frame_entries part.block in
    needs_both entries (first ++ second) third
    (needs_both entries first second (needs_lines entries line_entries (part.line ∷ part.block) all)
    (needs_lines entries caught_entries part.block here.1))
    (needs_lines entries frame_entries part.block here.1)

needs_parts : (entries : List Entry) (parts : List Part) → list_all is_part_behind parts ≡ true
    → GoodNeeds entries (flat_map part_needs parts)
needs_parts entries [] all = refl
needs_parts entries (part ∷ parts) all =
    let here = both (is_part_behind part) (list_all is_part_behind parts) all in
    needs_both entries (part_needs part) (flat_map part_needs parts) (needs_part entries part here.0) (needs_parts entries parts here.1)

good_needs : (entries : List Entry) (this super : List ℕ) (parts : List Part) → list_all is_part_behind parts ≡ true
    → GoodNeeds entries (all_needs this super parts)
good_needs entries this super parts all =
    needs_both entries (needs_at 1 (class_entry this ∷ class_entry super ∷ [])) (flat_map part_needs parts)
    (needs_line entries 1 (class_entry this ∷ class_entry super ∷ []) (lit≤ tt)) (needs_parts entries parts all)

-- ---- methods

abbrev is_code_behind : CodeLine → Bool
is_code_behind here = is_behind here.line

code_behind : (entries : List Entry) (place : Place) (lines : List NumberedLine) → list_all is_behind lines ≡ true
    → list_all is_code_behind (code_lines entries place lines) ≡ true
unfolding code_lines
code_behind entries place [] all = refl
code_behind entries place (line ∷ lines) all =
    let here = both (is_behind line) (list_all is_behind lines) all in
    rw (here.0, code_behind entries (place_after entries place (code_line entries place line)) lines here.1) refl

good_frames : (before : Option ℕ) (lines : List CodeLine) → list_all is_code_behind lines ≡ true → Good (frame_faults before (frames_of lines))
unfolding frames_of
good_frames before [] all = refl
good_frames before (here ∷ lines) all =
    let parts = both (is_code_behind here) (list_all is_code_behind lines) all in
    by (is_frame_said here.line.said) parts.0 (λ before. good_frames before lines parts.1) refl
  where
    by : (test : Bool) → is_code_behind here ≡ true → ((before : Option ℕ) → Good (frame_faults before (frames_of lines)))
        → is_frame_said here.line.said ≡ test → Good (frame_faults before (frames_of (here ∷ lines)))
    by true first rest is =
        ap (list_all is_later) (frame_next here before lines is)
        ∙ good_append (at_line here.line.number (where_true (is_above_u2 (offset_delta before here.pc)) out_of_range))
        (frame_faults here.pc (frames_of lines))
        (good_line here.line.number (where_true (is_above_u2 (offset_delta before here.pc)) out_of_range) first)
        (rest here.pc)
    by false first rest is =
        ap (λ frames. list_all is_later (frame_faults before frames)) (frame_skip here lines is)
        ∙ rest before

numbers_behind : (lines : List CodeLine) → list_all is_code_behind lines ≡ true → list_all (nat_le 2) (frame_numbers lines) ≡ true
unfolding frames_of
numbers_behind [] all = refl
numbers_behind (here ∷ lines) all =
    let parts = both (is_code_behind here) (list_all is_code_behind lines) all in
    by (is_frame_said here.line.said) parts.0 (numbers_behind lines parts.1) refl
  where
    by : (test : Bool) → is_code_behind here ≡ true → list_all (nat_le 2) (frame_numbers lines) ≡ true
        → is_frame_said here.line.said ≡ test → list_all (nat_le 2) (frame_numbers (here ∷ lines)) ≡ true
    by true first rest is =
        ap (list_all (nat_le 2)) (frame_number here lines is) ∙ rw (first, rest) refl
    by false first rest is =
        ap (λ frames. list_all (nat_le 2) (map (λ f. f.number) frames)) (frame_skip here lines is) ∙ rest

catches_behind : (lines : List CodeLine) → list_all is_code_behind lines ≡ true → list_all (nat_le 2) (filter_map number_of_catch lines) ≡ true
catches_behind [] all = refl
catches_behind (here ∷ lines) all =
    let parts = both (is_code_behind here) (list_all is_code_behind lines) all in
    by (is_catch here.line.said) parts.0 (catches_behind lines parts.1) refl
  where
    by : (test : Bool) → is_code_behind here ≡ true → list_all (nat_le 2) (filter_map number_of_catch lines) ≡ true
        → is_catch here.line.said ≡ test
        → list_all (nat_le 2) (filter_map number_of_catch (here ∷ lines)) ≡ true
    by true first rest is =
        ap (list_all (nat_le 2)) (catch_number here lines is) ∙ rw (first, rest) refl
    by false first rest is = ap (list_all (nat_le 2)) (catch_skip here lines is) ∙ rest

good_numbers : (most : ℕ) (numbers : List ℕ) → list_all (nat_le 2) numbers ≡ true
    → Good (map (λ number. (number, too_many)) (drop most numbers))
good_numbers zero [] all = refl
good_numbers (suc most) [] all = refl
good_numbers zero (number ∷ numbers) all =
    let here = both (nat_le 2 number) (list_all (nat_le 2) numbers) all in
    rw (here.0, good_numbers zero numbers here.1) refl
good_numbers (suc most) (number ∷ numbers) all =
    let here = both (nat_le 2 number) (list_all (nat_le 2) numbers) all in good_numbers most numbers here.1

good_many : (most : ℕ) (numbers : List ℕ) → list_all (nat_le 2) numbers ≡ true → most ≡ 65535
    → Good (too_many_of numbers)
good_many most numbers all is =
    ap (λ most. list_all is_later (map (λ number. (number, too_many)) (drop most numbers))) (sym is)
    ∙ good_numbers most numbers all

good_code : (lines : List CodeLine) → list_all is_code_behind lines ≡ true → Good (code_faults lines)
unfolding code_faults
good_code lines all =
    let first = flat_map (λ here. at_line here.line.number (here.faults ++ label_faults (labels_of lines) here)) lines in
    let second = frame_faults None (frames_of lines) in
    let third = too_many_of (frame_numbers lines) in
    let fourth = too_many_of (filter_map number_of_catch lines) in
    good_append ((first ++ second) ++ third) fourth
    (good_append (first ++ second) third
    (good_append first second
    (good_flat (λ here. at_line here.line.number (here.faults ++ label_faults (labels_of lines) here)) is_code_behind
    (λ here from. good_line here.line.number (here.faults ++ label_faults (labels_of lines) here) from) lines all)
    (good_frames None lines all))
    (good_many 65535 (frame_numbers lines) (numbers_behind lines all) refl))
    (good_many 65535 (filter_map number_of_catch lines) (catches_behind lines all) refl)

good_said : (line : NumberedLine) (said : Result AssemblerLine LineKind) → is_behind line ≡ true → Good (said_faults_of line said)
good_said line (Ok said) from = refl
good_said line (Err kind) from = good_line line.number (kind ∷ []) from

good_block : (part : Part) (block : List NumberedLine) → is_behind part.line ≡ true → list_all is_behind block ≡ true
    → Good (block_faults part block)
good_block part [] from all =
    good_line (part.line.number + 1) (where_true (asks_code part.line.said && part.is_closed) wrong_order) (next part.line.number from)
good_block part (first ∷ rest) from all =
    let here = both (is_behind first) (list_all is_behind rest) all in
    good_line first.number (unless_true (begins_method (asks_code part.line.said) first.form) wrong_order) here.0

good_begin : (block : List NumberedLine) → list_all is_behind block ≡ true → Good (begin_faults block)
good_begin [] all = refl
good_begin (first ∷ rest) all =
    let here = both (is_behind first) (list_all is_behind rest) all in good_said first first.said here.0

rest_behind : (block : List NumberedLine) → list_all is_behind block ≡ true → list_all is_behind (drop 1 block) ≡ true
rest_behind [] all = refl
rest_behind (first ∷ rest) all = (both (is_behind first) (list_all is_behind rest) all).1

good_part : (entries : List Entry) (last : ℕ) (part : Part) → 1 ≤ last → is_part_behind part ≡ true
    → Good (faults_of_part entries last part)
good_part entries last part from all =
    let here = both (is_behind part.line) (list_all is_behind part.block) all in
    let first = said_faults_of part.line part.line.said in
    let second = part_faults last part in
    let third = begin_faults part.block in
    good_append ((first ++ second) ++ third) (code_faults (code_of entries part))
    (good_append (first ++ second) third
    (good_append first second (good_said part.line part.line.said here.0)
    (good_append (block_faults part part.block) (at_line last (unless_true part.is_closed open_block))
    (good_block part part.block here.0 here.1) (good_open last part.is_closed from)))
    (good_begin part.block here.1))
    (good_code (code_of entries part) (code_behind entries at_start (drop 1 part.block) (rest_behind part.block here.1)))

-- ---- the whole

good_behind : (last : ℕ) (this super : List ℕ) (parts : List Part) (entries : List Entry) → 1 ≤ last
    → list_all is_part_behind parts ≡ true → Good (faults_behind_head last this super parts entries)
good_behind last this super parts entries from all =
    good_append (outside_faults 0 parts ++ pool_faults entries (all_needs this super parts)) (flat_map (faults_of_part entries last) parts)
    (good_append (outside_faults 0 parts) (pool_faults entries (all_needs this super parts)) (good_outside 0 parts all)
    (good_needs entries this super parts all))
    (good_flat (faults_of_part entries last) is_part_behind (λ part. good_part entries last part from) parts all)

-- what is wrong with the first line's text, or with its form
abbrev is_first : Fault → Bool
is_first fault = (fault.0 == 1) && nat_le (rank fault.1) 1

not_before : (a r b s : ℕ) → ((b == 1) && nat_le s 1) ≡ true → (nat_le 2 a || ((a == 1) && nat_le 1 r)) ≡ true
    → (nat_lt a b || ((a == b) && nat_lt r s)) ≡ false
not_before a r b s first later = grind (arith, nat_tests)

absorbs_one : (head fault : Fault) → is_first head ≡ true → is_later fault ≡ true → either (Some head) (Some fault) ≡ Some head
absorbs_one head fault first later =
    let after : is_before fault head ≡ false = not_before fault.0 (rank fault.1) head.0 (rank head.1) first later in
    rw after refl

absorbs : (head : Fault) (faults : List Fault) → is_first head ≡ true → Good faults → either (Some head) (first_fault faults) ≡ Some head
unfolding first_fault
absorbs head [] first all = refl
absorbs head (fault ∷ faults) first all =
    let here = both (is_later fault) (list_all is_later faults) all in
    either-assoc (Some head) (Some fault) (first_fault faults)
    ∙ ap (λ told. either told (first_fault faults)) (absorbs_one head fault first here.0)
    ∙ absorbs head faults first here.1

-- what is wrong with a line that is text or not, and a head or not
abbrev kinds_by : Bool → Bool → List LineKind
kinds_by text head = unless_true text not_text ++ unless_true head wrong_head

first_by : (text head : Bool) (fault : Fault) → first_fault (at_line 1 (kinds_by text head)) ≡ Some fault → is_first fault ≡ true
unfolding first_fault
first_by true true fault is = absurd cc
first_by true false fault is = let same : fault ≡ (1, wrong_head) = cc in ap is_first same
first_by false true fault is = let same : fault ≡ (1, not_text) = cc in ap is_first same
first_by false false fault is = let same : fault ≡ (1, not_text) = cc in ap is_first same

-- it is told, whatever follows
pub head_told : (lines : List Line) (fault : Fault) → head_fault lines ≡ Some fault → assembled_lines lines ≡ Err fault
head_told [] fault is = let same : (1, wrong_head) ≡ fault = cc in ap Err same
head_told (line ∷ lines) fault is =
    let this = units_of_utf8 (word_at (words_of line.bytes) 1) in
    let super = units_of_utf8 (word_at (words_of line.bytes) 3) in
    let parts = parts_of lines in
    let entries = entries_of (all_needs this super parts) in
    let behind = faults_behind_head (length lines + 1) this super parts entries in
    let first : is_first fault ≡ true = first_by (is_text line) (is_head (words_of line.bytes)) fault is in
    let all : Good behind = good_behind (length lines + 1) this super parts entries (omega arith) (parts_behind lines) in
    let told : first_fault (head_faults line ++ behind) ≡ Some fault =
    first_fault-append (head_faults line) behind ∙ ap (λ told. either told (first_fault behind)) is
    ∙ absorbs fault behind first all in
    ap (λ (told : Option Fault). unless told (class_said this super parts entries)) told

-- what is wrong with a first line that is no text, or no head
pub head_no_text : (line : Line) (lines : List Line) → is_text line ≡ false → head_fault (line ∷ lines) ≡ Some (1, not_text)
unfolding first_fault
head_no_text line lines none = by (is_text line) (is_head (words_of line.bytes)) none
  where
    by : (text head : Bool) → text ≡ false → first_fault (at_line 1 (kinds_by text head)) ≡ Some (1, not_text)
    by true head not = absurd cc
    by false true not = refl
    by false false not = refl

pub head_no_head : (line : Line) (lines : List Line) → is_text line ≡ true → is_head (words_of line.bytes) ≡ false
    → head_fault (line ∷ lines) ≡ Some (1, wrong_head)
unfolding first_fault
head_no_head line lines text none =
    ap (λ text. first_fault (at_line 1 (kinds_by text (is_head (words_of line.bytes))))) text
    ∙ ap (λ head. first_fault (at_line 1 (kinds_by true head))) none

-- nothing is wrong with a first line that is right
pub head_right : (line : Line) (lines : List Line) → is_text line ≡ true → is_head (words_of line.bytes) ≡ true
    → head_fault (line ∷ lines) ≡ None
unfolding first_fault
head_right line lines text head = ap (λ text. first_fault (at_line 1 (kinds_by text (is_head (words_of line.bytes))))) text
    ∙ ap (λ head. first_fault (at_line 1 (kinds_by true head))) head

-- and the lines behind it tell the class
pub behind_right : (line : Line) (lines : List Line) → is_text line ≡ true → is_head (words_of line.bytes) ≡ true
    → assembled_lines (line ∷ lines)
    ≡ class_of_parts (units_of_utf8 (word_at (words_of line.bytes) 1)) (units_of_utf8 (word_at (words_of line.bytes) 3)) []
    (length lines + 1) (parts_of lines)
behind_right line lines text head =
    let this = units_of_utf8 (word_at (words_of line.bytes) 1) in
    let super = units_of_utf8 (word_at (words_of line.bytes) 3) in
    ap (λ text. class_of_parts this super (at_line 1 (kinds_by text (is_head (words_of line.bytes)))) (length lines + 1) (parts_of lines)) text
    ∙ ap (λ head. class_of_parts this super (at_line 1 (kinds_by true head)) (length lines + 1) (parts_of lines)) head

-- ---- the answers

pub tells_head : (text : List ℕ) (fault : LineFault) (result : Result rows.ClassData AsmError)
    → IsErrAnd result (λ other. other ≡ errors.Line fault) → head_fault (lines_of text) ≡ Some (fault_of fault)
    → Assembles result (assembled text)
unfolding assembled
tells_head text fault (Ok class) is told = absurd is
tells_head text fault (Err other) is told = rw is (head_told (lines_of text) (fault_of fault) told)

none_some : (fault : Fault) → None ≡ Some fault → ⊥
none_some fault is = cc

-- of a first line that is right
pub right_is : (text : List ℕ) (head : Head) → BeginsText text head
    → class_of_parts (units_of_utf8 head.names.this.now) (units_of_utf8 head.names.super_class.now) []
    (length (lines_of head.behind.now) + 1) (parts_of (lines_of head.behind.now))
    ≡ assembled text
unfolding assembled
right_is text head is =
    let lines = lines_of head.behind.now in
    sym (ap assembled_lines is.lines_are ∙ behind_right is.line lines is.is_read is.names.is_right
    ∙ ap (λ this. class_of_parts (units_of_utf8 this) (units_of_utf8 (word_at (words_of is.line.bytes) 3)) [] (length lines + 1) (parts_of lines))
    is.names.this
    ∙ ap (λ super. class_of_parts (units_of_utf8 head.names.this.now) (units_of_utf8 super) [] (length lines + 1) (parts_of lines))
    is.names.super_class)

pub none_early : (text : List ℕ) (head : Head) (fault : Fault) → BeginsText text head → head_fault (lines_of text) ≡ Some fault → ⊥
none_early text head fault is told =
    none_some fault
    (sym (head_right is.line (lines_of head.behind.now) is.is_read is.names.is_right) ∙ sym (ap head_fault is.lines_are) ∙ told)
