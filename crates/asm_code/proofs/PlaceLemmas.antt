-- Places with the same labels serve alike.
use Rattle.std.proofs.Common.{◌≡◌, ℕ, List, [], ◌∷◌, ◌++◌, Bool, true, false, cond, not, Option, Some, None, Result, Ok, Err, length, map, option_map, refl, ap, sym, ◌∙◌, append_assoc}
use Rattle.std.specs.Prelude.{bytes_eq, is_some, if◌then◌else◌, ◌||◌, ◌==◌}
use Rattle.std.specs.List.{cons_option, find, list_any, filter_map}
use Rattle.std.proofs.lemmas.List.Elements.{filter_map-append}
use Rattle.std.proofs.lemmas.List.{map-append, append-nil}
use Rattle.std.proofs.lemmas.List.Folds.{list_any-append}
use Rattle.std.proofs.lemmas.Slice.Eq.{bytes_eq-Decides}
use Rattle.jv_model.specs.Refusal.{LineKind, wrong_label}
use Rattle.text_model.specs.LineFaults.{where_true}
use Rattle.assembler_model.specs.AssemblerTerms.{Label, AssemblerLine, flags_are, implements, field, method, stack_is, end_line, at_label, frame, catch, operation, attribute}
use Rattle.assembler_model.specs.AssemblerLines.{NumberedLine}
use Rattle.assembler_model.specs.PoolEntries.{Entry}
use Rattle.assembler_model.specs.CodeLines.{CodeLine, Place, code_line, code_lines, is_out_of_order, own_faults, place_after, place_behind, said_faults}
use Rattle.assembler_model.specs.CodeFaults.{LabelPlace, label_in, labels_of, label_of}
use Rattle.asm_parts.proofs.UnitLemmas.{bytes_eq-comm}
use Rattle.asm_code.specs.Labels.{labels_in, with_label}
use Rattle.asm_code.specs.Places.{SamePlace, place_unless}
use Rattle.asm_code.proofs.LabelLemmas.{Entries, if_any}

pub same_place : (place : Place) → SamePlace place place
same_place place = record { pc = refl; framed = refl; labels = λ label. refl }

pub same_then : (a b d : Place) → SamePlace a b → SamePlace b d → SamePlace a d
same_then a b d first second = record {
  pc = first.pc ∙ second.pc;
  framed = first.framed ∙ second.framed;
  labels = λ label. first.labels label ∙ second.labels label;
}

same_order : (a b : Place) (line : NumberedLine) → SamePlace a b → is_out_of_order a line ≡ is_out_of_order b line
same_order a b line same = rw (same.pc, same.framed) refl

same_said : (entries : List Entry) (a b : Place) (said : Result AssemblerLine LineKind) → SamePlace a b
    → said_faults entries a said ≡ said_faults entries b said
same_said entries a b (Err kind) same = refl
same_said entries a b (Ok (at_label label)) same = ap (λ test. where_true test wrong_label) (same.labels label)
same_said entries a b (Ok (operation said)) same = refl
same_said entries a b (Ok (flags_are flags)) same = refl
same_said entries a b (Ok (implements name)) same = refl
same_said entries a b (Ok (field flags name descriptor value)) same = refl
same_said entries a b (Ok (method flags name descriptor)) same = refl
same_said entries a b (Ok (stack_is stack locals)) same = refl
same_said entries a b (Ok end_line) same = refl
same_said entries a b (Ok (frame locals stack)) same = refl
same_said entries a b (Ok (catch from to target type)) same = refl
same_said entries a b (Ok (attribute name bytes)) same = refl

same_line : (entries : List Entry) (a b : Place) (line : NumberedLine) → SamePlace a b
    → code_line entries a line ≡ code_line entries b line
same_line entries a b line same =
    let faults : own_faults entries a line ≡ own_faults entries b line =
    rw (same_order a b line same, same_said entries a b line.said same) refl in
    ap (λ faults. record { line = line; pc = a.pc; faults = faults }) faults
    ∙ ap (λ pc. record { line = line; pc = pc; faults = own_faults entries b line }) same.pc

same_behind : (entries : List Entry) (a b : Place) (said : Result AssemblerLine LineKind) → SamePlace a b
    → SamePlace (place_behind entries a said) (place_behind entries b said)
same_behind entries a b (Err kind) same = same
same_behind entries a b (Ok (at_label label)) same = record {
  pc = same.pc;
  framed = same.framed;
  labels = λ other. ap (λ test. bytes_eq other label || test) (same.labels other);
}
same_behind entries a b (Ok (operation said)) same = record {
  pc = ap (option_map _) same.pc;
  framed = same.framed;
  labels = same.labels;
}
same_behind entries a b (Ok (frame locals stack)) same = record {
  pc = same.pc;
  framed = same.pc;
  labels = same.labels;
}
same_behind entries a b (Ok (flags_are flags)) same = same
same_behind entries a b (Ok (implements name)) same = same
same_behind entries a b (Ok (field flags name descriptor value)) same = same
same_behind entries a b (Ok (method flags name descriptor)) same = same
same_behind entries a b (Ok (stack_is stack locals)) same = same
same_behind entries a b (Ok end_line) same = same
same_behind entries a b (Ok (catch from to target type)) same = same
same_behind entries a b (Ok (attribute name bytes)) same = same

same_after : (entries : List Entry) (a b : Place) (here : CodeLine) → SamePlace a b
    → SamePlace (place_after entries a here) (place_after entries b here)
same_after entries a b here same =
    by (length here.faults == 0) (same_behind entries a b here.line.said same)
  where
    by : (test : Bool) → SamePlace (place_behind entries a here.line.said) (place_behind entries b here.line.said)
        → SamePlace (if test then place_behind entries a here.line.said else record (place_behind entries a here.line.said) { pc = None })
        (if test then place_behind entries b here.line.said else record (place_behind entries b here.line.said) { pc = None })
    by true same = same
    by false same = record { pc = refl; framed = same.framed; labels = same.labels }

pub same_lines : (entries : List Entry) (a b : Place) (lines : List NumberedLine) → SamePlace a b
    → code_lines entries a lines ≡ code_lines entries b lines
unfolding code_lines
same_lines entries a b [] same = refl
same_lines entries a b (line ∷ lines) same =
    let here = same_line entries a b line same in
    let next = same_after entries a b (code_line entries a line) same in
    let rest = same_lines entries (place_after entries a (code_line entries a line)) (place_after entries b (code_line entries a line)) lines next in
    ap (λ others. code_line entries a line ∷ others) rest
    ∙ ap (λ first. first ∷ code_lines entries (place_after entries b first) lines) here

-- behind a line that is faulty, or not
pub same_unless : (faulty : Bool) (entries : List Entry) (place next mid : Place) (here : CodeLine)
    → faulty ≡ not (length here.faults == 0) → SamePlace mid (place_behind entries place here.line.said)
    → next ≡ place_unless faulty mid → SamePlace next (place_after entries place here)
same_unless faulty entries place next mid here is same new =
    by (length here.faults == 0) faulty is new
  where
    by : (none faulty : Bool) → faulty ≡ not none → next ≡ place_unless faulty mid
        → SamePlace next (if none then place_behind entries place here.line.said
        else record (place_behind entries place here.line.said) { pc = None })
    by true faulty is new =
        let same_next : next ≡ mid = new ∙ ap (λ faulty. place_unless faulty mid) is in rw same_next same
    by false faulty is new =
        let same_next : next ≡ record mid { pc = None } = new ∙ ap (λ faulty. place_unless faulty mid) is in
        rw same_next (record { pc = refl; framed = same.framed; labels = same.labels })

-- ---- one line more

pub lines_next : (entries : List Entry) (so_far all : List CodeLine) (place next : Place) (line : NumberedLine) (lines : List NumberedLine)
    → so_far ++ code_lines entries place (line ∷ lines) ≡ all
    → SamePlace next (place_after entries place (code_line entries place line))
    → (so_far ++ code_line entries place line ∷ []) ++ code_lines entries next lines ≡ all
unfolding code_lines
lines_next entries so_far all place next line lines is same =
    append_assoc so_far (code_line entries place line ∷ []) (code_lines entries next lines)
    ∙ ap (λ others. so_far ++ code_line entries place line ∷ others)
    (same_lines entries next (place_after entries place (code_line entries place line)) lines same)
    ∙ is

pub lines_end : (entries : List Entry) (so_far all : List CodeLine) (place : Place)
    → so_far ++ code_lines entries place [] ≡ all → so_far ≡ all
unfolding code_lines
lines_end entries so_far all place is = sym (append-nil so_far) ∙ is

one_label : (label : Option LabelPlace) → cons_option label [] ≡ if_any label
one_label None = refl
one_label (Some label) = refl

-- the labels of one line more
pub labels_next : (so_far : List CodeLine) (here : CodeLine)
    → labels_of (so_far ++ here ∷ []) ≡ labels_of so_far ++ if_any (label_of here.pc here.line.said)
unfolding labels_of
labels_next so_far here =
    filter_map-append (λ (here : CodeLine). label_of here.pc here.line.said) so_far (here ∷ [])
    ∙ ap (λ last. labels_of so_far ++ last) (one_label (label_of here.pc here.line.said))

pub labels_none : labels_of [] ≡ []
unfolding labels_of
labels_none = refl

-- ---- labels of a place

-- the words of a table's labels
abbrev pub words_in : Entries → List Label
words_in entries = map (λ entry. entry.0.now) entries

abbrev words_of : List LabelPlace → List Label
words_of labels = map (λ (p : LabelPlace). p.label) labels

words_are : (entries : Entries) → words_in entries ≡ words_of (labels_in entries)
words_are [] = refl
words_are (entry ∷ entries) = ap (λ words. entry.0.now ∷ words) (words_are entries)

by_word : (test : Bool) (place : LabelPlace) (any : Bool) (found : Option LabelPlace) → any ≡ is_some found
    → (test || any) ≡ is_some (cond test (Some place) found)
by_word true place any found is = refl
by_word false place any found is = is

any_word : (labels : List LabelPlace) (label : Label) → list_any (bytes_eq label) (words_of labels) ≡ is_some (label_in labels label)
any_word [] label = refl
any_word (place ∷ labels) label =
    rw (bytes_eq-comm label place.label)
    (by_word (bytes_eq place.label label) place (list_any (bytes_eq label) (words_of labels)) (label_in labels label) (any_word labels label))

-- a label of a table
pub any_known : (entries : Entries) (label : Label)
    → list_any (bytes_eq label) (words_in entries) ≡ is_some (label_in (labels_in entries) label)
any_known entries label = ap (list_any (bytes_eq label)) (words_are entries) ∙ any_word (labels_in entries) label

or_comm : (a b : Bool) → (a || (b || false)) ≡ (b || a)
or_comm true true = refl
or_comm true false = refl
or_comm false true = refl
or_comm false false = refl

known_already : (test : Bool) (labels : List LabelPlace) (place : LabelPlace) (other : Label)
    → bytes_eq other place.label ≡ test → is_some (label_in labels place.label) ≡ true
    → list_any (bytes_eq other) (words_of labels) ≡ (test || list_any (bytes_eq other) (words_of labels))
known_already true labels place other is there =
    let same = (bytes_eq-Decides other place.label).0 is in
    ap (λ label. list_any (bytes_eq label) (words_of labels)) same ∙ any_word labels place.label ∙ there
known_already false labels place other is there = refl

words_with : (test : Bool) (labels : List LabelPlace) (place : LabelPlace) (other : Label)
    → is_some (label_in labels place.label) ≡ test
    → list_any (bytes_eq other) (words_of (if test then labels else labels ++ place ∷ []))
    ≡ (bytes_eq other place.label || list_any (bytes_eq other) (words_of labels))
words_with true labels place other there = known_already (bytes_eq other place.label) labels place other refl there
words_with false labels place other new =
    ap (list_any (bytes_eq other)) (map-append (λ (p : LabelPlace). p.label) labels (place ∷ []))
    ∙ list_any-append (bytes_eq other) (words_of labels) (place.label ∷ [])
    ∙ or_comm (list_any (bytes_eq other) (words_of labels)) (bytes_eq other place.label)

-- one label more in a table
pub word_more : (old new : Entries) (place : LabelPlace) (other : Label)
    → labels_in new ≡ with_label (labels_in old) place
    → list_any (bytes_eq other) (words_in new) ≡ (bytes_eq other place.label || list_any (bytes_eq other) (words_in old))
word_more old new place other is =
    ap (list_any (bytes_eq other)) (words_are new ∙ ap words_of is)
    ∙ words_with (is_some (label_in (labels_in old) place.label)) (labels_in old) place other refl
    ∙ ap (λ words. bytes_eq other place.label || list_any (bytes_eq other) words) (sym (words_are old))
