-- Faults of code, line by line.
use Rattle.std.proofs.Common.{◌≡◌, ℕ, zero, suc, ◌+◌, ◌-◌, ◌<◌, ◌≤◌, List, [], ◌∷◌, ◌++◌, Bool, true, false, cond, Option, Some, None, Result, Ok, Err, length, map, drop, option_map, refl, ap, sym, ◌∙◌, append_assoc, arith}
use Rattle.std.specs.Prelude.{bytes_eq, flat_map, filter_map, is_none, nat_le, option_and_then}
use Rattle.std.specs.List.{cons_option, list_any}
use Rattle.std.proofs.lemmas.Bool.{leb-true, leb-false}
use Rattle.std.proofs.lemmas.List.{map-append, append-nil}
use Rattle.jv_model.specs.Refusal.{LineKind, out_of_range, too_many, wrong_label, wrong_order}
use Rattle.text_model.specs.LineFaults.{Fault, at_line, first_fault, where_true}
use Rattle.assembler_model.specs.AssemblerTerms.{Label, AssemblerLine, branch, catch, frame, operation}
use Rattle.assembler_model.specs.CodeLines.{CodeLine}
use Rattle.assembler_model.specs.CodeFaults.{FrameAt, LabelPlace, are_too_many, code_faults, frame_faults, frame_of, frames_of, goes_too_far, is_above_u2, is_catch, is_far, label_faults, label_in, labels_of, named_labels, number_of_catch, offset_delta, pc_in, too_many_of}
use Rattle.asm_parts.specs.Faults.{either}
use Rattle.asm_parts.proofs.FaultLemmas.{either-none, first_fault-none, first_fault-one, noted}
use Rattle.asm_code.specs.Labels.{SameLabels}
use Rattle.asm_code.specs.Faults.{frame_numbers, is_frame_said, line_faults, no_pc}

-- faults of one line, in two lists
pub line_both : (line : ℕ) (first second : List LineKind) → at_line line (first ++ second) ≡ at_line line first ++ at_line line second
line_both line first second = map-append (λ kind. (line, kind)) first second

-- one note after another
pub then_noted : (told : Option Fault) (line : ℕ) (first second : List LineKind) (once twice : Option Fault)
    → once ≡ either told (first_fault (at_line line first)) → twice ≡ either once (first_fault (at_line line second))
    → twice ≡ either told (first_fault (at_line line (first ++ second)))
then_noted told line first second once twice is then =
    then ∙ ap (λ told. either told (first_fault (at_line line second))) is
    ∙ sym (noted told (at_line line first) (at_line line second))
    ∙ ap (λ faults. either told (first_fault faults)) (sym (line_both line first second))

pub none_noted : (told : Option Fault) → told ≡ either told (first_fault [])
none_noted told = sym (ap (either told) first_fault-none ∙ either-none told)

-- ---- tables that find the same labels serve alike

any_same : {X : Type 0} (p q : X → Bool) → ((x : X) → p x ≡ q x) → (xs : List X) → list_any p xs ≡ list_any q xs
any_same p q same [] = refl
any_same p q same (x ∷ xs) = rw (same x, any_same p q same xs) refl

same_pc : (labels others : List LabelPlace) → SameLabels labels others → (label : Label) → pc_in labels label ≡ pc_in others label
same_pc labels others same label = ap (λ (place : Option LabelPlace). option_and_then (λ (p : LabelPlace). p.pc) place) (same label)

above_same : (labels others : List LabelPlace) → SameLabels labels others → (names : List Label)
    → list_any (λ label. is_above_u2 (pc_in labels label)) names ≡ list_any (λ label. is_above_u2 (pc_in others label)) names
above_same labels others same names =
    any_same (λ label. is_above_u2 (pc_in labels label)) (λ label. is_above_u2 (pc_in others label))
    (λ label. ap is_above_u2 (same_pc labels others same label)) names

far_same : (labels others : List LabelPlace) → SameLabels labels others → (pc : Option ℕ) (said : Result AssemblerLine LineKind)
    → goes_too_far labels pc said ≡ goes_too_far others pc said
far_same labels others same pc (Err kind) = refl
far_same labels others same pc (Ok (operation (branch opcode label))) = ap (is_far pc) (same_pc labels others same label)
far_same labels others same pc (Ok (operation other)) = refl
far_same labels others same pc (Ok (catch from to target type)) = above_same labels others same (from ∷ to ∷ target ∷ [])
far_same labels others same pc (Ok (frame locals stack)) =
    above_same labels others same (named_labels (Ok (frame locals stack)))
far_same labels others same pc (Ok other) = refl

missing_same : (labels others : List LabelPlace) → SameLabels labels others → (names : List Label)
    → list_any (λ label. is_none (label_in labels label)) names ≡ list_any (λ label. is_none (label_in others label)) names
missing_same labels others same names =
    any_same (λ label. is_none (label_in labels label)) (λ label. is_none (label_in others label))
    (λ label. ap is_none (same label)) names

line_same : (labels others : List LabelPlace) → SameLabels labels others → (here : CodeLine) → line_faults labels here ≡ line_faults others here
line_same labels others same here =
    ap (λ missing. at_line here.line.number (here.faults ++ (where_true missing wrong_label
    ++ where_true (goes_too_far labels here.pc here.line.said) out_of_range ++ where_true (are_too_many here.line.said) too_many)))
    (missing_same labels others same (named_labels here.line.said))
    ∙ ap (λ far. at_line here.line.number (here.faults
    ++ (where_true (list_any (λ label. is_none (label_in others label)) (named_labels here.line.said)) wrong_label
    ++ where_true far out_of_range ++ where_true (are_too_many here.line.said) too_many)))
    (far_same labels others same here.pc here.line.said)

lines_same : (labels others : List LabelPlace) → SameLabels labels others → (lines : List CodeLine)
    → flat_map (line_faults labels) lines ≡ flat_map (line_faults others) lines
lines_same labels others same [] = refl
lines_same labels others same (here ∷ lines) = rw (line_same labels others same here, lines_same labels others same lines) refl

-- ---- frames

by_frame : (said : Result AssemblerLine LineKind) (here : CodeLine) (before : Option ℕ) (rest : List FrameAt) → is_frame_said said ≡ true
    → frame_faults before (cons_option (frame_of here said) rest)
    ≡ at_line here.line.number (where_true (is_above_u2 (offset_delta before here.pc)) out_of_range) ++ frame_faults here.pc rest
by_frame (Ok (frame locals stack)) here before rest is = refl
by_frame other here before rest is = absurd cc

no_frame : (said : Result AssemblerLine LineKind) (here : CodeLine) (rest : List FrameAt) → is_frame_said said ≡ false
    → cons_option (frame_of here said) rest ≡ rest
no_frame (Ok (frame locals stack)) here rest is = absurd cc
no_frame other here rest is = refl

pub frame_next : (here : CodeLine) (before : Option ℕ) (rest : List CodeLine) → is_frame_said here.line.said ≡ true
    → frame_faults before (frames_of (here ∷ rest))
    ≡ at_line here.line.number (where_true (is_above_u2 (offset_delta before here.pc)) out_of_range) ++ frame_faults here.pc (frames_of rest)
unfolding frames_of
frame_next here before rest is = by_frame here.line.said here before (frames_of rest) is

pub frame_skip : (here : CodeLine) (rest : List CodeLine) → is_frame_said here.line.said ≡ false
    → frames_of (here ∷ rest) ≡ frames_of rest
unfolding frames_of
frame_skip here rest is = no_frame here.line.said here (frames_of rest) is

pub frames_none : frames_of [] ≡ []
unfolding frames_of
frames_none = refl

by_number : (said : Result AssemblerLine LineKind) (here : CodeLine) (rest : List FrameAt) → is_frame_said said ≡ true
    → map (λ (f : FrameAt). f.number) (cons_option (frame_of here said) rest) ≡ here.line.number ∷ map (λ (f : FrameAt). f.number) rest
by_number (Ok (frame locals stack)) here rest is = refl
by_number other here rest is = absurd cc

pub frame_number : (here : CodeLine) (rest : List CodeLine) → is_frame_said here.line.said ≡ true
    → frame_numbers (here ∷ rest) ≡ here.line.number ∷ frame_numbers rest
unfolding frames_of
frame_number here rest is = by_number here.line.said here (frames_of rest) is

pub frame_number_skip : (here : CodeLine) (rest : List CodeLine) → is_frame_said here.line.said ≡ false
    → frame_numbers (here ∷ rest) ≡ frame_numbers rest
frame_number_skip here rest is = ap (map (λ (f : FrameAt). f.number)) (frame_skip here rest is)

pub frame_numbers_none : frame_numbers [] ≡ []
frame_numbers_none = ap (map (λ (f : FrameAt). f.number)) frames_none

-- ---- handlers

pub catch_number : (here : CodeLine) (rest : List CodeLine) → is_catch here.line.said ≡ true
    → filter_map number_of_catch (here ∷ rest) ≡ here.line.number ∷ filter_map number_of_catch rest
catch_number here rest is = rw is refl

pub catch_skip : (here : CodeLine) (rest : List CodeLine) → is_catch here.line.said ≡ false
    → filter_map number_of_catch (here ∷ rest) ≡ filter_map number_of_catch rest
catch_skip here rest is = rw is refl

-- ---- more than two bytes count

-- these lines, behind so many others, that are above a limit
abbrev pub too_many_from : ℕ → ℕ → List ℕ → List Fault
too_many_from most count numbers = map (λ number. (number, too_many)) (drop (most - count) numbers)

above : (most count number : ℕ) (numbers : List ℕ) (test : Bool) → nat_le most count ≡ test
    → too_many_from most count (number ∷ numbers) ≡ at_line number (where_true test too_many) ++ too_many_from most (count + 1) numbers
above most count number numbers true is =
    let over : most ≤ count = leb-true most count is in
    let none : most - count ≡ 0 = omega arith in
    let next : most - (count + 1) ≡ 0 = omega arith in
    rw (none, next) refl
above most count number numbers false is =
    let under : count < most = leb-false most count is in
    let some : most - count ≡ suc (most - (count + 1)) = omega arith in
    rw some refl

pub above_limit : (most count number : ℕ) (numbers : List ℕ)
    → too_many_from most count (number ∷ numbers)
    ≡ at_line number (where_true (nat_le most count) too_many) ++ too_many_from most (count + 1) numbers
above_limit most count number numbers = above most count number numbers (nat_le most count) refl

abbrev no_numbers : List ℕ
no_numbers = []

drop_none : (n : ℕ) → drop n no_numbers ≡ no_numbers
drop_none zero = refl
drop_none (suc n) = refl

pub nothing_above : (most count : ℕ) → too_many_from most count [] ≡ []
nothing_above most count = ap (map (λ number. (number, too_many))) (drop_none (most - count))

-- ---- all faults of a method's code

pub all_faults : (told once twice thrice last : Option Fault) (labels : List LabelPlace) (lines : List CodeLine)
    → SameLabels labels (labels_of lines)
    → once ≡ either told (first_fault (flat_map (line_faults labels) lines))
    → twice ≡ either once (first_fault (frame_faults no_pc (frames_of lines)))
    → thrice ≡ either twice (first_fault (too_many_of (frame_numbers lines)))
    → last ≡ either thrice (first_fault (too_many_of (filter_map number_of_catch lines)))
    → last ≡ either told (first_fault (code_faults lines))
unfolding code_faults
all_faults told once twice thrice last labels lines same a b d e =
    let first = flat_map (line_faults labels) lines in
    let second = frame_faults no_pc (frames_of lines) in
    let third = too_many_of (frame_numbers lines) in
    let fourth = too_many_of (filter_map number_of_catch lines) in
    let two = b ∙ ap (λ told. either told (first_fault second)) a ∙ sym (noted told first second) in
    let three = d ∙ ap (λ told. either told (first_fault third)) two ∙ sym (noted told (first ++ second) third) in
    let all = e ∙ ap (λ told. either told (first_fault fourth)) three ∙ sym (noted told ((first ++ second) ++ third) fourth) in
    all ∙ ap (λ first. either told (first_fault (((first ++ second) ++ third) ++ fourth)))
    (lines_same labels (labels_of lines) same lines)

-- ---- what is noted of a line

pub line_noted : (told once twice thrice last : Option Fault) (labels : List LabelPlace) (here : CodeLine) (missing far many : Bool)
    → missing ≡ list_any (λ label. is_none (label_in labels label)) (named_labels here.line.said)
    → far ≡ goes_too_far labels here.pc here.line.said → many ≡ are_too_many here.line.said
    → once ≡ either told (first_fault (at_line here.line.number here.faults))
    → twice ≡ either once (first_fault (at_line here.line.number (where_true missing wrong_label)))
    → thrice ≡ either twice (first_fault (at_line here.line.number (where_true far out_of_range)))
    → last ≡ either thrice (first_fault (at_line here.line.number (where_true many too_many)))
    → last ≡ either told (first_fault (line_faults labels here))
line_noted told once twice thrice last labels here missing far many is-missing is-far is-many a b d e =
    let number = here.line.number in
    let faults = here.faults in
    let first = where_true missing wrong_label in
    let second = where_true far out_of_range in
    let third = where_true many too_many in
    let two = then_noted told number faults first once twice a b in
    let three = then_noted told number (faults ++ first) second twice thrice two d in
    let four = then_noted told number ((faults ++ first) ++ second) third thrice last three e in
    four
    ∙ ap (λ kinds. either told (first_fault (at_line number (kinds ++ third)))) (append_assoc faults first second)
    ∙ ap (λ kinds. either told (first_fault (at_line number kinds))) (append_assoc faults (first ++ second) third)
    ∙ ap (λ test. either told (first_fault (at_line number (faults ++ (where_true test wrong_label ++ second ++ third))))) is-missing
    ∙ ap (λ test. either told (first_fault (at_line number (faults
    ++ (where_true (list_any (λ label. is_none (label_in labels label)) (named_labels here.line.said)) wrong_label
    ++ where_true test out_of_range ++ third))))) is-far
    ∙ ap (λ test. either told (first_fault (at_line number (faults
    ++ (where_true (list_any (λ label. is_none (label_in labels label)) (named_labels here.line.said)) wrong_label
    ++ where_true (goes_too_far labels here.pc here.line.said) out_of_range ++ where_true test too_many))))) is-many

-- one fault more, where there is one
pub one_noted : (told once twice : Option Fault) (line : ℕ) (first : List LineKind) (kind : LineKind)
    → once ≡ either told (first_fault (at_line line first)) → twice ≡ either once (Some (line, kind))
    → twice ≡ either told (first_fault (at_line line (first ++ kind ∷ [])))
one_noted told once twice line first kind a b =
    then_noted told line first (kind ∷ []) once twice a (b ∙ ap (either once) (sym (first_fault-one (line, kind))))
