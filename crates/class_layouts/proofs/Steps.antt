-- Layouts by number, one row and one class more.
use Rattle.std.proofs.Common.{◌≡◌, ℕ, ◌+◌, ◌<◌, ◌≤◌, Bool, true, false, List, [], ◌∷◌, ◌++◌, Option, Some, length, reverse, take, drop, get_or, slice_get, if◌then◌else◌, ap, sym, ◌∙◌, refl, append_assoc, arith}
use Rattle.std.specs.List.{flat_map}
use Rattle.std.proofs.lemmas.List.{at_drop_more, append-nil, reverse-append, take_more}
use Rattle.std.proofs.lemmas.Option.{slice_get_within, get_or_from_slice_get}
use Rattle.jv_types.specs.Sequence.{Sequence}
use Rattle.jv_types.specs.declared.number.ClassNo.{ClassNo}
use Rattle.class_world.specs.declared.class_info.FieldPlace.{FieldPlace}
use Rattle.class_members.specs.declared.field.FieldRow.{FieldRow}
use Rattle.heap_face.specs.declared.layout.Cell.{Cell}
use Rattle.class_layouts.specs.ByNumber.{own_fields, own_cells, rows_in, rows_at, all_fields, all_cells}

-- ---- one row

fields_cons : (class : ClassNo) (i : ℕ) (row : FieldRow) (rows : List FieldRow)
    → own_fields class i (row ∷ rows) ≡ own_fields class i (row ∷ []) ++ own_fields class (i + 1) rows
fields_cons class i row rows = by row.is_static
  where
    by : (b : Bool)
        → (if b then own_fields class (i + 1) rows else record { class = class; index = i } ∷ own_fields class (i + 1) rows)
        ≡ (if b then [] else record { class = class; index = i } ∷ []) ++ own_fields class (i + 1) rows
    by true = refl
    by false = refl

cells_cons : (row : FieldRow) (rows : List FieldRow) → own_cells (row ∷ rows) ≡ own_cells (row ∷ []) ++ own_cells rows
cells_cons row rows = by row.is_static
  where
    by : (b : Bool) → (if b then own_cells rows else row.cell ∷ own_cells rows)
        ≡ (if b then [] else row.cell ∷ []) ++ own_cells rows
    by true = refl
    by false = refl

next_row : {A : Type 0} (F : List FieldRow → A) (rows : List FieldRow) (i : ℕ) (row : FieldRow)
    → slice_get rows i ≡ Some row → F (drop i rows) ≡ F (row ∷ drop (i + 1) rows)
next_row F rows i row at =
    at_drop_more F rows i row (slice_get_within rows i row at)
    ∙ ap (λ (r : FieldRow). F (r ∷ drop (i + 1) rows)) (get_or_from_slice_get rows i row row at)

pub fields_more : (class : ClassNo) (rows : List FieldRow) (i : ℕ) (row : FieldRow) (before after all : List FieldPlace)
    → slice_get rows i ≡ Some row → after ≡ before ++ own_fields class i (row ∷ [])
    → before ++ own_fields class i (drop i rows) ≡ all → after ++ own_fields class (i + 1) (drop (i + 1) rows) ≡ all
fields_more class rows i row before after all at is_after so_far =
    let rest = own_fields class (i + 1) (drop (i + 1) rows) in
    ap (λ (l : List FieldPlace). l ++ rest) is_after
    ∙ append_assoc before (own_fields class i (row ∷ [])) rest
    ∙ ap (λ (l : List FieldPlace). before ++ l)
    (sym (next_row (own_fields class i) rows i row at ∙ fields_cons class i row (drop (i + 1) rows)))
    ∙ so_far

pub cells_more : (rows : List FieldRow) (i : ℕ) (row : FieldRow) (before after all : List Cell)
    → slice_get rows i ≡ Some row → after ≡ before ++ own_cells (row ∷ [])
    → before ++ own_cells (drop i rows) ≡ all → after ++ own_cells (drop (i + 1) rows) ≡ all
cells_more rows i row before after all at is_after so_far =
    let rest = own_cells (drop (i + 1) rows) in
    ap (λ (l : List Cell). l ++ rest) is_after
    ∙ append_assoc before (own_cells (row ∷ [])) rest
    ∙ ap (λ (l : List Cell). before ++ l)
    (sym (next_row own_cells rows i row at ∙ cells_cons row (drop (i + 1) rows)))
    ∙ so_far

-- ---- one class, where the classes are gone through from the last one

pub rows_there : (rows : List (Sequence FieldRow)) (class : ClassNo) (row : Sequence FieldRow)
    → slice_get rows class.0 ≡ Some row → row.items ≡ rows_at rows class
rows_there rows class row at = sym (ap rows_in at)

-- of each class some items
pub class_more : {A : Type 0} (of : ClassNo → List A) (chain : List ClassNo) (left : ℕ) (class : ClassNo)
    (before after all : List A) → left < length chain → class ≡ get_or chain left class
    → after ≡ before ++ of class
    → before ++ flat_map of (reverse (take (left + 1) chain)) ≡ all
    → after ++ flat_map of (reverse (take left chain)) ≡ all
class_more of chain left class before after all inside is is_after so_far =
    let rest = flat_map of (reverse (take left chain)) in
    let last = take_more chain left class inside ∙ ap (λ (c : ClassNo). take left chain ++ c ∷ []) (sym is) in
    ap (λ l. l ++ rest) is_after
    ∙ append_assoc before (of class) rest
    ∙ ap (λ (cs : List ClassNo). before ++ flat_map of cs)
    (sym (ap reverse last ∙ reverse-append (take left chain) (class ∷ [])))
    ∙ so_far
