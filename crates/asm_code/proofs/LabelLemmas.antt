-- Labels of a table are found as the definitions find them.
use Rattle.std.proofs.Common.{◌≡◌, ℕ, List, [], ◌∷◌, ◌++◌, Bool, true, false, cond, Option, Some, None, map, option_map, refl, ap, sym, ◌∙◌, Bor}
use Rattle.std.specs.Prelude.{bytes_eq, is_some, is_none, if◌then◌else◌, option_and_then, ◌||◌}
use Rattle.std.specs.List.{find, list_any}
use Rattle.std.specs.Option.{option_or}
use Rattle.std.specs.Map.{lookup}
use Rattle.std.proofs.lemmas.List.{append-nil}
use Rattle.std.proofs.lemmas.Slice.Eq.{bytes_eq-Decides}
use Rattle.std.proofs.lemmas.List.Folds.{find-append}
use Rattle.assembler_model.specs.AssemblerTerms.{Label}
use Rattle.assembler_model.specs.CodeFaults.{LabelPlace, label_in}
use Rattle.asm_parts.proofs.UnitLemmas.{bytes_eq-comm}
use Rattle.asm_code.specs.Labels.{labels_in, SameLabels, with_label, with_label_if_any}

abbrev pub Entries : Type 0
Entries = List (Bor (List ℕ) × Option ℕ)

-- what a look-up of a label tests
abbrev pub is_key : List ℕ → Bor (List ℕ) → Bool
is_key label key = bytes_eq label key.now

abbrev pub pc_if_any : Option LabelPlace → Option (Option ℕ)
pc_if_any place = option_map (λ (p : LabelPlace). p.pc) place

by_key : (test : Bool) (place : LabelPlace) (found : Option (Option ℕ)) (others : Option LabelPlace) → found ≡ pc_if_any others
    → cond test (Some place.pc) found ≡ pc_if_any (cond test (Some place) others)
by_key true place found others is = refl
by_key false place found others is = is

pub looked_up : (label : List ℕ) (entries : Entries)
    → lookup (is_key label) entries ≡ pc_if_any (label_in (labels_in entries) label)
looked_up label [] = refl
looked_up label (entry ∷ entries) =
    rw (bytes_eq-comm label entry.0.now)
    (by_key (bytes_eq entry.0.now label) (record { label = entry.0.now; pc = entry.1 }) (lookup (is_key label) entries)
    (label_in (labels_in entries) label) (looked_up label entries))

some_pc : (place : Option LabelPlace) → is_some (pc_if_any place) ≡ is_some place
some_pc None = refl
some_pc (Some place) = refl

-- it is there
pub is_there : (label : List ℕ) (entries : Entries)
    → is_some (lookup (is_key label) entries) ≡ is_some (label_in (labels_in entries) label)
is_there label entries = ap is_some (looked_up label entries) ∙ some_pc (label_in (labels_in entries) label)

found_pc : (place : Option LabelPlace) (pc : Option ℕ) → Some pc ≡ pc_if_any place → pc ≡ option_and_then (λ p. p.pc) place
found_pc None pc is = absurd cc
found_pc (Some place) pc is = cc

no_pc_found : (place : Option LabelPlace) → None ≡ pc_if_any place → None ≡ option_and_then (λ (p : LabelPlace). p.pc) place
no_pc_found None is = refl
no_pc_found (Some place) is = absurd cc

pub pc_found : (label : List ℕ) (entries : Entries) (pc : Option ℕ) → Some pc ≡ lookup (is_key label) entries
    → pc ≡ option_and_then (λ (p : LabelPlace). p.pc) (label_in (labels_in entries) label)
pc_found label entries pc is = found_pc (label_in (labels_in entries) label) pc (is ∙ looked_up label entries)

pub pc_none : (label : List ℕ) (entries : Entries) → None ≡ lookup (is_key label) entries
    → None ≡ option_and_then (λ (p : LabelPlace). p.pc) (label_in (labels_in entries) label)
pc_none label entries is = no_pc_found (label_in (labels_in entries) label) (is ∙ looked_up label entries)

-- ---- one label more

-- it is set already
pub label_stays : (labels : List LabelPlace) (place : LabelPlace) → is_some (label_in labels place.label) ≡ true
    → labels ≡ with_label labels place
label_stays labels place there = rw there refl

-- it is new
pub label_comes : (labels : List LabelPlace) (place : LabelPlace) → is_some (label_in labels place.label) ≡ false
    → labels ++ place ∷ [] ≡ with_label labels place
label_comes labels place new = rw new refl

-- ---- the same labels in a table and in a list

kept_by : (found : Option LabelPlace) (test : Bool) (place : LabelPlace) → (found ≡ None → test ≡ false)
    → found ≡ option_or found (cond test (Some place) None)
kept_by None test place apart = rw (apart refl) refl
kept_by (Some other) test place apart = refl

other_label : (labels : List LabelPlace) (label : Label) (place : LabelPlace) (test : Bool)
    → is_some (label_in labels place.label) ≡ true → label_in labels label ≡ None → bytes_eq place.label label ≡ test
    → test ≡ false
other_label labels label place true there none is =
    let same = (bytes_eq-Decides place.label label).0 is in
    let some : is_some (label_in labels label) ≡ true = ap (λ l. is_some (label_in labels l)) (sym same) ∙ there in
    let no : is_some (label_in labels label) ≡ false = ap is_some none in
    absurd cc
other_label labels label place false there none is = refl

-- a label that is set already is found where it was
label_kept : (labels : List LabelPlace) (place : LabelPlace) (label : Label) → is_some (label_in labels place.label) ≡ true
    → label_in labels label ≡ label_in (labels ++ place ∷ []) label
label_kept labels place label there =
    kept_by (label_in labels label) (bytes_eq place.label label) place
    (λ none. other_label labels label place (bytes_eq place.label label) there none refl)
    ∙ sym (find-append (λ (p : LabelPlace). bytes_eq p.label label) labels (place ∷ []))

same_more : (labels others : List LabelPlace) (place : LabelPlace) → SameLabels labels others
    → SameLabels (labels ++ place ∷ []) (others ++ place ∷ [])
same_more labels others place same label =
    find-append (λ (p : LabelPlace). bytes_eq p.label label) labels (place ∷ [])
    ∙ ap (λ (found : Option LabelPlace). option_or found (label_in (place ∷ []) label)) (same label)
    ∙ sym (find-append (λ (p : LabelPlace). bytes_eq p.label label) others (place ∷ []))

by_set : (test : Bool) (labels others : List LabelPlace) (place : LabelPlace) → is_some (label_in labels place.label) ≡ test
    → SameLabels labels others
    → SameLabels (if test then labels else labels ++ place ∷ []) (others ++ place ∷ [])
by_set true labels others place there same label =
    label_kept labels place label there ∙ same_more labels others place same label
by_set false labels others place new same label = same_more labels others place same label

abbrev pub if_any : Option LabelPlace → List LabelPlace
if_any None = []
if_any (Some place) = place ∷ []

-- one label more in both
pub same_next : (labels others : List LabelPlace) (place : Option LabelPlace) → SameLabels labels others
    → SameLabels (with_label_if_any labels place) (others ++ if_any place)
same_next labels others None same label =
    same label ∙ ap (λ (labels : List LabelPlace). label_in labels label) (sym (append-nil others))
same_next labels others (Some place) same label =
    by_set (is_some (label_in labels place.label)) labels others place refl same label

pub same_none : SameLabels [] []
same_none label = refl

nothing : (found : Option (Option ℕ)) → is_some found ≡ false → found ≡ None
nothing None is = refl
nothing (Some pc) is = absurd cc

pub none_found : (label : List ℕ) (entries : Entries) → is_some (lookup (is_key label) entries) ≡ false
    → lookup (is_key label) entries ≡ None
none_found label entries is = nothing (lookup (is_key label) entries) is
