-- Labels as the definitions see them.
use Rattle.std.specs.Prelude.{◌≡◌, ℕ, List, [], ◌∷◌, ◌++◌, Option, Some, None, is_some, if◌then◌else◌, map}
use Rattle.std.specs.Borrow.{Bor}
use Rattle.assembler_model.specs.AssemblerTerms as terms
use Rattle.assembler_model.specs.AssemblerTerms.{Label, to_interface_method}
use Rattle.assembler_model.specs.CodeFaults.{LabelPlace, label_in}

-- the entries of a table of labels
abbrev pub labels_in : List (Bor (List ℕ) × Option ℕ) → List LabelPlace
labels_in entries = map (λ entry. record { label = entry.0.now; pc = entry.1 }) entries

-- one label more, unless it is set
abbrev pub with_label : List LabelPlace → LabelPlace → List LabelPlace
with_label labels place = if is_some (label_in labels place.label) then labels else labels ++ place ∷ []

abbrev pub with_label_if_any : List LabelPlace → Option LabelPlace → List LabelPlace
with_label_if_any labels None = labels
with_label_if_any labels (Some place) = with_label labels place

-- each label is found in both, at the same place, or in none
abbrev pub SameLabels : List LabelPlace → List LabelPlace → Type 0
SameLabels labels others = (label : Label) → label_in labels label ≡ label_in others label

-- how long an instruction is doesn't depend on where its labels stand
abbrev pub no_target : Label → ℕ
no_target label = 0

-- the bytes of an instruction with a reference
abbrev pub member_size : terms.ReferenceKind → ℕ
member_size to_interface_method = 5
member_size other = 3
