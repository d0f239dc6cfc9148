-- What the lines of a text need is there.
use Rattle.std.proofs.Common.{◌≡◌, ℕ, List, [], ◌∷◌, ◌++◌, Bool, true, refl, sym, ◌∙◌}
use Rattle.std.specs.Prelude.{◌&&◌, flat_map}
use Rattle.std.specs.List.{list_all}
use Rattle.std.proofs.lemmas.List.Folds.{list_all-append}
use Rattle.std.proofs.lemmas.Bool.{and_parts}
use Rattle.assembler_model.specs.AssemblerLines.{NumberedLine}
use Rattle.assembler_model.specs.AssemblerOrder.{Part}
use Rattle.assembler_model.specs.PoolEntries.{Entry, class_entry}
use Rattle.assembler_model.specs.PoolNeeds.{Need, all_needs, caught_entries, frame_entries, line_entries, needs_at, needs_by, part_needs}

-- the needs whose entries all pass
abbrev pub all_pass : (Entry → Bool) → List Need → Bool
all_pass p needs = list_all (λ need. p need.entry) needs

split_pass : (p : Entry → Bool) (first second : List Need) → all_pass p (first ++ second) ≡ true
    → (all_pass p first ≡ true) × (all_pass p second ≡ true)
split_pass p first second all =
    and_parts (all_pass p first) (all_pass p second) (sym (list_all-append (λ need. p need.entry) first second) ∙ all)

line_pass : (p : Entry → Bool) (line : ℕ) (entries : List Entry) → all_pass p (needs_at line entries) ≡ true → list_all p entries ≡ true
line_pass p line [] all = refl
line_pass p line (entry ∷ entries) all =
    let here = and_parts (p entry) (all_pass p (needs_at line entries)) all in
    rw (here.0, line_pass p line entries here.1) refl

-- those of a line outside methods, and of the first line of the method that it begins
pub part_pass : (p : Entry → Bool) (part : Part) → all_pass p (part_needs part) ≡ true
    → (list_all p (line_entries part.line.said) ≡ true) × (all_pass p (needs_by line_entries part.block) ≡ true)
part_pass p part all =
    let first = needs_by line_entries (part.line ∷ part.block) in
    let second = needs_by caught_entries part.block in
    let third = needs_by frame_entries part.block in
    let a = split_pass p (first ++ second) third all in
    let b = split_pass p first second a.0 in
    let d = split_pass p (needs_at part.line.number (line_entries part.line.said)) (needs_by line_entries part.block) b.0 in
    (line_pass p part.line.number (line_entries part.line.said) d.0, d.1)

pub block_pass : (p : Entry → Bool) (first : NumberedLine) (rest : List NumberedLine)
    → all_pass p (needs_by line_entries (first ∷ rest)) ≡ true → list_all p (line_entries first.said) ≡ true
block_pass p first rest all =
    line_pass p first.number (line_entries first.said)
    (split_pass p (needs_at first.number (line_entries first.said)) (needs_by line_entries rest) all).0

-- of all parts
pub parts_pass : (p : Entry → Bool) (parts : List Part) → all_pass p (flat_map part_needs parts) ≡ true
    → list_all (λ part. all_pass p (part_needs part)) parts ≡ true
parts_pass p [] all = refl
parts_pass p (part ∷ parts) all =
    let here = split_pass p (part_needs part) (flat_map part_needs parts) all in
    rw (here.0, parts_pass p parts here.1) refl

-- the class, its superclass, and the parts
pub text_pass : (p : Entry → Bool) (this super : List ℕ) (parts : List Part) → all_pass p (all_needs this super parts) ≡ true
    → (p (class_entry this) ≡ true) × (p (class_entry super) ≡ true) × (list_all (λ part. all_pass p (part_needs part)) parts ≡ true)
text_pass p this super parts all =
    let a = split_pass p (needs_at 1 (class_entry this ∷ class_entry super ∷ [])) (flat_map part_needs parts) all in
    let b = and_parts (p (class_entry this)) (p (class_entry super) && true) a.0 in
    let d = and_parts (p (class_entry super)) true b.1 in
    (b.0, d.0, parts_pass p parts a.1)
