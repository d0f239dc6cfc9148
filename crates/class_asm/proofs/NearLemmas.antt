-- What is near where all needs of a text are.
use Rattle.std.proofs.Common.{◌≡◌, ℕ, zero, suc, ◌<◌, List, [], ◌∷◌, ◌++◌, true, false, length, get_or, refl, ap, sym, ◌∙◌, arith}
use Rattle.std.specs.Prelude.{flat_map}
use Rattle.std.specs.List.{list_all}
use Rattle.std.proofs.lemmas.List.Folds.{list_all-append}
use Rattle.assembler_model.specs.AssemblerLines.{NumberedLine}
use Rattle.assembler_model.specs.AssemblerOrder as model
use Rattle.assembler_model.specs.PoolEntries.{Entry, class_entry}
use Rattle.assembler_model.specs.PoolNeeds.{Need, all_needs, caught_entries, frame_entries, line_entries, needs_at, needs_by, part_needs}
use Rattle.assembler_model.specs.AssemblerPool.{is_too_far}
use Rattle.asm_parts.specs.Parts.{part_of, parts_of}
use Rattle.asm_parts.specs.declared.part.Part.{Part}
use Rattle.asm_parts.proofs.UnitLemmas.{both}
use Rattle.asm_pool.specs.Near.{is_near, needs_near}
use Rattle.asm_pool.proofs.NearLemmas.{not_true}

-- the first entry, and the others
pub first_near : (entries : List Entry) (entry : Entry) (others : List Entry) → list_all (is_near entries) (entry ∷ others) ≡ true
    → (is_too_far entries entry ≡ false) × (list_all (is_near entries) others ≡ true)
first_near entries entry others near =
    let here = both (is_near entries entry) (list_all (is_near entries) others) near in
    (not_true (is_too_far entries entry) here.0, here.1)

-- what one line needs
line_near : (entries : List Entry) (line : ℕ) (es : List Entry) → needs_near entries (needs_at line es) ≡ true
    → list_all (is_near entries) es ≡ true
line_near entries line [] near = refl
line_near entries line (entry ∷ es) near =
    let here = both (is_near entries entry) (needs_near entries (needs_at line es)) near in
    rw (here.0, line_near entries line es here.1) refl

-- two runs of needs
split_near : (entries : List Entry) (first second : List Need) → needs_near entries (first ++ second) ≡ true
    → (needs_near entries first ≡ true) × (needs_near entries second ≡ true)
split_near entries first second near =
    both (needs_near entries first) (needs_near entries second)
    (sym (list_all-append (λ need. is_near entries need.entry) first second) ∙ near)

-- what a line outside methods needs, and the lines of its block
pub part_near : (entries : List Entry) (part : model.Part) → needs_near entries (part_needs part) ≡ true
    → (list_all (is_near entries) (line_entries part.line.said) ≡ true)
    × (needs_near entries (needs_by line_entries part.block) ≡ true)
part_near entries part near =
    let first = needs_by line_entries (part.line ∷ part.block) in
    let second = needs_by caught_entries part.block in
    let third = needs_by frame_entries part.block in
    let a = split_near entries (first ++ second) third near in
    let b = split_near entries first second a.0 in
    let d = split_near entries (needs_at part.line.number (line_entries part.line.said)) (needs_by line_entries part.block) b.0 in
    (line_near entries part.line.number (line_entries part.line.said) d.0, d.1)

-- what the first line of a block needs
pub block_near : (entries : List Entry) (first : NumberedLine) (rest : List NumberedLine)
    → needs_near entries (needs_by line_entries (first ∷ rest)) ≡ true → list_all (is_near entries) (line_entries first.said) ≡ true
block_near entries first rest near =
    line_near entries first.number (line_entries first.said)
    (split_near entries (needs_at first.number (line_entries first.said)) (needs_by line_entries rest) near).0

-- one of the parts
pub at_near : (entries : List Entry) (parts : List Part) (i : ℕ) (part : Part) → i < length parts → part ≡ get_or parts i part
    → needs_near entries (flat_map part_needs (parts_of parts)) ≡ true → needs_near entries (part_needs (part_of part)) ≡ true
at_near entries [] i part within is near = absurd (omega arith)
at_near entries (first ∷ parts) zero part within is near =
    let here = split_near entries (part_needs (part_of first)) (flat_map part_needs (parts_of parts)) near in
    ap (λ part. needs_near entries (part_needs (part_of part))) is ∙ here.0
at_near entries (first ∷ parts) (suc i) part within is near =
    let here = split_near entries (part_needs (part_of first)) (flat_map part_needs (parts_of parts)) near in
    at_near entries parts i part (omega arith) is here.1

-- the class and its superclass, and all parts
pub all_near : (entries : List Entry) (this super : List ℕ) (parts : List model.Part) → needs_near entries (all_needs this super parts) ≡ true
    → (is_too_far entries (class_entry this) ≡ false) × (is_too_far entries (class_entry super) ≡ false)
    × (needs_near entries (flat_map part_needs parts) ≡ true)
all_near entries this super parts near =
    let a = split_near entries (needs_at 1 (class_entry this ∷ class_entry super ∷ [])) (flat_map part_needs parts) near in
    let b = first_near entries (class_entry this) (class_entry super ∷ []) (line_near entries 1 (class_entry this ∷ class_entry super ∷ []) a.0) in
    let d = first_near entries (class_entry super) [] b.1 in
    (b.0, d.0, a.1)
