-- Entries of a pool: which are equal, and which are there.
use Rattle.std.proofs.Common.{◌≡◌, ℕ, ℤ, List, [], ◌∷◌, ◌++◌, Bool, true, false, fold, refl, ap, sym, ◌∙◌, arith}
use Rattle.std.specs.Prelude.{◌&&◌, if◌then◌else◌, bytes_eq, flat_map}
use Rattle.std.specs.List.{list_all, list_any}
use Rattle.std.proofs.lemmas.Int.{ints}
use Rattle.std.proofs.lemmas.Bool.{and_parts, or_left, or_right}
use Rattle.std.proofs.lemmas.List.Folds.{list_all-append, list_any-append}
use Rattle.std.proofs.lemmas.Slice.Eq.{bytes_eq-Decides}
use Rattle.jv_model.specs.Operand.{MemberReference}
use Rattle.assembler_model.specs.AssemblerTerms.{ReferenceKind, to_field, to_method, to_interface_method}
use Rattle.assembler_model.specs.PoolEntries.{Entry, class_entry, int_entry, long_entry, member_entry, name_and_type_entry, same_entry, same_int, same_kind, same_reference, string_entry, text_entry, with_parts}
use Rattle.assembler_model.specs.PoolNeeds.{Need}
use Rattle.assembler_model.specs.AssemblerPool.{entries_of, with_entry}

-- ---- equal entries

bytes_same : (a b : List ℕ) → bytes_eq a b ≡ true → a ≡ b
bytes_same a b is = (bytes_eq-Decides a b).0 is

pub bytes_self : (a : List ℕ) → bytes_eq a a ≡ true
bytes_self a = (bytes_eq-Decides a a).1 refl

int_same : (a b : ℤ) → same_int a b ≡ true → a ≡ b
int_same a b is = grind (arith, ints)

int_self : (a : ℤ) → same_int a a ≡ true
int_self a = grind (arith, ints)

kind_same : (a b : ReferenceKind) → same_kind a b ≡ true → a ≡ b
kind_same to_field to_field is = refl
kind_same to_method to_method is = refl
kind_same to_interface_method to_interface_method is = refl
kind_same a b is = absurd cc

kind_self : (a : ReferenceKind) → same_kind a a ≡ true
kind_self to_field = refl
kind_self to_method = refl
kind_self to_interface_method = refl

reference_same : (a b : MemberReference) → same_reference a b ≡ true → a ≡ b
reference_same a b is =
    let first = and_parts (bytes_eq a.class b.class && bytes_eq a.name b.name) (bytes_eq a.descriptor b.descriptor) is in
    let second = and_parts (bytes_eq a.class b.class) (bytes_eq a.name b.name) first.0 in
    let class : a.class ≡ b.class = bytes_same a.class b.class second.0 in
    let name : a.name ≡ b.name = bytes_same a.name b.name second.1 in
    let descriptor : a.descriptor ≡ b.descriptor = bytes_same a.descriptor b.descriptor first.1 in
    λ i. record { class = class i; name = name i; descriptor = descriptor i }

reference_self : (a : MemberReference) → same_reference a a ≡ true
reference_self a = rw (bytes_self a.class, bytes_self a.name, bytes_self a.descriptor) refl

pub entry_same : (a b : Entry) → same_entry a b ≡ true → a ≡ b
unfolding same_entry
entry_same (text_entry a) (text_entry b) is = ap text_entry (bytes_same a b is)
entry_same (int_entry a) (int_entry b) is = ap int_entry (int_same a b is)
entry_same (long_entry a) (long_entry b) is = ap long_entry (int_same a b is)
entry_same (class_entry a) (class_entry b) is = ap class_entry (bytes_same a b is)
entry_same (string_entry a) (string_entry b) is = ap string_entry (bytes_same a b is)
entry_same (name_and_type_entry a b) (name_and_type_entry c d) is =
    let parts = and_parts (bytes_eq a c) (bytes_eq b d) is in
    let first : a ≡ c = bytes_same a c parts.0 in
    let second : b ≡ d = bytes_same b d parts.1 in cc
entry_same (member_entry a b) (member_entry c d) is =
    let parts = and_parts (same_kind a c) (same_reference b d) is in
    let first : a ≡ c = kind_same a c parts.0 in
    let second : b ≡ d = reference_same b d parts.1 in cc
entry_same a b is = absurd cc

pub entry_self : (a : Entry) → same_entry a a ≡ true
unfolding same_entry
entry_self (text_entry a) = bytes_self a
entry_self (int_entry a) = int_self a
entry_self (long_entry a) = int_self a
entry_self (class_entry a) = bytes_self a
entry_self (string_entry a) = bytes_self a
entry_self (name_and_type_entry a b) = rw (bytes_self a, bytes_self b) refl
entry_self (member_entry a b) = rw (kind_self a, reference_self b) refl

-- ---- entries that are there

abbrev pub has : List Entry → Entry → Bool
has entries entry = list_any (same_entry entry) entries

-- an entry and its parts
abbrev pub has_all : List Entry → Entry → Bool
has_all entries entry = list_all (has entries) (with_parts entry)

more_has : (test : Bool) (entries : List Entry) (entry other : Entry) → has entries other ≡ true
    → has (if test then entries else entries ++ entry ∷ []) other ≡ true
more_has true entries entry other is = is
more_has false entries entry other is =
    list_any-append (same_entry other) entries (entry ∷ []) ∙ or_left (has entries other) (has (entry ∷ []) other) is

itself_has : (test : Bool) (entries : List Entry) (entry : Entry) → has entries entry ≡ test
    → has (if test then entries else entries ++ entry ∷ []) entry ≡ true
itself_has true entries entry is = is
itself_has false entries entry is =
    list_any-append (same_entry entry) entries (entry ∷ [])
    ∙ or_right (has entries entry) (has (entry ∷ []) entry) (or_left (same_entry entry entry) false (entry_self entry))

fold_has : (entries more : List Entry) (other : Entry) → has entries other ≡ true → has (fold with_entry entries more) other ≡ true
fold_has entries [] other is = is
fold_has entries (entry ∷ more) other is =
    fold_has (with_entry entries entry) more other (more_has (has entries entry) entries entry other is)

fold_adds : (entries more : List Entry) (final : List Entry) → fold with_entry entries more ≡ final → list_all (has final) more ≡ true
fold_adds entries [] final is = refl
fold_adds entries (entry ∷ more) final is =
    let here : has final entry ≡ true =
    ap (λ final. has final entry) (sym is)
    ∙ fold_has (with_entry entries entry) more entry (itself_has (has entries entry) entries entry refl) in
    rw (here, fold_adds (with_entry entries entry) more final is) refl

-- the parts of an entry's parts are among them
parts_parts : (p : Entry → Bool) (entry : Entry) → list_all p (with_parts entry) ≡ true
    → list_all (λ part. list_all p (with_parts part)) (with_parts entry) ≡ true
unfolding with_parts
parts_parts p (text_entry text) all = rw (and_parts (p (text_entry text)) true all).0 refl
parts_parts p (int_entry value) all = rw (and_parts (p (int_entry value)) true all).0 refl
parts_parts p (long_entry value) all = rw (and_parts (p (long_entry value)) true all).0 refl
parts_parts p (class_entry name) all =
    let a = and_parts (p (text_entry name)) (p (class_entry name) && true) all in
    let b = and_parts (p (class_entry name)) true a.1 in
    rw (a.0, b.0) refl
parts_parts p (string_entry text) all =
    let a = and_parts (p (text_entry text)) (p (string_entry text) && true) all in
    let b = and_parts (p (string_entry text)) true a.1 in
    rw (a.0, b.0) refl
parts_parts p (name_and_type_entry name descriptor) all =
    let a = and_parts (p (text_entry name)) (p (text_entry descriptor) && (p (name_and_type_entry name descriptor) && true)) all in
    let b = and_parts (p (text_entry descriptor)) (p (name_and_type_entry name descriptor) && true) a.1 in
    let d = and_parts (p (name_and_type_entry name descriptor)) true b.1 in
    rw (a.0, b.0, d.0) refl
parts_parts p (member_entry kind r) all =
    let class = class_entry r.class in
    let pair = name_and_type_entry r.name r.descriptor in
    let last = p (member_entry kind r) && true in
    let a = and_parts (p (text_entry r.class)) (p class && (p (text_entry r.name) && (p (text_entry r.descriptor) && (p pair && last)))) all in
    let b = and_parts (p class) (p (text_entry r.name) && (p (text_entry r.descriptor) && (p pair && last))) a.1 in
    let d = and_parts (p (text_entry r.name)) (p (text_entry r.descriptor) && (p pair && last)) b.1 in
    let e = and_parts (p (text_entry r.descriptor)) (p pair && last) d.1 in
    let f = and_parts (p pair) last e.1 in
    let g = and_parts (p (member_entry kind r)) true f.1 in
    rw (a.0, b.0, d.0, e.0, f.0, g.0) refl

-- what all of a run of lists pass
flat_all : {X Y : Type 0} (p : Y → Bool) (f : X → List Y) (xs : List X) → list_all p (flat_map f xs) ≡ true
    → list_all (λ x. list_all p (f x)) xs ≡ true
flat_all p f [] all = refl
flat_all p f (x ∷ xs) all =
    let here = and_parts (list_all p (f x)) (list_all p (flat_map f xs)) (sym (list_all-append p (f x) (flat_map f xs)) ∙ all) in
    rw (here.0, flat_all p f xs here.1) refl

parts_all : (p : Entry → Bool) (needs : List Need) → list_all (λ need. list_all p (with_parts need.entry)) needs ≡ true
    → list_all (λ part. list_all p (with_parts part)) (flat_map (λ need. with_parts need.entry) needs) ≡ true
parts_all p [] all = refl
parts_all p (need ∷ needs) all =
    let here = and_parts (list_all p (with_parts need.entry)) (list_all (λ need. list_all p (with_parts need.entry)) needs) all in
    list_all-append (λ part. list_all p (with_parts part)) (with_parts need.entry) (flat_map (λ need. with_parts need.entry) needs)
    ∙ rw (parts_parts p need.entry here.0, parts_all p needs here.1) refl

by_there : (test : Bool) (p : Entry → Bool) (entries : List Entry) (entry : Entry) → list_all p entries ≡ true → p entry ≡ true
    → list_all p (if test then entries else entries ++ entry ∷ []) ≡ true
by_there true p entries entry all here = all
by_there false p entries entry all here = list_all-append p entries (entry ∷ []) ∙ rw (all, here) refl

fold_all : (p : Entry → Bool) (entries more : List Entry) → list_all p entries ≡ true → list_all p more ≡ true
    → list_all p (fold with_entry entries more) ≡ true
fold_all p entries [] all more = all
fold_all p entries (entry ∷ others) all more =
    let here = and_parts (p entry) (list_all p others) more in
    fold_all p (with_entry entries entry) others (by_there (has entries entry) p entries entry all here.0) here.1

-- what all parts of what is needed pass, the parts of each entry do
pub entries_pass : (p : Entry → Bool) (needs : List Need) → list_all (λ need. list_all p (with_parts need.entry)) needs ≡ true
    → list_all (λ entry. list_all p (with_parts entry)) (entries_of needs) ≡ true
unfolding entries_of
entries_pass p needs all =
    fold_all (λ entry. list_all p (with_parts entry)) [] (flat_map (λ need. with_parts need.entry) needs) refl (parts_all p needs all)

-- each need is there with its parts
pub needs_there : (needs : List Need) → list_all (λ need. has_all (entries_of needs) need.entry) needs ≡ true
unfolding entries_of
needs_there needs =
    flat_all (has (entries_of needs)) (λ need. with_parts need.entry) needs
    (fold_adds [] (flat_map (λ need. with_parts need.entry) needs) (entries_of needs) refl)

-- and so is each entry
pub entries_there : (needs : List Need) → list_all (has_all (entries_of needs)) (entries_of needs) ≡ true
entries_there needs = entries_pass (has (entries_of needs)) needs (needs_there needs)
