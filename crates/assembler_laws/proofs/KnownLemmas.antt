-- The entries that a text without a fault needs are in its pool, at indices that two bytes hold.
use Rattle.std.proofs.Common.{◌≡◌, ℕ, List, [], ◌∷◌, Bool, true, false, refl, ap, sym, ◌∙◌, arith}
use Rattle.std.specs.Prelude.{◌&&◌, flat_map, nat_le, nat_lt}
use Rattle.std.specs.List.{AllByRecursion, list_all, list_any}
use Rattle.std.proofs.lemmas.Bool.{and_parts, le-leb, leb-true, ltb-false, or_parts}
use Rattle.jv_model.specs.Refusal.{out_of_range}
use Rattle.jv_model.specs.ClassData.{Const}
use Rattle.jv_model.specs.Profile.{FitsConst, IsU2}
use Rattle.text_model.specs.LineFaults.{at_line, where_true}
use Rattle.text_model.specs.Numerals.{most_u2}
use Rattle.assembler_model.specs.AssemblerTerms.{ConstantText, ReferenceKind, of_int, of_long, of_string, to_field, to_interface_method, to_method}
use Rattle.assembler_model.specs.PoolEntries.{Entry, class_entry, int_entry, long_entry, member_entry, name_and_type_entry, string_entry, text_entry, with_parts}
use Rattle.assembler_model.specs.PoolNeeds.{Need, constant_entry}
use Rattle.assembler_model.specs.AssemblerPool.{const_of, entries_of, index_in, is_too_far, pool_faults}
use Rattle.assembler_laws.proofs.EntryLemmas.{entries_pass, has, has_all, needs_there}
use Rattle.assembler_laws.proofs.FaultLemmas.{neither, test_fails}
use Rattle.assembler_laws.proofs.FitLemmas.{FitsEntry}
use Rattle.assembler_laws.proofs.ListLemmas.{all_append}

-- two bytes hold the index of an entry, and those of its parts
abbrev is_near : List Entry → Entry → Bool
is_near entries entry = nat_le (index_in entries entry) most_u2

abbrev are_near : List Entry → Entry → Bool
are_near entries entry = list_all (is_near entries) (with_parts entry)

not_above : {A : Type 0} (n : A → ℕ) (most : ℕ) (xs : List A) → list_any (λ x. nat_lt most (n x)) xs ≡ false
    → list_all (λ x. nat_le (n x) most) xs ≡ true
not_above n most [] none = refl
not_above n most (x ∷ xs) none =
    let parts = or_parts (nat_lt most (n x)) (list_any (λ x. nat_lt most (n x)) xs) none in
    let here : nat_le (n x) most ≡ true = le-leb (n x) most (ltb-false most (n x) parts.0) in
    rw (here, not_above n most xs parts.1) refl

needs_near : (entries : List Entry) (needs : List Need) → pool_faults entries needs ≡ []
    → list_all (λ need. are_near entries need.entry) needs ≡ true
needs_near entries [] none = refl
needs_near entries (need ∷ needs) none =
    let parts = neither (at_line need.line (where_true (is_too_far entries need.entry) out_of_range)) (pool_faults entries needs) none in
    let here : are_near entries need.entry ≡ true =
    not_above (index_in entries) most_u2 (with_parts need.entry)
    (test_fails need.line out_of_range (is_too_far entries need.entry) parts.0) in
    rw (here, needs_near entries needs parts.1) refl

-- ---- what is needed

-- it is there with its parts, and near
abbrev pub is_known : List Entry → Entry → Bool
is_known entries entry = has_all entries entry && are_near entries entry

both_pass : {A : Type 0} (p q : A → Bool) (xs : List A) → list_all p xs ≡ true → list_all q xs ≡ true
    → list_all (λ x. p x && q x) xs ≡ true
both_pass p q [] first second = refl
both_pass p q (x ∷ xs) first second =
    let a = and_parts (p x) (list_all p xs) first in
    let b = and_parts (q x) (list_all q xs) second in
    rw (a.0, b.0, both_pass p q xs a.1 b.1) refl

pub needs_known : (needs : List Need) → pool_faults (entries_of needs) needs ≡ []
    → list_all (λ need. is_known (entries_of needs) need.entry) needs ≡ true
needs_known needs none =
    both_pass (λ need. has_all (entries_of needs) need.entry) (λ need. are_near (entries_of needs) need.entry) needs
    (needs_there needs) (needs_near (entries_of needs) needs none)

-- an entry is there, and two bytes hold its index
pub record IsThere (entries : List Entry) (entry : Entry) : Type 0 where
  pub there : has entries entry ≡ true
  pub index : IsU2 (index_in entries entry)

near_index : (entries : List Entry) (entry : Entry) → is_near entries entry ≡ true → IsU2 (index_in entries entry)
near_index entries entry near = omega (arith, leb-true (index_in entries entry) most_u2 near)

is_there : (entries : List Entry) (entry : Entry) → has entries entry ≡ true → is_near entries entry ≡ true → IsThere entries entry
is_there entries entry there near = record { there = there; index = near_index entries entry near }

-- the entry of an int, of a long, or of a text by itself
one_there : (entries : List Entry) (entry : Entry) → with_parts entry ≡ entry ∷ [] → is_known entries entry ≡ true → IsThere entries entry
one_there entries entry alone known =
    let parts = and_parts (has_all entries entry) (are_near entries entry) known in
    let there : list_all (has entries) (entry ∷ []) ≡ true = ap (list_all (has entries)) (sym alone) ∙ parts.0 in
    let near : list_all (is_near entries) (entry ∷ []) ≡ true = ap (list_all (is_near entries)) (sym alone) ∙ parts.1 in
    is_there entries entry (and_parts (has entries entry) true there).0 (and_parts (is_near entries entry) true near).0

-- of an entry behind one other
two_there : (entries : List Entry) (part entry : Entry) → with_parts entry ≡ part ∷ entry ∷ [] → is_known entries entry ≡ true
    → IsThere entries entry
two_there entries part entry parts known =
    let both = and_parts (has_all entries entry) (are_near entries entry) known in
    let there : list_all (has entries) (part ∷ entry ∷ []) ≡ true = ap (list_all (has entries)) (sym parts) ∙ both.0 in
    let near : list_all (is_near entries) (part ∷ entry ∷ []) ≡ true = ap (list_all (is_near entries)) (sym parts) ∙ both.1 in
    let a = and_parts (has entries part) (has entries entry && true) there in
    let b = and_parts (is_near entries part) (is_near entries entry && true) near in
    is_there entries entry (and_parts (has entries entry) true a.1).0 (and_parts (is_near entries entry) true b.1).0

pub text_there : (entries : List Entry) (text : List ℕ) → is_known entries (text_entry text) ≡ true
    → IsThere entries (text_entry text)
unfolding with_parts
text_there entries text known = one_there entries (text_entry text) refl known

pub class_there : (entries : List Entry) (name : List ℕ) → is_known entries (class_entry name) ≡ true
    → IsThere entries (class_entry name)
unfolding with_parts
class_there entries name known = two_there entries (text_entry name) (class_entry name) refl known

pub constant_there : (entries : List Entry) (constant : ConstantText) → is_known entries (constant_entry constant) ≡ true
    → IsThere entries (constant_entry constant)
unfolding with_parts
constant_there entries (of_int value) known = one_there entries (int_entry value) refl known
constant_there entries (of_long value) known = one_there entries (long_entry value) refl known
constant_there entries (of_string text) known = two_there entries (text_entry text) (string_entry text) refl known

-- ---- the entries as they stand in the file

abbrev FitConsts : List Const → Type 0
FitConsts constants = AllByRecursion FitsConst constants

const_fits : (all : List Entry) (entry : Entry) → FitsEntry entry → are_near all entry ≡ true → FitConsts (const_of all entry)
unfolding with_parts
const_fits all (text_entry text) fits near = (record { units_fit = fits; spelled = refl }, tt)
const_fits all (int_entry value) fits near = (fits, tt)
const_fits all (long_entry value) fits near = (fits, (tt, tt))
const_fits all (class_entry name) fits near =
    let a = and_parts (is_near all (text_entry name)) (is_near all (class_entry name) && true) near in
    (near_index all (text_entry name) a.0, tt)
const_fits all (string_entry text) fits near =
    let a = and_parts (is_near all (text_entry text)) (is_near all (string_entry text) && true) near in
    (near_index all (text_entry text) a.0, tt)
const_fits all (name_and_type_entry name descriptor) fits near =
    let last = is_near all (name_and_type_entry name descriptor) && true in
    let a = and_parts (is_near all (text_entry name)) (is_near all (text_entry descriptor) && last) near in
    let b = and_parts (is_near all (text_entry descriptor)) last a.1 in
    ((near_index all (text_entry name) a.0, near_index all (text_entry descriptor) b.0), tt)
const_fits all (member_entry kind r) fits near =
    let class = class_entry r.class in
    let pair = name_and_type_entry r.name r.descriptor in
    let last = is_near all (member_entry kind r) && true in
    let name = is_near all (text_entry r.name) in
    let descriptor = is_near all (text_entry r.descriptor) in
    let a = and_parts (is_near all (text_entry r.class)) (is_near all class && (name && (descriptor && (is_near all pair && last)))) near in
    let b = and_parts (is_near all class) (name && (descriptor && (is_near all pair && last))) a.1 in
    let d = and_parts name (descriptor && (is_near all pair && last)) b.1 in
    let e = and_parts descriptor (is_near all pair && last) d.1 in
    let f = and_parts (is_near all pair) last e.1 in
    by kind (near_index all class b.0) (near_index all pair f.0)
  where
    by : (kind : ReferenceKind) → IsU2 (index_in all (class_entry r.class)) → IsU2 (index_in all (name_and_type_entry r.name r.descriptor))
        → FitConsts (const_of all (member_entry kind r))
    by to_field owner pair = ((owner, pair), tt)
    by to_method owner pair = ((owner, pair), tt)
    by to_interface_method owner pair = ((owner, pair), tt)

consts_fit : (all entries : List Entry) → AllByRecursion FitsEntry entries → list_all (are_near all) entries ≡ true
    → FitConsts (flat_map (const_of all) entries)
consts_fit all [] fit near = tt
consts_fit all (entry ∷ entries) fit near =
    let here = and_parts (are_near all entry) (list_all (are_near all) entries) near in
    all_append FitsConst (const_of all entry) (flat_map (const_of all) entries) (const_fits all entry fit.0 here.0)
    (consts_fit all entries fit.1 here.1)

-- all of the pool behind its first gap
pub pool_fits : (needs : List Need) → AllByRecursion FitsEntry (entries_of needs) → pool_faults (entries_of needs) needs ≡ []
    → AllByRecursion FitsConst (flat_map (const_of (entries_of needs)) (entries_of needs))
pool_fits needs fit none =
    consts_fit (entries_of needs) (entries_of needs) fit
    (entries_pass (is_near (entries_of needs)) needs (needs_near (entries_of needs) needs none))
