-- What stands at the index of an entry.
use Rattle.std.proofs.Common.{◌≡◌, ℕ, suc, ◌+◌, ◌-◌, ◌≤◌, List, [], ◌∷◌, ◌++◌, Bool, true, false, refl, ap, ◌∙◌, arith}
use Rattle.std.specs.Prelude.{◌||◌, if◌then◌else◌, flat_map}
use Rattle.jv_model.specs.ClassData.{Const, gap, utf8, integer, long, class, string, name_and_type}
use Rattle.jv_model.specs.ConstantPool.{const_at}
use Rattle.assembler_model.specs.PoolEntries.{Entry, class_entry, int_entry, long_entry, member_entry, name_and_type_entry, same_entry, string_entry, text_entry}
use Rattle.assembler_model.specs.AssemblerPool.{const_of, index_from, index_in, indices_of, pool_of, reference_const}
use Rattle.assembler_laws.proofs.EntryLemmas.{entry_same, entry_self, has}

-- an entry as it stands at its index
abbrev pub first_const : List Entry → Entry → Const
first_const entries (text_entry text) = utf8 text
first_const entries (int_entry value) = integer value
first_const entries (long_entry value) = long value
first_const entries (class_entry name) = class (index_in entries (text_entry name))
first_const entries (string_entry text) = string (index_in entries (text_entry text))
first_const entries (name_and_type_entry name descriptor) =
    name_and_type (index_in entries (text_entry name)) (index_in entries (text_entry descriptor))
first_const entries (member_entry kind r) =
    reference_const kind (index_in entries (class_entry r.class)) (index_in entries (name_and_type_entry r.name r.descriptor))

-- the first of a run of entries
at_first : (all : List Entry) (entry : Entry) (others : List Const)
    → const_at (const_of all entry ++ others) 0 ≡ first_const all entry
at_first all (text_entry text) others = refl
at_first all (int_entry value) others = refl
at_first all (long_entry value) others = refl
at_first all (class_entry name) others = refl
at_first all (string_entry text) others = refl
at_first all (name_and_type_entry name descriptor) others = refl
at_first all (member_entry kind r) others = refl

-- and those behind it
at_next : (all : List Entry) (entry : Entry) (others : List Const) (k n : ℕ) → n ≡ indices_of entry + k
    → const_at (const_of all entry ++ others) n ≡ const_at others k
at_next all (text_entry text) others k n is = let next : n ≡ suc k = omega arith in ap (const_at (utf8 text ∷ others)) next
at_next all (int_entry value) others k n is = let next : n ≡ suc k = omega arith in ap (const_at (integer value ∷ others)) next
at_next all (long_entry value) others k n is =
    let next : n ≡ suc (suc k) = omega arith in ap (const_at (long value ∷ gap ∷ others)) next
at_next all (class_entry name) others k n is =
    let next : n ≡ suc k = omega arith in ap (const_at (first_const all (class_entry name) ∷ others)) next
at_next all (string_entry text) others k n is =
    let next : n ≡ suc k = omega arith in ap (const_at (first_const all (string_entry text) ∷ others)) next
at_next all (name_and_type_entry name descriptor) others k n is =
    let next : n ≡ suc k = omega arith in ap (const_at (first_const all (name_and_type_entry name descriptor) ∷ others)) next
at_next all (member_entry kind r) others k n is =
    let next : n ≡ suc k = omega arith in ap (const_at (first_const all (member_entry kind r) ∷ others)) next

index_low : (index : ℕ) (entries : List Entry) (entry : Entry) → index ≤ index_from index entries entry
unfolding index_from
index_low index [] entry = omega arith
index_low index (other ∷ others) entry = by (same_entry other entry) (index_low (index + indices_of other) others entry)
  where
    by : (test : Bool) → index + indices_of other ≤ index_from (index + indices_of other) others entry
        → index ≤ (if test then index else index_from (index + indices_of other) others entry)
    by true low = omega arith
    by false low = omega (arith, low)

differs : (entry other : Entry) → same_entry other entry ≡ false → same_entry entry other ≡ false
differs entry other is = by (same_entry entry other) refl
  where
    by : (test : Bool) → same_entry entry other ≡ test → same_entry entry other ≡ false
    by false not = not
    by true same =
        let equal : entry ≡ other = entry_same entry other same in
        let itself : same_entry other entry ≡ true = ap (λ entry. same_entry other entry) equal ∙ entry_self other in
        absurd cc

rest_has : (a b : Bool) → (a || b) ≡ true → a ≡ false → b ≡ true
rest_has true b is not = absurd cc
rest_has false b is not = is

at_from : (all others : List Entry) (entry : Entry) (index k : ℕ) → has others entry ≡ true
    → index + k ≡ index_from index others entry → const_at (flat_map (const_of all) others) k ≡ first_const all entry
unfolding index_from
at_from all [] entry index k is at = absurd cc
at_from all (other ∷ others) entry index k is at =
    by (same_entry other entry) refl (λ more has there. at_from all others entry (index + indices_of other) more has there) at
  where
    by : (test : Bool) → same_entry other entry ≡ test
        → ((more : ℕ) → has others entry ≡ true
        → (index + indices_of other) + more ≡ index_from (index + indices_of other) others entry
        → const_at (flat_map (const_of all) others) more ≡ first_const all entry)
        → index + k ≡ (if test then index else index_from (index + indices_of other) others entry)
        → const_at (flat_map (const_of all) (other ∷ others)) k ≡ first_const all entry
    by true same rest here =
        let none : k ≡ 0 = omega arith in
        ap (const_at (flat_map (const_of all) (other ∷ others))) none
        ∙ at_first all other (flat_map (const_of all) others) ∙ ap (first_const all) (entry_same other entry same)
    by false not rest later =
        let low : index + indices_of other ≤ index_from (index + indices_of other) others entry =
        index_low (index + indices_of other) others entry in
        let more = k - indices_of other in
        let next : k ≡ indices_of other + more = omega (arith, low, later) in
        let there : (index + indices_of other) + more ≡ index_from (index + indices_of other) others entry = omega (arith, low, later) in
        at_next all other (flat_map (const_of all) others) more k next
        ∙ rest more
        (rest_has (same_entry entry other) (has others entry) is (differs entry other not)) there

-- at the index of an entry that is there
pub at_index : (entries : List Entry) (entry : Entry) → has entries entry ≡ true
    → const_at (pool_of entries) (index_in entries entry) ≡ first_const entries entry
unfolding pool_of
at_index entries entry is =
    let low : 1 ≤ index_in entries entry = index_low 1 entries entry in
    let k = index_in entries entry - 1 in
    let next : index_in entries entry ≡ suc k = omega (arith, low) in
    let there : 1 + k ≡ index_from 1 entries entry = omega (arith, low) in
    ap (const_at (gap ∷ flat_map (const_of entries) entries)) next ∙ at_from entries entries entry 1 k is there
