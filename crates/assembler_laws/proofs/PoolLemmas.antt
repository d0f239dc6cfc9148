-- The pool of what assembles: its gaps, and what its entries name.
use Rattle.std.proofs.Common.{◌≡◌, ℕ, List, [], ◌∷◌, true, refl, ap, ◌∙◌}
use Rattle.std.specs.Prelude.{◌&&◌, flat_map}
use Rattle.std.specs.List.{list_all}
use Rattle.std.proofs.lemmas.List.Folds.{list_all-append}
use Rattle.std.proofs.lemmas.Bool.{and_parts}
use Rattle.jv_model.specs.ConstantPool.{has_tag, names, utf8_tag, class_tag, name_and_type_tag}
use Rattle.jv_model.specs.Profile.{HasGaps, names_right}
use Rattle.assembler_model.specs.AssemblerTerms.{ReferenceKind, to_field, to_method, to_interface_method}
use Rattle.assembler_model.specs.PoolEntries.{Entry, class_entry, int_entry, long_entry, member_entry, name_and_type_entry, string_entry, text_entry, with_parts}
use Rattle.assembler_model.specs.PoolNeeds.{Need}
use Rattle.assembler_model.specs.AssemblerPool.{const_of, entries_of, index_in, pool_of}
use Rattle.assembler_laws.proofs.EntryLemmas.{entries_there, has, has_all}
use Rattle.assembler_laws.proofs.IndexLemmas.{at_index}

-- each Long has a gap behind it, and nothing else has
pub gaps_right : (all entries : List Entry) → HasGaps (flat_map (const_of all) entries)
gaps_right all [] = tt
gaps_right all (text_entry text ∷ entries) = (refl, gaps_right all entries)
gaps_right all (int_entry value ∷ entries) = (refl, gaps_right all entries)
gaps_right all (long_entry value ∷ entries) = gaps_right all entries
gaps_right all (class_entry name ∷ entries) = (refl, gaps_right all entries)
gaps_right all (string_entry text ∷ entries) = (refl, gaps_right all entries)
gaps_right all (name_and_type_entry name descriptor ∷ entries) = (refl, gaps_right all entries)
gaps_right all (member_entry to_field r ∷ entries) = (refl, gaps_right all entries)
gaps_right all (member_entry to_method r ∷ entries) = (refl, gaps_right all entries)
gaps_right all (member_entry to_interface_method r ∷ entries) = (refl, gaps_right all entries)

-- an index names what stands there
pub text_named : (entries : List Entry) (text : List ℕ) → has entries (text_entry text) ≡ true
    → names (pool_of entries) utf8_tag (index_in entries (text_entry text)) ≡ true
text_named entries text there = ap (λ constant. has_tag constant utf8_tag) (at_index entries (text_entry text) there)

pub class_named : (entries : List Entry) (name : List ℕ) → has entries (class_entry name) ≡ true
    → names (pool_of entries) class_tag (index_in entries (class_entry name)) ≡ true
class_named entries name there = ap (λ constant. has_tag constant class_tag) (at_index entries (class_entry name) there)

pair_named : (entries : List Entry) (name descriptor : List ℕ) → has entries (name_and_type_entry name descriptor) ≡ true
    → names (pool_of entries) name_and_type_tag (index_in entries (name_and_type_entry name descriptor)) ≡ true
pair_named entries name descriptor there =
    ap (λ constant. has_tag constant name_and_type_tag) (at_index entries (name_and_type_entry name descriptor) there)

-- an entry names entries of the kinds that it needs
entry_right : (entries : List Entry) (entry : Entry) → has_all entries entry ≡ true
    → list_all (names_right 52 (pool_of entries)) (const_of entries entry) ≡ true
unfolding with_parts
entry_right entries (text_entry text) there = refl
entry_right entries (int_entry value) there = refl
entry_right entries (long_entry value) there = refl
entry_right entries (class_entry name) there =
    let a = and_parts (has entries (text_entry name)) (has entries (class_entry name) && true) there in
    rw (text_named entries name a.0) refl
entry_right entries (string_entry text) there =
    let a = and_parts (has entries (text_entry text)) (has entries (string_entry text) && true) there in
    rw (text_named entries text a.0) refl
entry_right entries (name_and_type_entry name descriptor) there =
    let last = has entries (name_and_type_entry name descriptor) && true in
    let a = and_parts (has entries (text_entry name)) (has entries (text_entry descriptor) && last) there in
    let b = and_parts (has entries (text_entry descriptor)) last a.1 in
    rw (text_named entries name a.0, text_named entries descriptor b.0) refl
entry_right entries (member_entry kind r) there =
    let class = has entries (class_entry r.class) in
    let pair = has entries (name_and_type_entry r.name r.descriptor) in
    let last = has entries (member_entry kind r) && true in
    let name = has entries (text_entry r.name) in
    let descriptor = has entries (text_entry r.descriptor) in
    let a = and_parts (has entries (text_entry r.class)) (class && (name && (descriptor && (pair && last)))) there in
    let b = and_parts class (name && (descriptor && (pair && last))) a.1 in
    let d = and_parts name (descriptor && (pair && last)) b.1 in
    let e = and_parts descriptor (pair && last) d.1 in
    let f = and_parts pair last e.1 in
    by kind (class_named entries r.class b.0) (pair_named entries r.name r.descriptor f.0)
  where
    by : (kind : ReferenceKind) → names (pool_of entries) class_tag (index_in entries (class_entry r.class)) ≡ true
        → names (pool_of entries) name_and_type_tag (index_in entries (name_and_type_entry r.name r.descriptor)) ≡ true
        → list_all (names_right 52 (pool_of entries)) (const_of entries (member_entry kind r)) ≡ true
    by to_field class pair = rw (class, pair) refl
    by to_method class pair = rw (class, pair) refl
    by to_interface_method class pair = rw (class, pair) refl

all_right : (entries others : List Entry) → list_all (has_all entries) others ≡ true
    → list_all (names_right 52 (pool_of entries)) (flat_map (const_of entries) others) ≡ true
all_right entries [] there = refl
all_right entries (entry ∷ others) there =
    let here = and_parts (has_all entries entry) (list_all (has_all entries) others) there in
    list_all-append (names_right 52 (pool_of entries)) (const_of entries entry) (flat_map (const_of entries) others)
    ∙ rw (entry_right entries entry here.0, all_right entries others here.1) refl

pub pool_right : (needs : List Need) → list_all (names_right 52 (pool_of (entries_of needs))) (pool_of (entries_of needs)) ≡ true
unfolding pool_of
pool_right needs = all_right (entries_of needs) (entries_of needs) (entries_there needs)
