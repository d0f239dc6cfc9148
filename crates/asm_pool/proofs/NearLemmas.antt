-- Where no line needs an index that two bytes don't hold, they hold the indices of all entries.
use Rattle.std.proofs.Common.{◌≡◌, ℕ, zero, suc, List, [], ◌∷◌, ◌++◌, Bool, true, false, not, Option, Some, None, length, get_or, ◌<◌, ◌≤◌, fold, map, refl, ap, sym, ◌∙◌, arith}
use Rattle.std.specs.Prelude.{◌&&◌, ◌||◌, nat_lt, if◌then◌else◌, flat_map}
use Rattle.std.specs.List.{list_all, list_any}
use Rattle.std.proofs.lemmas.Bool.{ltb-false}
use Rattle.std.proofs.lemmas.List.Folds.{list_all-append}
use Rattle.jv_model.specs.Refusal.{LineKind, out_of_range}
use Rattle.text_model.specs.LineFaults.{Fault, at_line, first_fault, where_true}
use Rattle.text_model.specs.Numerals.{most_u2}
use Rattle.assembler_model.specs.PoolEntries.{Entry, class_entry, int_entry, long_entry, member_entry, name_and_type_entry, same_entry, string_entry, text_entry, with_parts}
use Rattle.assembler_model.specs.PoolNeeds.{Need}
use Rattle.assembler_model.specs.AssemblerPool.{entries_of, index_in, is_too_far, pool_faults, with_entry}
use Rattle.jv_model.specs.Operand.{MemberReference}
use Rattle.assembler_model.specs.AssemblerTerms.{ReferenceKind}
use Rattle.asm_parts.specs.Entries.{entry_of, entries_of as entries_in_keys}
use Rattle.asm_parts.specs.declared.entry.Entry as rows
use Rattle.asm_parts.specs.Faults.{either}
use Rattle.asm_parts.proofs.FaultLemmas.{first_fault-append}
use Rattle.asm_parts.proofs.UnitLemmas.{both}
use Rattle.asm_pool.specs.Near.{AreNear, is_near, needs_near}

-- ---- tests

neither : (a b : Bool) → (a || b) ≡ false → (a ≡ false) × (b ≡ false)
neither true b is = absurd cc
neither false b is = (refl, is)

pub not_true : (a : Bool) → not a ≡ true → a ≡ false
not_true true is = absurd cc
not_true false is = refl

-- ---- no fault

pub either_none : (a b : Option Fault) → either a b ≡ None → (a ≡ None) × (b ≡ None)
either_none None b is = (refl, is)
either_none (Some fault) b is = absurd cc

-- neither of two lists has one
pub none_in : (fs gs : List Fault) → first_fault (fs ++ gs) ≡ None
    → (first_fault fs ≡ None) × (first_fault gs ≡ None)
none_in fs gs is = either_none (first_fault fs) (first_fault gs) (sym (first_fault-append fs gs) ∙ is)

pub test_fails : (line : ℕ) (kind : LineKind) (test : Bool) → first_fault (at_line line (where_true test kind)) ≡ None
    → test ≡ false
unfolding first_fault
test_fails line kind true is = absurd cc
test_fails line kind false is = refl

-- ---- entries

abbrev far : List Entry → Entry → Bool
far entries part = nat_lt most_u2 (index_in entries part)

-- the parts of an entry are near where it is
parts_near : (entries : List Entry) (entry : Entry) → is_too_far entries entry ≡ false
    → list_all (is_near entries) (with_parts entry) ≡ true
unfolding with_parts
parts_near entries (text_entry text) near =
    let a = neither (far entries (text_entry text)) false near in rw a.0
parts_near entries (int_entry value) near =
    let a = neither (far entries (int_entry value)) false near in rw a.0
parts_near entries (long_entry value) near =
    let a = neither (far entries (long_entry value)) false near in rw a.0
parts_near entries (class_entry name) near =
    let a = neither (far entries (text_entry name)) (far entries (class_entry name) || false) near in
    let b = neither (far entries (class_entry name)) false a.1 in
    rw (a.0, b.0)
parts_near entries (string_entry text) near =
    let a = neither (far entries (text_entry text)) (far entries (string_entry text) || false) near in
    let b = neither (far entries (string_entry text)) false a.1 in
    rw (a.0, b.0)
parts_near entries (name_and_type_entry name descriptor) near =
    let a = neither (far entries (text_entry name))
    (far entries (text_entry descriptor) || (far entries (name_and_type_entry name descriptor) || false)) near in
    let b = neither (far entries (text_entry descriptor)) (far entries (name_and_type_entry name descriptor) || false) a.1 in
    let d = neither (far entries (name_and_type_entry name descriptor)) false b.1 in
    rw (a.0, b.0, d.0)
parts_near entries (member_entry kind r) near =
    let class = class_entry r.class in
    let pair = name_and_type_entry r.name r.descriptor in
    let last = far entries (member_entry kind r) || false in
    let a = neither (far entries (text_entry r.class)) (far entries class || (far entries (text_entry r.name)
    || (far entries (text_entry r.descriptor) || (far entries pair || last)))) near in
    let b = neither (far entries class)
    (far entries (text_entry r.name) || (far entries (text_entry r.descriptor) || (far entries pair || last))) a.1 in
    let d = neither (far entries (text_entry r.name)) (far entries (text_entry r.descriptor) || (far entries pair || last)) b.1 in
    let e = neither (far entries (text_entry r.descriptor)) (far entries pair || last) d.1 in
    let f = neither (far entries pair) last e.1 in
    let g = neither (far entries (member_entry kind r)) false f.1 in
    rw (a.0, b.0, d.0, e.0, f.0, g.0)

near_parts : (entries : List Entry) (needs : List Need) → needs_near entries needs ≡ true
    → list_all (is_near entries) (flat_map (λ need. with_parts need.entry) needs) ≡ true
near_parts entries [] near = refl
near_parts entries (need ∷ needs) near =
    let here = both (is_near entries need.entry) (needs_near entries needs) near in
    list_all-append (is_near entries) (with_parts need.entry) (flat_map (λ need. with_parts need.entry) needs)
    ∙ rw (parts_near entries need.entry (not_true (is_too_far entries need.entry) here.0), near_parts entries needs here.1) refl

by_there : (test : Bool) (p : Entry → Bool) (entries : List Entry) (entry : Entry) → list_all p entries ≡ true → p entry ≡ true
    → list_all p (if test then entries else entries ++ entry ∷ []) ≡ true
by_there true p entries entry all here = all
by_there false p entries entry all here = list_all-append p entries (entry ∷ []) ∙ rw (all, here) refl

near_fold : (entries so_far more : List Entry) → list_all (is_near entries) so_far ≡ true
    → list_all (is_near entries) more ≡ true → list_all (is_near entries) (fold with_entry so_far more) ≡ true
near_fold entries so_far [] all near = all
near_fold entries so_far (entry ∷ more) all near =
    let here = both (is_near entries entry) (list_all (is_near entries) more) near in
    near_fold entries (with_entry so_far entry) more
    (by_there (list_any (same_entry entry) so_far) (is_near entries) so_far entry all here.0) here.1

near_needs : (entries : List Entry) (needs : List Need) → first_fault (pool_faults entries needs) ≡ None
    → needs_near entries needs ≡ true
near_needs entries [] none = refl
near_needs entries (need ∷ needs) none =
    let parts = none_in (at_line need.line (where_true (is_too_far entries need.entry) out_of_range)) (pool_faults entries needs) none in
    rw (test_fails need.line out_of_range (is_too_far entries need.entry) parts.0, near_needs entries needs parts.1) refl

pub all_near : (needs : List Need) → first_fault (pool_faults (entries_of needs) needs) ≡ None → AreNear (entries_of needs)
unfolding entries_of
all_near needs none =
    near_fold (entries_of needs) [] (flat_map (λ need. with_parts need.entry) needs) refl
    (near_parts (entries_of needs) needs (near_needs (entries_of needs) needs none))

-- where no fault is told
pub told_near : (told before : Option Fault) (entries : List Entry) (needs : List Need)
    → told ≡ either before (first_fault (pool_faults entries needs)) → told ≡ None → entries ≡ entries_of needs
    → AreNear entries
told_near told before entries needs is none same =
    let parts = either_none before (first_fault (pool_faults entries needs)) (sym is ∙ none) in
    let faults = rw same at parts.1 in
    rw same (all_near needs faults)

pub needed_near : (told before : Option Fault) (entries : List Entry) (needs : List Need)
    → told ≡ either before (first_fault (pool_faults entries needs)) → told ≡ None → needs_near entries needs ≡ true
needed_near told before entries needs is none =
    near_needs entries needs (either_none before (first_fault (pool_faults entries needs)) (sym is ∙ none)).1

-- ---- an entry's own index, and those of its parts

last_near : (entries : List Entry) (entry : Entry) → is_too_far entries entry ≡ false → far entries entry ≡ false
unfolding with_parts
last_near entries (text_entry text) near = (neither (far entries (text_entry text)) false near).0
last_near entries (int_entry value) near = (neither (far entries (int_entry value)) false near).0
last_near entries (long_entry value) near = (neither (far entries (long_entry value)) false near).0
last_near entries (class_entry name) near =
    let a = neither (far entries (text_entry name)) (far entries (class_entry name) || false) near in
    (neither (far entries (class_entry name)) false a.1).0
last_near entries (string_entry text) near =
    let a = neither (far entries (text_entry text)) (far entries (string_entry text) || false) near in
    (neither (far entries (string_entry text)) false a.1).0
last_near entries (name_and_type_entry name descriptor) near =
    let a = neither (far entries (text_entry name))
    (far entries (text_entry descriptor) || (far entries (name_and_type_entry name descriptor) || false)) near in
    let b = neither (far entries (text_entry descriptor)) (far entries (name_and_type_entry name descriptor) || false) a.1 in
    (neither (far entries (name_and_type_entry name descriptor)) false b.1).0
last_near entries (member_entry kind r) near =
    let class = class_entry r.class in
    let pair = name_and_type_entry r.name r.descriptor in
    let last = far entries (member_entry kind r) || false in
    let a = neither (far entries (text_entry r.class)) (far entries class || (far entries (text_entry r.name)
    || (far entries (text_entry r.descriptor) || (far entries pair || last)))) near in
    let b = neither (far entries class)
    (far entries (text_entry r.name) || (far entries (text_entry r.descriptor) || (far entries pair || last))) a.1 in
    let d = neither (far entries (text_entry r.name)) (far entries (text_entry r.descriptor) || (far entries pair || last)) b.1 in
    let e = neither (far entries (text_entry r.descriptor)) (far entries pair || last) d.1 in
    let f = neither (far entries pair) last e.1 in
    (neither (far entries (member_entry kind r)) false f.1).0

pub index_near : (entries : List Entry) (entry : Entry) → is_too_far entries entry ≡ false → index_in entries entry ≤ 65535
index_near entries entry near = ltb-false 65535 (index_in entries entry) (last_near entries entry near)

pub class_text : (entries : List Entry) (name : List ℕ) → is_too_far entries (class_entry name) ≡ false
    → is_too_far entries (text_entry name) ≡ false
unfolding with_parts
class_text entries name near =
    not_true (is_too_far entries (text_entry name))
    (both (is_near entries (text_entry name)) (list_all (is_near entries) (class_entry name ∷ [])) (parts_near entries (class_entry name) near)).0

pub string_text : (entries : List Entry) (text : List ℕ) → is_too_far entries (string_entry text) ≡ false
    → is_too_far entries (text_entry text) ≡ false
unfolding with_parts
string_text entries text near =
    not_true (is_too_far entries (text_entry text))
    (both (is_near entries (text_entry text)) (list_all (is_near entries) (string_entry text ∷ [])) (parts_near entries (string_entry text) near)).0

pub pair_texts : (entries : List Entry) (name descriptor : List ℕ) → is_too_far entries (name_and_type_entry name descriptor) ≡ false
    → (is_too_far entries (text_entry name) ≡ false) × (is_too_far entries (text_entry descriptor) ≡ false)
unfolding with_parts
pair_texts entries name descriptor near =
    let pair = name_and_type_entry name descriptor ∷ [] in
    let a = both (is_near entries (text_entry name)) (list_all (is_near entries) (text_entry descriptor ∷ pair))
    (parts_near entries (name_and_type_entry name descriptor) near) in
    let b = both (is_near entries (text_entry descriptor)) (list_all (is_near entries) pair) a.1 in
    (not_true (is_too_far entries (text_entry name)) a.0, not_true (is_too_far entries (text_entry descriptor)) b.0)

pub member_parts : (entries : List Entry) (kind : ReferenceKind) (r : MemberReference)
    → is_too_far entries (member_entry kind r) ≡ false
    → (is_too_far entries (class_entry r.class) ≡ false) × (is_too_far entries (name_and_type_entry r.name r.descriptor) ≡ false)
unfolding with_parts
member_parts entries kind r near =
    let p = list_all (is_near entries) in
    let class = class_entry r.class in
    let pair = name_and_type_entry r.name r.descriptor in
    let last = member_entry kind r ∷ [] in
    let a = both (is_near entries (text_entry r.class)) (p (class ∷ text_entry r.name ∷ text_entry r.descriptor ∷ pair ∷ last))
    (parts_near entries (member_entry kind r) near) in
    let b = both (is_near entries class) (p (text_entry r.name ∷ text_entry r.descriptor ∷ pair ∷ last)) a.1 in
    let d = both (is_near entries (text_entry r.name)) (p (text_entry r.descriptor ∷ pair ∷ last)) b.1 in
    let e = both (is_near entries (text_entry r.descriptor)) (p (pair ∷ last)) d.1 in
    let f = both (is_near entries pair) (p last) e.1 in
    (not_true (is_too_far entries class) b.0, not_true (is_too_far entries pair) f.0)

-- ---- an entry of a pool

pub near_at : (entries : List Entry) (keys : List rows.Entry) (i : ℕ) (x : rows.Entry) → i < length keys → x ≡ get_or keys i x
    → list_all (is_near entries) (entries_in_keys keys) ≡ true → is_too_far entries (entry_of x) ≡ false
near_at entries [] i x within is all = absurd (omega arith)
near_at entries (key ∷ keys) zero x within is all =
    let here = both (is_near entries (entry_of key)) (list_all (is_near entries) (entries_in_keys keys)) all in
    ap (λ key. is_too_far entries (entry_of key)) is ∙ not_true (is_too_far entries (entry_of key)) here.0
near_at entries (key ∷ keys) (suc i) x within is all =
    let here = both (is_near entries (entry_of key)) (list_all (is_near entries) (entries_in_keys keys)) all in
    near_at entries keys i x (omega arith) is here.1

-- an item that is there doesn't depend on what stands for none
pub get_at : (keys : List rows.Entry) (i : ℕ) (d : rows.Entry) → i < length keys → get_or keys i d ≡ get_or keys i (get_or keys i d)
get_at [] i d within = absurd (omega arith)
get_at (key ∷ keys) zero d within = refl
get_at (key ∷ keys) (suc i) d within = get_at keys i d (omega arith)
