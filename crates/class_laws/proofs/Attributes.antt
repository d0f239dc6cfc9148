-- The attributes of an owner: what is read is spelled so and allowed, and what is allowed and
-- spelled so is read.
use Rattle.std.proofs.Common.{◌≡◌, ℕ, zero, suc, List, [], ◌∷◌, length, None, refl, sym, ap, arith}
use Rattle.std.specs.List.{flat_map, AllByRecursion}
use Rattle.std.proofs.lemmas.List.{append-nil}
use Rattle.std.proofs.lemmas.List.Concat.{flat_map-cons}
use Rattle.jv_model.specs.ClassData.{Const, Attr}
use Rattle.jv_model.specs.ConstantPool.{utf8_tag}
use Rattle.jv_model.specs.ClassBytes.{u2, u4, attribute_bytes}
use Rattle.jv_model.specs.Profile.{IsU4, IsAttr}
use Rattle.jv_model.specs.ClassReading.{Owner, name_fault, length_fault, contents_fault, owner_behind, missing_fault, attribute_at, attributes_at}
use Rattle.class_laws.proofs.Numbers.{all_bytes, IsBytes-from_all}
use Rattle.class_laws.proofs.Readers.{Spelling, Reads, Reads-as, Then, Reads-then, Reads-behind, Nothing, Made, Reads-map, Holding, Reads-unless, unless_ends, Spelt, u4_reads, run_reads, IsRun, spelt_then, spelt_last}
use Rattle.class_laws.proofs.Items.{IsIndex, index_reads}
use Rattle.class_laws.proofs.AttributeRules.{Allows, OwnerAllows, name_fault-anywhere, length_fault-anywhere, allows_one, no_faults, allows_more, allows_parts, allows_none, none_missing}

-- ---- one attribute

abbrev IsAllowed : List Const → Owner → Attr → Type 0
IsAllowed pool owner attribute = IsAttr pool attribute × Allows pool owner attribute

-- its parts, of which none has a fault
abbrev AttributeText : List Const → Owner → Spelling Attr
AttributeText pool owner =
    Then (Spelt u2 (IsIndex pool utf8_tag)) (λ name. Holding (name_fault pool owner name 0 ≡ None) (
    Then (Spelt u4 IsU4) (λ count. Holding (length_fault pool owner name 0 count ≡ None) (
    Then (Spelt (λ bytes. bytes) (IsRun count))
    (λ bytes. Holding (contents_fault pool owner name bytes ≡ None)
    (Nothing (record { name = name; bytes = bytes })))))))

attribute_to : (pool : List Const) (owner : Owner) (at : ℕ) (text : List ℕ) (x : Attr)
    → AttributeText pool owner at text x → Spelt attribute_bytes (IsAllowed pool owner) at text x
attribute_to pool owner at text x name =
    let count = name.others.1 in
    let bytes = count.others.1 in
    let run = bytes.spelled.right in
    let made : Attr = record { name = name.first; bytes = bytes.first } in
    let allowed : Allows pool owner made =
    allows_one pool owner made 0 name.others.0 (rw run.0 count.others.0) bytes.others.0 in
    let right : IsAttr pool made =
    record {
      name = name.spelled.right;
      bytes = (rw run.0 count.spelled.right, all_bytes bytes.first run.1);
    } in
    rw bytes.others.1.1 (
    record {
      text_is = rw (
        name.parts,
        name.spelled.text_is,
        count.parts,
        count.spelled.text_is,
        bytes.parts,
        bytes.spelled.text_is,
        bytes.others.1.0,
        run.0,
        append-nil bytes.first,
      ) refl;
      right = (right, allowed);
    })

attribute_from : (pool : List Const) (owner : Owner) (at : ℕ) (text : List ℕ) (x : Attr)
    → Spelt attribute_bytes (IsAllowed pool owner) at text x → AttributeText pool owner at text x
attribute_from pool owner at text x spelt =
    let right = spelt.right.0 in
    let faults = no_faults pool owner x 0 spelt.right.1 in
    let run : IsRun (length x.bytes) x.bytes = (refl, IsBytes-from_all x.bytes right.bytes.1) in
    rw spelt.text_is (spelt_then x.name _ right.name (
      faults.0,
      spelt_then (length x.bytes) _ right.bytes.0
          (faults.1, spelt_last x.bytes run (faults.2, (refl, refl))),
    ))

attribute_reads : (pool : List Const) (owner : Owner)
    → Reads (attribute_at pool owner) (Spelt attribute_bytes (IsAllowed pool owner))
unfolding attribute_at
attribute_reads pool owner =
    Reads-as (
    Reads-behind _ (index_reads pool utf8_tag) (λ before name.
    Reads-unless _ (name_fault pool owner name before.at)
    (name_fault-anywhere pool owner name before.at 0)
    (name_fault-anywhere pool owner name 0 before.at) (
    Reads-then _ u4_reads (λ count.
    Reads-unless _ (length_fault pool owner name before.at count)
    (length_fault-anywhere pool owner name before.at 0 count)
    (length_fault-anywhere pool owner name 0 before.at count) (
    Reads-then _ (run_reads count) (λ bytes.
    unless_ends (contents_fault pool owner name bytes) _ (λ none. none) (λ none. none)))))))
    (attribute_to pool owner) (attribute_from pool owner)

-- ---- all of them

abbrev pub AreAllowed : List Const → Owner → ℕ → List Attr → Type 0
AreAllowed pool owner count attributes = (length attributes ≡ count)
    × AllByRecursion (IsAttr pool) attributes × OwnerAllows pool owner attributes

-- the first, and those behind it
abbrev AttributesText : List Const → Owner → ℕ → Spelling (List Attr)
AttributesText pool owner count =
    Then (Spelt attribute_bytes (IsAllowed pool owner))
    (λ first. Made (λ (others : List Attr). first ∷ others)
    (Spelt (flat_map attribute_bytes)
    (AreAllowed pool (owner_behind pool owner first.name) count)))

attributes_to : (pool : List Const) (owner : Owner) (count at : ℕ) (text : List ℕ) (x : List Attr)
    → AttributesText pool owner count at text x
    → Spelt (flat_map attribute_bytes) (AreAllowed pool owner (suc count)) at text x
attributes_to pool owner count at text x first =
    let others = first.others.0 in
    let behind = first.others.1 in
    let allowed = allows_more pool owner first.first others first.spelled.right.1 behind.right.2 in
    rw first.others.2 (
    record {
      text_is = rw (first.parts, first.spelled.text_is, behind.text_is)
          (sym (flat_map-cons attribute_bytes first.first others));
      right = (ap suc behind.right.0, (first.spelled.right.0, behind.right.1), allowed);
    })

attributes_from : (pool : List Const) (owner : Owner) (count at : ℕ) (text : List ℕ) (x : List Attr)
    → Spelt (flat_map attribute_bytes) (AreAllowed pool owner (suc count)) at text x
    → AttributesText pool owner count at text x
attributes_from pool owner count at text [] spelt = absurd (omega (arith, spelt.right.0))
attributes_from pool owner count at text (first ∷ others) spelt =
    let parts = allows_parts pool owner first others spelt.right.2 in
    let behind : AreAllowed pool (owner_behind pool owner first.name) count others =
    (omega (arith, spelt.right.0), spelt.right.1.1, parts.1) in
    rw (spelt.text_is, flat_map-cons)
    (spelt_then first _ (spelt.right.1.0, parts.0)
    (others, record { text_is = refl; right = behind }, refl))

none_to : (pool : List Const) (owner : Owner) (at : ℕ) (text : List ℕ) (x : List Attr)
    → Holding (missing_fault owner ≡ None) (Nothing []) at text x
    → Spelt (flat_map attribute_bytes) (AreAllowed pool owner 0) at text x
none_to pool owner at text x none =
    rw (none.1.0, none.1.1) (record
    { text_is = refl; right = (refl, tt, allows_none pool owner none.0) })

none_from : (pool : List Const) (owner : Owner) (at : ℕ) (text : List ℕ) (x : List Attr)
    → Spelt (flat_map attribute_bytes) (AreAllowed pool owner 0) at text x
    → Holding (missing_fault owner ≡ None) (Nothing []) at text x
none_from pool owner at text [] spelt =
    (none_missing pool owner spelt.right.2, (spelt.text_is, refl))
none_from pool owner at text (first ∷ others) spelt = absurd (omega (arith, spelt.right.0))

pub attributes_read : (pool : List Const) (owner : Owner) (count : ℕ)
    → Reads (attributes_at pool owner count)
    (Spelt (flat_map attribute_bytes) (AreAllowed pool owner count))
unfolding attributes_at
attributes_read pool owner zero =
    Reads-as (unless_ends (missing_fault owner) [] (λ none. none) (λ none. none))
    (none_to pool owner) (none_from pool owner)
attributes_read pool owner (suc count) =
    Reads-as (
    Reads-then _ (attribute_reads pool owner) (λ first.
    Reads-map (attributes_at pool (owner_behind pool owner first.name) count) _
    (λ (others : List Attr). first ∷ others)
    (attributes_read pool (owner_behind pool owner first.name) count)))
    (attributes_to pool owner count) (attributes_from pool owner count)
