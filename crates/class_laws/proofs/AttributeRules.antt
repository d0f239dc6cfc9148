-- What an owner allows of its attributes: told of each of them, and of all.
use Rattle.std.proofs.Common.{◌≡◌, ℕ, ◌+◌, ◌≤◌, Bool, true, false, ◌&&◌, ◌||◌, not, cond, eqb, List, [], ◌∷◌, length, Some, None, refl, IsTrue, arith}
use Rattle.std.specs.Prelude.{IsFalse}
use Rattle.std.specs.List.{list_all}
use Rattle.std.proofs.lemmas.Bool.{and_parts, and_from}
use Rattle.std.proofs.lemmas.List.Sums.{sum_by-cons}
use Rattle.byteorder.specs.Endian.{big_number}
use Rattle.jv_model.specs.Refusal.{Cause}
use Rattle.jv_model.specs.ClassData.{Const, Attr}
use Rattle.jv_model.specs.ConstantPool.{names_one_of, is_named, units_at}
use Rattle.jv_model.specs.Profile.{value_tags, constant_value, code, is_value_right, count_named}
use Rattle.jv_model.specs.ClassReading.{Owner, the_class, the_field, the_method, name_fault, length_fault, contents_fault, missing_fault, owner_behind}

-- one attribute
abbrev pub Allows : List Const → Owner → Attr → Type 0
Allows pool the_class attribute = Unit {0}
Allows pool (the_field descriptor may_come) attribute =
    IsFalse (is_named pool constant_value attribute.name && not may_come)
    × IsTrue (is_value_right pool descriptor attribute)
Allows pool (the_method flags is_due) attribute =
    IsFalse (is_named pool code attribute.name && not is_due)

-- all that it has, or that are still to come
abbrev pub OwnerAllows : List Const → Owner → List Attr → Type 0
OwnerAllows pool the_class attributes = Unit {0}
OwnerAllows pool (the_field descriptor may_come) attributes =
    IsTrue (list_all (is_value_right pool descriptor) attributes)
    × (count_named pool constant_value attributes ≤ cond may_come 1 0)
OwnerAllows pool (the_method flags is_due) attributes = count_named pool code attributes
    ≡ cond is_due 1 0

-- ---- one attribute is allowed where it has no fault

no_fault : (test : Bool) (cause : Cause) → cond test (Some cause) None ≡ None → IsFalse test
no_fault true cause e = absurd cc
no_fault false cause e = refl

fault_none : (test : Bool) (cause : Cause) → IsFalse test → cond test (Some cause) None ≡ None
fault_none true cause e = absurd cc
fault_none false cause e = refl

value_right : (named long constant : Bool) → IsFalse (named && not long)
    → IsFalse (named && not constant) → IsTrue (not named || (long && constant))
value_right false long constant p q = refl
value_right true false constant p q = absurd cc
value_right true true false p q = absurd cc
value_right true true true p q = refl

value_faults : (named long constant : Bool) → IsTrue (not named || (long && constant))
    → IsFalse (named && not long) × IsFalse (named && not constant)
value_faults false long constant p = (refl, refl)
value_faults true false constant p = absurd cc
value_faults true true false p = absurd cc
value_faults true true true p = (refl, refl)

-- at which place it begins doesn't matter
pub name_fault-anywhere : (pool : List Const) (owner : Owner) (name place other : ℕ)
    → name_fault pool owner name place ≡ None → name_fault pool owner name other ≡ None
name_fault-anywhere pool the_class name place other e = refl
name_fault-anywhere pool (the_field descriptor may_come) name place other e =
    fault_none _ _ (no_fault _ _ e)
name_fault-anywhere pool (the_method flags is_due) name place other e = e

pub length_fault-anywhere : (pool : List Const) (owner : Owner) (name place other count : ℕ)
    → length_fault pool owner name place count ≡ None
    → length_fault pool owner name other count ≡ None
length_fault-anywhere pool the_class name place other count e = refl
length_fault-anywhere pool (the_field descriptor may_come) name place other count e =
    fault_none _ _ (no_fault _ _ e)
length_fault-anywhere pool (the_method flags is_due) name place other count e = refl

pub allows_one : (pool : List Const) (owner : Owner) (attribute : Attr) (place : ℕ)
    → name_fault pool owner attribute.name place ≡ None
    → length_fault pool owner attribute.name place (length attribute.bytes) ≡ None
    → contents_fault pool owner attribute.name attribute.bytes ≡ None
    → Allows pool owner attribute
allows_one pool the_class attribute place name long contents = tt
allows_one pool (the_field descriptor may_come) attribute place name long contents = (
  no_fault _ _ name,
  value_right (is_named pool constant_value attribute.name)
      (eqb (length attribute.bytes) 2)
      (names_one_of pool (value_tags (units_at pool descriptor)) (big_number 2 attribute.bytes))
      (no_fault _ _ long) (no_fault _ _ contents),
)
allows_one pool (the_method flags is_due) attribute place name long contents = no_fault _ _ name

pub no_faults : (pool : List Const) (owner : Owner) (attribute : Attr) (place : ℕ)
    → Allows pool owner attribute
    → (name_fault pool owner attribute.name place ≡ None)
    × (length_fault pool owner attribute.name place (length attribute.bytes) ≡ None)
    × (contents_fault pool owner attribute.name attribute.bytes ≡ None)
no_faults pool the_class attribute place allowed = (refl, refl, refl)
no_faults pool (the_field descriptor may_come) attribute place allowed =
    let faults = value_faults (is_named pool constant_value attribute.name)
    (eqb (length attribute.bytes) 2)
    (names_one_of pool (value_tags (units_at pool descriptor)) (big_number 2 attribute.bytes))
    allowed.1 in
    (fault_none _ _ allowed.0, fault_none _ _ faults.0, fault_none _ _ faults.1)
no_faults pool (the_method flags is_due) attribute place allowed =
    (fault_none _ _ allowed, refl, refl)

-- ---- all are allowed where each is by the owner that the ones before it leave

one_more : (named may_come : Bool) (count : ℕ) → IsFalse (named && not may_come)
    → count ≤ cond (may_come && not named) 1 0 → cond named 1 0 + count ≤ cond may_come 1 0
one_more false false count p q = omega arith
one_more false true count p q = omega arith
one_more true false count p q = absurd cc
one_more true true count p q = omega arith

one_less : (named may_come : Bool) (count : ℕ) → cond named 1 0 + count ≤ cond may_come 1 0
    → IsFalse (named && not may_come) × (count ≤ cond (may_come && not named) 1 0)
one_less false false count p = (refl, omega arith)
one_less false true count p = (refl, omega arith)
one_less true false count p = absurd (omega arith)
one_less true true count p = (refl, omega arith)

due_more : (named is_due : Bool) (count : ℕ) → IsFalse (named && not is_due)
    → count ≡ cond (is_due && not named) 1 0 → cond named 1 0 + count ≡ cond is_due 1 0
due_more false false count p q = omega arith
due_more false true count p q = omega arith
due_more true false count p q = absurd cc
due_more true true count p q = omega arith

due_less : (named is_due : Bool) (count : ℕ) → cond named 1 0 + count ≡ cond is_due 1 0
    → IsFalse (named && not is_due) × (count ≡ cond (is_due && not named) 1 0)
due_less false false count p = (refl, omega arith)
due_less false true count p = (refl, omega arith)
due_less true false count p = absurd (omega arith)
due_less true true count p = (refl, omega arith)

count_named-cons : (pool : List Const) (text : List ℕ) (attribute : Attr) (others : List Attr)
    → count_named pool text (attribute ∷ others)
    ≡ cond (is_named pool text attribute.name) 1 0 + count_named pool text others
count_named-cons pool text attribute others =
    sum_by-cons (λ (x : Attr). cond (is_named pool text x.name) 1 0) attribute others

pub allows_more : (pool : List Const) (owner : Owner) (attribute : Attr) (others : List Attr)
    → Allows pool owner attribute → OwnerAllows pool (owner_behind pool owner attribute.name) others
    → OwnerAllows pool owner (attribute ∷ others)
allows_more pool the_class attribute others first behind = tt
allows_more pool (the_field descriptor may_come) attribute others first behind = (
  and_from _ _ first.1 behind.0,
  rw (count_named-cons pool constant_value attribute others)
      (one_more _ may_come _ first.0 behind.1),
)
allows_more pool (the_method flags is_due) attribute others first behind =
    rw (count_named-cons pool code attribute others) (due_more _ is_due _ first behind)

pub allows_parts : (pool : List Const) (owner : Owner) (attribute : Attr) (others : List Attr)
    → OwnerAllows pool owner (attribute ∷ others)
    → Allows pool owner attribute × OwnerAllows pool (owner_behind pool owner attribute.name) others
allows_parts pool the_class attribute others all = (tt, tt)
allows_parts pool (the_field descriptor may_come) attribute others all =
    let values = and_parts _ _ all.0 in
    let counts = one_less _ may_come _
    (rw (count_named-cons pool constant_value attribute others) at all.1) in
    ((counts.0, values.0), (values.1, counts.1))
allows_parts pool (the_method flags is_due) attribute others all =
    due_less _ is_due _ (rw (count_named-cons pool code attribute others) at all)

pub allows_none : (pool : List Const) (owner : Owner) → missing_fault owner ≡ None
    → OwnerAllows pool owner []
allows_none pool the_class e = tt
allows_none pool (the_field descriptor may_come) e = (refl, omega arith)
allows_none pool (the_method flags true) e = absurd cc
allows_none pool (the_method flags false) e = refl

pub none_missing : (pool : List Const) (owner : Owner) → OwnerAllows pool owner []
    → missing_fault owner ≡ None
none_missing pool the_class all = refl
none_missing pool (the_field descriptor may_come) all = refl
none_missing pool (the_method flags true) all = absurd (omega arith)
none_missing pool (the_method flags false) all = refl
