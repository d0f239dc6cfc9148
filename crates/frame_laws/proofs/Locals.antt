-- Values that are read from locals and put into them are of the types that are read and put.
use Rattle.std.proofs.Common.{◌≡◌, ℕ, zero, suc, ◌+◌, ◌<◌, ℤ, List, [], ◌∷◌, Some, Bool, true, false, refl, sym, subst, ◌==◌, slice_get, slice_set, length, arith}
use Rattle.std.proofs.Math.Path.{◌∙◌}
use Rattle.std.proofs.lemmas.Bool.{and_parts, le-leb}
use lib.Pointwise.{pointwise}
use Rattle.jv_model.specs.Instruction.{ValueKind, of_int, of_long, of_reference}
use Rattle.typing_model.specs.VerificationType.{VerificationType, top, int as int_type, long as long_type, is_long, is_reference, is_of_kind as is_type_of_kind}
use Rattle.typing_model.specs.Environment.{Environment}
use Rattle.typing_model.specs.LocalTypes.{put_first, cut, put}
use Rattle.machine_model.specs.Value.{Value, int, long, half, null, reference}
use Rattle.machine_model.specs.LocalStep.{with_local}
use Rattle.machine_model.specs.TypedValues.{HeapTyping, is_of_type}
use Rattle.frame_laws.proofs.Taking.{known_of}
use Rattle.frame_laws.proofs.Outcome.{some_inj, both, map_is}

-- ---- a local of a type

-- a local of a type has a value of it
pub local_of_type : (test : VerificationType → Value → Bool) (types : List VerificationType) (values : List Value) (n : ℕ) (type : VerificationType)
    → pointwise test types values ≡ true
    → slice_get types n ≡ Some type → (value : Value) × (slice_get values n ≡ Some value) × (test type value ≡ true)
local_of_type test [] values n type f at = absurd cc
local_of_type test (first ∷ types) [] n type f at = absurd cc
local_of_type test (first ∷ types) (value ∷ values) zero type f at =
    (value, refl, rw (sym (some_inj at)) (and_parts (test first value) (pointwise test types values) f).0)
local_of_type test (first ∷ types) (value ∷ values) (suc n) type f at =
    local_of_type test types values n type (and_parts (test first value) (pointwise test types values) f).1 at

-- a value of the same type in its place
pub replaced : (test : VerificationType → Value → Bool) (types : List VerificationType) (values : List Value) (n : ℕ) (type : VerificationType)
    (value : Value) → pointwise test types values ≡ true
    → slice_get types n ≡ Some type → test type value ≡ true
    → (n < length values) × (pointwise test types (slice_set values n value) ≡ true)
replaced test [] values n type value f at of = absurd cc
replaced test (first ∷ types) [] n type value f at of = absurd cc
replaced test (first ∷ types) (old ∷ values) zero type value f at of =
    (omega arith, both (test first value) (pointwise test types values) (rw (some_inj at) of) (and_parts (test first old) (pointwise test types values) f).1)
replaced test (first ∷ types) (old ∷ values) (suc n) type value f at of =
    let parts = and_parts (test first old) (pointwise test types values) f in
    let more = replaced test types values n type value parts.1 at of in
    (let low = more.0 in omega arith, both (test first old) (pointwise test types (slice_set values n value)) parts.0 more.1)

-- ---- what is put into a local

-- a value is also of the type that is left where half a Long was overwritten
cut_fits : (heap : HeapTyping) (e : Environment) (is_right_before : Bool) (type : VerificationType) (value : Value)
    → is_of_type heap e type value ≡ true
    → is_of_type heap e (cut is_right_before type) value ≡ true
unfolding is_of_type
cut_fits heap e false type value f = f
cut_fits heap e true long_type value f = known_of heap e long_type value f
cut_fits heap e true type value f = f

-- a type that is no Long takes the place of the first
put_first_one : (type old : VerificationType) (others : List VerificationType) → is_long type ≡ false
    → put_first type (old ∷ others) ≡ Some (type ∷ others)
put_first_one long_type old others short = absurd cc
put_first_one type old others short = refl

-- nothing is put where there is no place
put_none : (type : VerificationType) (after : List VerificationType) → put_first type [] ≡ Some after → ⊥
put_none long_type after h = cc
put_none type after h = cc

module _ (heap : HeapTyping) (e : Environment) where
  -- a value in one place fits the types with its own put there
  put_one : (n : ℕ) (type : VerificationType) (value : Value) (types after : List VerificationType) (values : List Value)
      → is_long type ≡ false → is_of_type heap e type value ≡ true
      → put n type types ≡ Some after → pointwise (is_of_type heap e) types values ≡ true
      → (n < length values) × (pointwise (is_of_type heap e) after (slice_set values n value) ≡ true)
  unfolding put
  put_one zero type value [] after values short of h f = absurd (put_none type after h)
  put_one zero type value (first ∷ types) after [] short of h f = absurd cc
  put_one zero type value (first ∷ types) after (old ∷ values) short of h f = (
    omega arith,
    rw (some_inj (sym h ∙ put_first_one type first types short))
        (both (is_of_type heap e type value) (pointwise (is_of_type heap e) types values) of (and_parts (is_of_type heap e first old) (pointwise (is_of_type heap e) types values) f).1),
  )
  put_one (suc n) type value [] after values short of h f = absurd cc
  put_one (suc n) type value (first ∷ types) after [] short of h f = absurd cc
  put_one (suc n) type value (first ∷ types) after (old ∷ values) short of h f =
      let parts = and_parts (is_of_type heap e first old) (pointwise (is_of_type heap e) types values) f in
      let behind = map_is (λ (ts : List VerificationType). cut (n == 0) first ∷ ts) (put n type types) after h in
      let more = put_one n type value types behind.0 values short of behind.1 parts.1 in (
        let low = more.0 in omega arith,
        rw (sym behind.2)
            (both (is_of_type heap e (cut (n == 0) first) old) (pointwise (is_of_type heap e) behind.0 (slice_set values n value)) (cut_fits heap e (n == 0) first old parts.0) more.1),
      )

  -- a long in two places fits the types with Long put there
  put_two : (n : ℕ) (number : ℤ) (types after : List VerificationType) (values : List Value)
      → put n long_type types ≡ Some after → pointwise (is_of_type heap e) types values ≡ true
      → (n + 1 < length values) × (pointwise (is_of_type heap e) after (slice_set (slice_set values n (long number)) (suc n) half) ≡ true)
  unfolding put is_of_type
  put_two zero number [] after values h f = absurd cc
  put_two zero number (first ∷ []) after values h f = absurd cc
  put_two zero number (first ∷ second ∷ types) after [] h f = absurd cc
  put_two zero number (first ∷ second ∷ types) after (old ∷ []) h f =
      absurd (let no = (and_parts (is_of_type heap e first old) false f).1 in cc)
  put_two zero number (first ∷ second ∷ types) after (old ∷ next ∷ values) h f =
      let behind = (and_parts (is_of_type heap e first old) (pointwise (is_of_type heap e) (second ∷ types) (next ∷ values)) f).1 in
      (omega arith, rw (sym (some_inj h)) (and_parts (is_of_type heap e second next) (pointwise (is_of_type heap e) types values) behind).1)
  put_two (suc n) number [] after values h f = absurd cc
  put_two (suc n) number (first ∷ types) after [] h f = absurd cc
  put_two (suc n) number (first ∷ types) after (old ∷ values) h f =
      let parts = and_parts (is_of_type heap e first old) (pointwise (is_of_type heap e) types values) f in
      let behind = map_is (λ (ts : List VerificationType). cut (n == 0) first ∷ ts) (put n long_type types) after h in
      let more = put_two n number types behind.0 values behind.1 parts.1 in (
        let low = more.0 in omega arith,
        rw (sym behind.2)
            (both (is_of_type heap e (cut (n == 0) first) old) (pointwise (is_of_type heap e) behind.0 (slice_set (slice_set values n (long number)) (suc n) half))
            (cut_fits heap e (n == 0) first old parts.0) more.1),
      )

-- ---- by kind

-- a reference is no Long
reference_is_short : (type : VerificationType) → is_reference type ≡ true → is_long type ≡ false
reference_is_short long_type is = absurd cc
reference_is_short type is = refl

-- the locals with a value put into one of them
abbrev pub Puts : HeapTyping → Environment → ℕ → Value → List VerificationType → List Value → Type 0
Puts heap e n value after values =
    (locals : List Value) × (with_local n value values ≡ Some locals) × (pointwise (is_of_type heap e) after locals ≡ true)

-- the number behind n is n + 1
suc-plus : (n : ℕ) → suc n ≡ n + 1
suc-plus n = omega arith

module _ (heap : HeapTyping) (e : Environment) where
  -- the value goes into its place or places, which are there, and the locals fit
  pub puts : (kind : ValueKind) (n : ℕ) (type : VerificationType) (value : Value) (types after : List VerificationType) (values : List Value)
      → is_type_of_kind kind type ≡ true
      → is_of_type heap e type value ≡ true → put n type types ≡ Some after → pointwise (is_of_type heap e) types values ≡ true
      → Puts heap e n value after values
  unfolding is_of_type
  puts of_int n int_type (int a) types after values is of h f =
      let p = put_one heap e n int_type (int a) types after values refl of h f in (slice_set values n (int a), rw (le-leb (suc n) (length values) p.0) refl, p.1)
  puts of_int n type value types after values is of h f = absurd cc
  puts of_long n long_type (long a) types after values is of h f =
      let p = put_two heap e n a types after values h f in (
        slice_set (slice_set values n (long a)) (n + 1) half,
        rw (le-leb (suc (n + 1)) (length values) p.0) refl,
        subst (λ (m : ℕ). pointwise (is_of_type heap e) after (slice_set (slice_set values n (long a)) m half) ≡ true) (suc-plus n) p.1,
      )
  puts of_long n type value types after values is of h f = absurd cc
  puts of_reference n type null types after values is of h f =
      let p = put_one heap e n type null types after values (reference_is_short type is) of h f in (slice_set values n null, rw (le-leb (suc n) (length values) p.0) refl, p.1)
  puts of_reference n type (reference id) types after values is of h f =
      let p = put_one heap e n type (reference id) types after values (reference_is_short type is) of h f in (slice_set values n (reference id), rw (le-leb (suc n) (length values) p.0) refl, p.1)
  puts of_reference n top value types after values is of h f = absurd cc
  puts of_reference n int_type value types after values is of h f = absurd cc
  puts of_reference n long_type value types after values is of h f = absurd cc
  puts of_reference n type value types after values is of h f = absurd cc
