-- Numbers within a range, where they are known within a wider one.
use Rattle.std.proofs.Common.{◌≡◌, ℕ, List, Bool, true, false, Option, Some, None, Ok, Err, refl, ap, sym, arith, ◌≤ℤ◌, ◌<ℤ◌, pos, neg_ℤ, ℤ, to_z, of_z}
use Rattle.std.specs.Prelude.{◌&&◌, if◌then◌else◌, int_le, option_and_then}
use Rattle.std.specs.Prelude.{FitsSigned}
use Rattle.std.specs.Int.{w64, w128}
use Rattle.std.proofs.lemmas.Int.{ints, to_z-of_z}
use Rattle.jv_model.specs.Refusal.{LineKind, wrong_number}
use Rattle.text_model.specs.Words.{present}
use Rattle.text_model.specs.Numerals.{integer_between, integer_in, integer_of}

if_some : (test : Bool) (z value : ℤ) → Some value ≡ (if test then Some z else None) → value ≡ z
if_some true z value is = cc
if_some false z value is = absurd cc

if_none : (test : Bool) (z : ℤ) → None ≡ (if test then Some z else None) → test ≡ false
if_none true z is = absurd cc
if_none false z is = refl

-- the number is in both ranges
among : (least most low high value : ℤ) (o : Option ℤ)
    → Some value ≡ option_and_then (integer_between low high) o → (int_le least value && int_le value most) ≡ true
    → present (option_and_then (integer_between least most) o) wrong_number ≡ Ok value
among least most low high value None is within = absurd cc
among least most low high value (Some z) is within =
    let same : value ≡ z = if_some (int_le low z && int_le z high) z value is in
    rw (← same) (rw within)

-- it is in the wider one alone
beside : (least most low high value : ℤ) (o : Option ℤ)
    → Some value ≡ option_and_then (integer_between low high) o → (int_le least value && int_le value most) ≡ false
    → present (option_and_then (integer_between least most) o) wrong_number ≡ Err wrong_number
beside least most low high value None is within = absurd cc
beside least most low high value (Some z) is within =
    let same : value ≡ z = if_some (int_le low z && int_le z high) z value is in
    rw (← same) (rw within)

outside : (least most low high z : ℤ) → low ≤ℤ least → most ≤ℤ high
    → (int_le low z && int_le z high) ≡ false → (int_le least z && int_le z most) ≡ false
outside least most low high z l h without = grind (arith, ints)

-- it is in none
without : (least most low high : ℤ) (o : Option ℤ) → low ≤ℤ least → most ≤ℤ high
    → None ≡ option_and_then (integer_between low high) o
    → present (option_and_then (integer_between least most) o) wrong_number ≡ Err wrong_number
without least most low high None l h is = refl
without least most low high (Some z) l h is =
    rw (outside least most low high z l h (if_none (int_le low z && int_le z high) z is))

abbrev low : ℤ
low = neg_ℤ (pos 9223372036854775808)

abbrev high : ℤ
high = pos 9223372036854775808

pub integer_in-some : (least most value : ℤ) (word : List ℕ)
    → Some value ≡ option_and_then (integer_between low high) (integer_of word)
    → (int_le least value && int_le value most) ≡ true → integer_in least most word ≡ Ok value
unfolding integer_in
integer_in-some least most value word is within = among least most low high value (integer_of word) is within

pub integer_in-beside : (least most value : ℤ) (word : List ℕ)
    → Some value ≡ option_and_then (integer_between low high) (integer_of word)
    → (int_le least value && int_le value most) ≡ false → integer_in least most word ≡ Err wrong_number
unfolding integer_in
integer_in-beside least most value word is within = beside least most low high value (integer_of word) is within

pub integer_in-none : (least most : ℤ) (word : List ℕ) → low ≤ℤ least → most ≤ℤ high
    → None ≡ option_and_then (integer_between low high) (integer_of word) → integer_in least most word ≡ Err wrong_number
unfolding integer_in
integer_in-none least most word l h is = without least most low high (integer_of word) l h is

pub between : (least most z : ℤ) → (int_le least z && int_le z most) ≡ true → (least ≤ℤ z) × (z ≤ℤ most)
between least most z within = (grind (arith, ints), grind (arith, ints))

-- a test on numbers that were widened
pub within_is : (least most z : ℤ) (test : Bool) → FitsSigned w64 least → FitsSigned w64 most → FitsSigned w128 z
    → test ≡ (int_le (to_z w64 (of_z w64 least)) (to_z w128 (of_z w128 z)) && int_le (to_z w128 (of_z w128 z)) (to_z w64 (of_z w64 most)))
    → (int_le least z && int_le z most) ≡ test
within_is least most z test l m f is = sym (simp to_z-of_z at is)

-- a number within a range of 64 bits, from 128 bits to 64
pub narrowed : (least most z : ℤ) → FitsSigned w64 least → FitsSigned w64 most → FitsSigned w128 z
    → (int_le least z && int_le z most) ≡ true → to_z w64 (of_z w64 (to_z w128 (of_z w128 z))) ≡ z
narrowed least most z l m f within =
    let is = between least most z within in
    let fits : FitsSigned w64 z = grind (arith, ints) in
    simp to_z-of_z

no_number : (least most z : ℤ) → most <ℤ least → (int_le least z && int_le z most) ≡ false
no_number least most z empty = grind (arith, ints)

empty_range : (least most : ℤ) (o : Option ℤ) → most <ℤ least
    → present (option_and_then (integer_between least most) o) wrong_number ≡ Err wrong_number
empty_range least most None empty = refl
empty_range least most (Some z) empty = rw (no_number least most z empty)

-- no number is in the range
pub integer_in-empty : (least most : ℤ) (word : List ℕ) → most <ℤ least → integer_in least most word ≡ Err wrong_number
unfolding integer_in
integer_in-empty least most word empty = empty_range least most (integer_of word) empty
