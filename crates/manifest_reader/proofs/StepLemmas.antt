-- Numbers without a sign.
use Rattle.std.proofs.Common.{◌≡◌, ℕ, List, [], ◌∷◌, Bool, true, false, Option, Some, None, Result, Ok, Err, refl, ap, sym, ◌∙◌, arith, ℤ, pos, length, to_z, of_z}
use Rattle.std.specs.Prelude.{FitsSigned, nat_abs}
use Rattle.std.specs.Int.{w64}
use Rattle.std.proofs.lemmas.Int.{ints, to_z-of_z}
use Rattle.std.specs.Prelude.{◌&&◌, ◌==◌, if◌then◌else◌, int_le, nat_le, option_and_then, option_map}
use Rattle.std.proofs.lemmas.Bool.{eqb-true}
use Rattle.jv_model.specs.Refusal.{LineKind, wrong_number}
use Rattle.text_model.specs.Words.{present}
use Rattle.text_model.specs.Numerals.{integer_between, integer_in, integer_of, is_decimal, natural_between, natural_in, natural_of}
use Rattle.manifest_reader.specs.Signs.{has_sign}

and_false : (a : Bool) → (a && false) ≡ false
and_false true = refl
and_false false = refl

-- a word with a sign spells no natural number
pub signed : (least most : ℕ) (word : List ℕ) → has_sign word ≡ true → natural_in least most word ≡ Err wrong_number
unfolding natural_in
signed least most [] is = absurd cc
signed least most (byte ∷ word) is =
    let minus : byte ≡ 45 = eqb-true byte 45 is in
    rw (minus, and_false)

-- the number that a result holds, as an integer
abbrev pub as_integer : Result ℕ LineKind → Result ℤ LineKind
as_integer (Ok n) = Ok (pos n)
as_integer (Err kind) = Err kind

by_test : (least most n : ℕ) (test : Bool) → (nat_le least n && nat_le n most) ≡ test
    → present (integer_between (pos least) (pos most) (pos n)) wrong_number ≡ as_integer (present (natural_between least most n) wrong_number)
by_test least most n true is = rw is
by_test least most n false is = rw is

by_number : (least most : ℕ) (n : Option ℕ)
    → present (option_and_then (integer_between (pos least) (pos most)) (option_map pos n)) wrong_number
    ≡ as_integer (present (option_and_then (natural_between least most) n) wrong_number)
by_number least most None = refl
by_number least most (Some n) = by_test least most n (nat_le least n && nat_le n most) refl

-- one without is read alike
pub unsigned : (least most : ℕ) (word : List ℕ) → has_sign word ≡ false
    → integer_in (pos least) (pos most) word ≡ as_integer (natural_in least most word)
unfolding natural_in integer_in
unsigned least most [] is = refl
unsigned least most (byte ∷ word) is = rw is (by_number least most (natural_of (byte ∷ word)))

pub kind_read : (r : Result ℕ LineKind) (kind : LineKind) → Err kind ≡ as_integer r → Err kind ≡ r
kind_read (Ok n) kind is = absurd cc
kind_read (Err other) kind is = cc

pub number_read : (r : Result ℕ LineKind) (z : ℤ) → Ok z ≡ as_integer r → FitsSigned w64 z → Ok (nat_abs (to_z w64 (of_z w64 z))) ≡ r
number_read (Ok n) z is fits =
    let same : z ≡ pos n = cc in
    let back : to_z w64 (of_z w64 z) ≡ z = to_z-of_z w64 z fits in
    rw (back, same)
number_read (Err kind) z is fits = absurd cc
