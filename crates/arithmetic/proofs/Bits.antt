-- What is left of a whole number in the bits of a type: the casts of the code, against the definitions' wrapping.
use Rattle.std.proofs.Common.{◌≡◌, ℕ, zero, suc, ◌-◌, ◌*◌, ◌/◌, ◌%◌, ◌^◌, ◌<◌, ◌≤◌, refl, sym, ap, ◌∙◌, arith}
use Rattle.std.specs.Prelude.{ℤ, pos, negsuc, neg_ℤ, unsigned_abs, int_div}
use Rattle.std.specs.Int.{Width, int_wrap, int_wrapping_div, cast_signed, cast_unsigned}
use Rattle.std.specs.Int.RustNames.{FitsSigned}
use Rattle.std.proofs.lemmas.Int.{ints, int_rem_euclid_is}
use Rattle.std.proofs.lemmas.Nat.{pow_pos}
use Rattle.std.proofs.Math.Nat.{mod-eq_of_lt, div-le_self}
use mir.Val.{bits, hbits}

-- the low bits of a number of a wider type
pub low_bits : (v w : Width) (z : ℤ) (k : ℕ) → unsigned_abs z ≤ 2 ^ bits w → 2 ^ bits w ≡ k * 2 ^ bits v → int_wrap v z ≡ cast_signed v (cast_unsigned w z % 2 ^ bits v)
unfolding int_wrap
low_bits v w (pos n) k h e = refl
low_bits v w (negsuc a) k h e =
    ap (λ r. cast_signed v (unsigned_abs r))
    (int_rem_euclid_is (negsuc a) (pos (2 ^ bits v)) (2 ^ bits v) k (2 ^ bits w - suc a) (pow_pos (bits v)) refl (omega (arith, ints)))

cast_below : (w : Width) (z : ℤ) → unsigned_abs z < 2 ^ bits w → cast_unsigned w z < 2 ^ bits w
cast_below w (pos n) h = h
cast_below w (negsuc a) h = omega arith

pub wrap_is_cast : (w : Width) (z : ℤ) → unsigned_abs z < 2 ^ bits w → int_wrap w z ≡ cast_signed w (cast_unsigned w z)
wrap_is_cast w z h = low_bits w w z 1 (omega arith) (omega arith) ∙ ap (cast_signed w) (mod-eq_of_lt (cast_below w z h))

abs_neg : (n : ℕ) → unsigned_abs (neg_ℤ (pos n)) ≡ n
abs_neg zero = refl
abs_neg (suc n) = refl

-- a quotient is no farther from 0 than the dividend
abs_quotient : (a b : ℤ) → unsigned_abs (int_div a b) ≤ unsigned_abs a
abs_quotient (pos a) (pos b) = div-le_self a b
abs_quotient (pos a) (negsuc b) = omega (arith, abs_neg (a / suc b), div-le_self a (suc b))
abs_quotient (negsuc a) (pos b) = omega (arith, abs_neg (suc a / b), div-le_self (suc a) b)
abs_quotient (negsuc a) (negsuc b) = div-le_self (suc a) (suc b)

pub abs_fits : (w : Width) (a : ℤ) → FitsSigned w a → 2 ^ hbits w < 2 ^ bits w → unsigned_abs a < 2 ^ bits w
abs_fits w (pos a) f h = omega arith
abs_fits w (negsuc a) f h = omega arith

-- what the `wrapping_div` of a type gives
pub quotient_wraps : (w : Width) (a b : ℤ) → FitsSigned w a → 2 ^ hbits w < 2 ^ bits w → int_wrapping_div w a b ≡ int_wrap w (int_div a b)
quotient_wraps w a b f h =
    let small = abs_quotient a b in
    let fits = abs_fits w a f h in
    sym (wrap_is_cast w (int_div a b) (omega arith))
