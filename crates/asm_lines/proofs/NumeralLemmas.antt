-- Numbers, read digit by digit.
use Rattle.std.proofs.Common.{◌≡◌, ℕ, ◌+◌, ◌-◌, ◌*◌, ◌<◌, ◌≤◌, List, [], ◌∷◌, length, get_or, drop, Bool, true, false, Some, None, refl, arith}
use Rattle.std.specs.Prelude.{◌&&◌, if◌then◌else◌, nat_le}
use Rattle.std.specs.List.{list_all}
use Rattle.std.proofs.lemmas.Bool.{lt-leb}
use Rattle.std.proofs.lemmas.List.{drop_more}
use Rattle.text_model.specs.Numerals.{is_digit}
use Rattle.asm_lines.specs.Digits.{value_from, digits_from}

-- behind more digits the number is no less
value_from-le : (value : ℕ) (word : List ℕ) → value ≤ value_from value word
value_from-le value [] = omega arith
value_from-le value (digit ∷ word) =
    let more : value * 10 + (digit - 48) ≤ value_from (value * 10 + (digit - 48)) word = value_from-le (value * 10 + (digit - 48)) word in
    omega arith

above_cases : (digits small : Bool) (value : ℕ) → small ≡ false → (if digits && small then Some value else None) ≡ None
above_cases true small value far = rw far
above_cases false small value far = refl

-- a number above the most stays above it
pub digits_from-above : (most value : ℕ) (word : List ℕ) → most < value → digits_from most value word ≡ None
digits_from-above most value word above =
    let far : nat_le (value_from value word) most ≡ false = lt-leb (value_from value word) most (omega (arith, value_from-le value word)) in
    above_cases (list_all is_digit word) (nat_le (value_from value word) most) (value_from value word) far

-- a digit that takes the number above the most
pub digits_from-far : (most value : ℕ) (word : List ℕ) (at : ℕ) → at < length word → is_digit (get_or word at 0) ≡ true
    → most < value * 10 + (get_or word at 0 - 48) → digits_from most value (drop at word) ≡ None
digits_from-far most value word at within digit above =
    rw (drop_more word at 0 within) (rw digit (digits_from-above most (value * 10 + (get_or word at 0 - 48)) (drop (at + 1) word) above))
