-- Numbers as words, and back.
use Rattle.std.proofs.Common.{◌≡◌, rules, ℕ, ◌+◌, ◌-◌, ◌*◌, ◌^◌, ◌<◌, ◌≤◌, List, [], ◌∷◌, Bool, true, false, Some, None, Ok, length, get_or, refl, ap, sym, ◌∙◌, inl, inr, arith}
use Rattle.std.specs.Prelude.{◌⊎◌, ◌==◌, ◌&&◌, ◌||◌, not, if◌then◌else◌, nat_le, fold, slice_get, unwrap_or, option_and_then, decimal}
use Rattle.std.specs.List.{list_all}
use Rattle.std.proofs.lemmas.Bool.{ne_eqb, eq-eqb, eqb-true, leb-true, le-leb}
use Rattle.std.proofs.lemmas.Str.Parse.{IsNumeralModel, numerals_by_fold}
use Rattle.std.proofs.lemmas.Fmt.{digits_decimal, digits_value-decimal, decimal-digits_value, decimal_nonempty, decimal_digit, first_decimal}
use Rattle.jv_model.specs.Refusal.{wrong_number}
use Rattle.text_model.specs.Words.{is_whole, present}
use Rattle.text_model.specs.Numerals.{is_digit, is_decimal, value_of, natural_between, natural_in}
use Rattle.text_laws.proofs.Tests.{both}

own : IsNumeralModel (λ word. list_all is_digit word ≡ true) value_of
own = numerals_by_fold (λ word. list_all is_digit word ≡ true) (search rules) (λ value word. fold (λ value digit. value * 10 + (digit - 48)) value word) (search rules)

-- the digits of a number
pub decimal-digits : (n : ℕ) → n < 2 ^ 64 → list_all is_digit (decimal n) ≡ true
decimal-digits n small = digits_decimal own n small

first-get_or : (word : List ℕ) → unwrap_or (slice_get word 0) 0 ≡ get_or word 0 0
first-get_or [] = refl
first-get_or (byte ∷ word) = refl

or-right : (a : Bool) → (a || true) ≡ true
or-right true = refl
or-right false = refl

no_leading_zero : (n : ℕ) → n < 2 ^ 64 → (n < 10) ⊎ (10 ≤ n) → ((length (decimal n) == 1) || not (unwrap_or (slice_get (decimal n) 0) 0 == 48)) ≡ true
no_leading_zero n small (inl one) = rw (decimal_digit n one)
no_leading_zero n small (inr more) =
    let first : (get_or (decimal n) 0 0 == 48) ≡ false = ne_eqb (get_or (decimal n) 0 0) 48 (omega (arith, first_decimal n (omega arith) small)) in
    rw (first-get_or (decimal n), first) (or-right (length (decimal n) == 1))

is_decimal-decimal : (n : ℕ) → n < 2 ^ 64 → is_decimal (decimal n) ≡ true
is_decimal-decimal n small =
    let whole : (length (decimal n) == 0) ≡ false = ne_eqb (length (decimal n)) 0 (omega (arith, decimal_nonempty n small)) in
    let plain = no_leading_zero n small (search rules) in
    rw (whole, decimal-digits n small, plain)

-- a number is read from its digits
pub natural_in-decimal : (least most n : ℕ) → least ≤ n → n ≤ most → most < 2 ^ 64 → natural_in least most (decimal n) ≡ Ok n
unfolding natural_in
natural_in-decimal least most n low high small =
    rw (is_decimal-decimal n (omega arith), digits_value-decimal own n (omega arith), le-leb least n low, le-leb n most high)

-- ---- back

in_range : (low high : Bool) (value n : ℕ) → present (if low && high then Some value else None) wrong_number ≡ Ok n → (high ≡ true) × (value ≡ n)
in_range true true value n is = (refl, cc)
in_range true false value n is = absurd cc
in_range false high value n is = absurd cc

read_number : (test : Bool) (least most value n : ℕ) → present (option_and_then (natural_between least most) (if test then Some value else None)) wrong_number ≡ Ok n
    → (test ≡ true) × (value ≡ n) × (value ≤ most)
read_number true least most value n is =
    let range = in_range (nat_le least value) (nat_le value most) value n is in
    (refl, range.1, leb-true value most range.0)
read_number false least most value n is = absurd cc

whole_word : (word : List ℕ) → is_whole word ≡ true → 0 < length word
whole_word [] whole = absurd cc
whole_word (byte ∷ word) whole = omega arith

lone_zero : (one : Bool) (first : ℕ) → (one || not (first == 48)) ≡ true → first ≡ 48 → one ≡ true
lone_zero true first is zero = refl
lone_zero false first is zero = let never = rw (eq-eqb first 48 zero) at is in absurd cc

-- the word of a number that is read
pub decimal-natural_in : (least most : ℕ) (word : List ℕ) (n : ℕ) → most < 2 ^ 64 → natural_in least most word ≡ Ok n → decimal n ≡ word
unfolding natural_in
decimal-natural_in least most word n small is =
    let read = read_number (is_decimal word) least most (value_of word) n is in
    let parts = both (is_whole word && list_all is_digit word) ((length word == 1) || not (unwrap_or (slice_get word 0) 0 == 48)) read.0 in
    let digits = both (is_whole word) (list_all is_digit word) parts.0 in
    let zero : get_or word 0 0 ≡ 48 → length word ≡ 1 =
    λ zero. eqb-true (length word) 1 (lone_zero (length word == 1) (unwrap_or (slice_get word 0) 0) parts.1 (first-get_or word ∙ zero)) in
    ap decimal (sym read.1) ∙ decimal-digits_value own word digits.1 (whole_word word digits.0) zero (omega arith)
