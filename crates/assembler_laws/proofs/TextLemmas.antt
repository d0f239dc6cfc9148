-- Texts of bytes, and their units.
use Rattle.std.proofs.Common.{◌≡◌, ℕ, zero, suc, ◌+◌, ◌-◌, ◌*◌, ◌/◌, ◌%◌, ◌^◌, ◌<◌, ◌≤◌, List, [], ◌∷◌, Bool, true, false, cond, refl, subst, arith, ◌⊎◌, inl, inr}
use Rattle.std.specs.Prelude.{nat_lt}
use Rattle.std.specs.Char.{IsScalar, encode_utf8}
use Rattle.std.specs.Char.Escape.{encode_utf16}
use Rattle.std.specs.List.{AllByRecursion}
use Rattle.std.specs.Str.{all_scalars, chars, chars_after, continuation_len, encode_utf8_all, is_utf8, lead_bits}
use Rattle.std.proofs.lemmas.Bool.{and_parts, ltb-true}
use Rattle.std.proofs.lemmas.Str.{IsUtf8-from_is_utf8}
use Rattle.std.proofs.Math.Utf8.{scalar_cases}
use Rattle.jv_model.specs.Profile.{IsU1, IsU2}
use Rattle.jv_model.specs.Utf16.{units_of_utf8}
use Rattle.assembler_laws.proofs.ListLemmas.{all_append, all_flat, all_weaker}

abbrev pub AreBytes : List ℕ → Type 0
AreBytes bytes = AllByRecursion IsU1 bytes

abbrev pub AreUnits : List ℕ → Type 0
AreUnits units = AllByRecursion IsU2 units

-- ---- characters

-- a character that some bytes are still to come of is this small, whatever the bytes
abbrev IsSmall : ℕ → ℕ → Type 0
IsSmall zero c = c < 5000000
IsSmall (suc zero) c = c < 70600
IsSmall (suc (suc zero)) c = c < 1100
IsSmall (suc (suc (suc zero))) c = c < 16
IsSmall (suc (suc (suc (suc n)))) c = ⊥

by_first : (b : ℕ) (one two three : Bool) → nat_lt b 128 ≡ one → nat_lt b 224 ≡ two → nat_lt b 240 ≡ three → IsU1 b
    → IsSmall (cond one 0 (cond two 1 (cond three 2 3))) (cond one b (cond two (b - 192) (cond three (b - 224) (b - 240))))
by_first b true two three is-one is-two is-three fits = omega (arith, ltb-true b 128 is-one)
by_first b false true three is-one is-two is-three fits = omega (arith, ltb-true b 224 is-two)
by_first b false false true is-one is-two is-three fits = omega (arith, ltb-true b 240 is-three)
by_first b false false false is-one is-two is-three fits = omega arith

first_small : (b : ℕ) → IsU1 b → IsSmall (continuation_len b) (lead_bits b)
first_small b fits = by_first b (nat_lt b 128) (nat_lt b 224) (nat_lt b 240) refl refl refl fits

next_small : (n c b : ℕ) → IsSmall (suc n) c → IsU1 b → IsSmall n (c * 64 + (b - 128))
next_small zero c b small fits = omega arith
next_small (suc zero) c b small fits = omega arith
next_small (suc (suc zero)) c b small fits = omega arith
next_small (suc (suc (suc n))) c b small fits = absurd small

after_small : (n c : ℕ) (bs : List ℕ) → IsSmall n c → AreBytes bs → AllByRecursion (IsSmall 0) (chars_after n c bs)
after_small zero c [] small fit = (small, tt)
after_small zero c (b ∷ bs) small fit =
    (small, after_small (continuation_len b) (lead_bits b) bs (first_small b fit.0) fit.1)
after_small (suc n) c [] small fit = tt
after_small (suc n) c (b ∷ bs) small fit = after_small n (c * 64 + (b - 128)) bs (next_small n c b small fit.0) fit.1

chars_small : (bs : List ℕ) → AreBytes bs → AllByRecursion (IsSmall 0) (chars bs)
unfolding chars
chars_small [] fit = tt
chars_small (b ∷ bs) fit = after_small (continuation_len b) (lead_bits b) bs (first_small b fit.0) fit.1

-- ---- units

by_plane : (c : ℕ) (test : Bool) → nat_lt c 0x1_0000 ≡ test → IsSmall 0 c
    → AreUnits (cond test (c ∷ []) ((0xD800 + (c - 0x1_0000) / 0x400) ∷ (0xDC00 + (c - 0x1_0000) % 0x400) ∷ []))
by_plane c true is small = let below : c < 2 ^ 16 = omega (arith, ltb-true c 0x1_0000 is) in (below, tt)
by_plane c false is small =
    let high : 0xD800 + (c - 0x1_0000) / 0x400 < 2 ^ 16 = omega arith in
    let low : 0xDC00 + (c - 0x1_0000) % 0x400 < 2 ^ 16 = omega arith in
    (high, (low, tt))

-- the units of bytes fit two bytes each
pub units_fit : (bytes : List ℕ) → AreBytes bytes → AreUnits (units_of_utf8 bytes)
unfolding units_of_utf8
units_fit bytes fit =
    all_flat IsU2 encode_utf16 (chars bytes)
    (all_weaker (IsSmall 0) (λ c. AreUnits (encode_utf16 c)) (chars bytes)
    (λ c small. by_plane c (nat_lt c 0x1_0000) refl small) (chars_small bytes fit))

-- ---- what is UTF-8 is made of bytes

by_length : (c : ℕ) (one two three : Bool) → nat_lt c 128 ≡ one → nat_lt c 2048 ≡ two → nat_lt c 65536 ≡ three → c < 1114112
    → AreBytes (cond one (c ∷ []) (cond two ((192 + c / 64) ∷ (128 + c % 64) ∷ [])
    (cond three ((224 + c / 4096) ∷ (128 + c / 64 % 64) ∷ (128 + c % 64) ∷ [])
    ((240 + c / 262144) ∷ (128 + c / 4096 % 64) ∷ (128 + c / 64 % 64) ∷ (128 + c % 64) ∷ []))))
by_length c true two three is-one is-two is-three fits = let a : c < 2 ^ 8 = omega (arith, ltb-true c 128 is-one) in (a, tt)
by_length c false true three is-one is-two is-three fits =
    let a : 192 + c / 64 < 2 ^ 8 = omega (arith, ltb-true c 2048 is-two) in
    let b : 128 + c % 64 < 2 ^ 8 = omega arith in
    (a, (b, tt))
by_length c false false true is-one is-two is-three fits =
    let a : 224 + c / 4096 < 2 ^ 8 = omega (arith, ltb-true c 65536 is-three) in
    let b : 128 + c / 64 % 64 < 2 ^ 8 = omega arith in
    let d : 128 + c % 64 < 2 ^ 8 = omega arith in
    (a, (b, (d, tt)))
by_length c false false false is-one is-two is-three fits =
    let a : 240 + c / 262144 < 2 ^ 8 = omega arith in
    let b : 128 + c / 4096 % 64 < 2 ^ 8 = omega arith in
    let d : 128 + c / 64 % 64 < 2 ^ 8 = omega arith in
    let e : 128 + c % 64 < 2 ^ 8 = omega arith in
    (a, (b, (d, (e, tt))))

not_above : (c : ℕ) → (c < 55296) ⊎ ((57344 ≤ c) × (c < 1114112)) → c < 1114112
not_above c (inl low) = omega arith
not_above c (inr high) = high.1

char_bytes : (c : ℕ) → IsScalar c → AreBytes (encode_utf8 c)
unfolding encode_utf8
char_bytes c scalar = by_length c (nat_lt c 128) (nat_lt c 2048) (nat_lt c 65536) refl refl refl (not_above c (scalar_cases c scalar))

encoded_bytes : (cs : List ℕ) → all_scalars cs ≡ true → AreBytes (encode_utf8_all cs)
encoded_bytes [] scalars = tt
encoded_bytes (c ∷ cs) scalars =
    let parts = and_parts _ (all_scalars cs) scalars in
    all_append IsU1 (encode_utf8 c) (encode_utf8_all cs) (char_bytes c parts.0) (encoded_bytes cs parts.1)

pub utf8_bytes : (bytes : List ℕ) → is_utf8 bytes ≡ true → AreBytes bytes
utf8_bytes bytes is =
    let text = IsUtf8-from_is_utf8 bytes is in
    subst AreBytes text.1.1 (encoded_bytes text.0 text.1.0)
