-- Texts are equal where their units of UTF-16 are.
use Rattle.std.proofs.Common.{◌≡◌, ◌⊎◌, ℕ, ◌+◌, ◌-◌, ◌*◌, ◌/◌, ◌%◌, ◌<◌, ◌≤◌, List, [], ◌∷◌, ◌++◌, Bool, true, false, cond, refl, ap, sym, ◌∙◌, arith}
use Rattle.std.specs.Prelude.{◌&&◌, nat_lt, bytes_eq}
use Rattle.std.specs.List.{flat_map}
use Rattle.std.specs.Char.Escape.{encode_utf16}
use Rattle.std.specs.Str.{chars, is_utf8, IsUtf8}
use Rattle.std.proofs.Math.Utf8.{scalar, scalars, scalar_cases}
use Rattle.std.proofs.lemmas.Bool.{ltb-true, ltb-false}
use Rattle.std.proofs.lemmas.Bool.Decides.{same_from_decides}
use Rattle.std.proofs.lemmas.Slice.Eq.{bytes_eq-Decides}
use Rattle.std.proofs.lemmas.Str.{IsUtf8-from_is_utf8, encodes-chars, scalars-chars}
use Rattle.std.proofs.Math.Utf8.{encodes}
use Rattle.jv_model.specs.Utf16.{units_of_utf8}

pub both : (a b : Bool) → (a && b) ≡ true → (a ≡ true) × (b ≡ true)
both true b is = (refl, is)
both false b is = absurd cc

-- the units of a character, by whether it takes one
abbrev units_by : Bool → ℕ → List ℕ
units_by one c = cond one (c ∷ []) ((0xD800 + (c - 0x10000) / 0x400) ∷ (0xDC00 + (c - 0x10000) % 0x400) ∷ [])

same_pair : (c d : ℕ) → 0x10000 ≤ c → 0x10000 ≤ d → (c - 0x10000) / 0x400 ≡ (d - 0x10000) / 0x400
    → (c - 0x10000) % 0x400 ≡ (d - 0x10000) % 0x400 → c ≡ d
same_pair c d big big' high low = omega arith

lone : (c d : ℕ) → (c < 55296) ⊎ ((57344 ≤ c) × (c < 1114112)) → (d < 55296) ⊎ ((57344 ≤ d) × (d < 1114112)) → 0x10000 ≤ d
    → c ≡ 0xD800 + (d - 0x10000) / 0x400 → c < 0x10000 → ⊥
lone c d c-in d-in big is small = grind arith

first_same : (one two : Bool) (c d : ℕ) (us vs : List ℕ) → nat_lt c 0x10000 ≡ one → nat_lt d 0x10000 ≡ two
    → scalar c ≡ true → scalar d ≡ true → units_by one c ++ us ≡ units_by two d ++ vs → (c ≡ d) × (us ≡ vs)
first_same true true c d us vs o t c-is d-is same = (cc, cc)
first_same true false c d us vs o t c-is d-is same =
    let is : c ≡ 0xD800 + (d - 0x10000) / 0x400 = cc in
    absurd (lone c d (scalar_cases c c-is) (scalar_cases d d-is) (ltb-false d 0x10000 t) is (ltb-true c 0x10000 o))
first_same false true c d us vs o t c-is d-is same =
    let is : d ≡ 0xD800 + (c - 0x10000) / 0x400 = cc in
    absurd (lone d c (scalar_cases d d-is) (scalar_cases c c-is) (ltb-false c 0x10000 o) is (ltb-true d 0x10000 t))
first_same false false c d us vs o t c-is d-is same =
    let high : 0xD800 + (c - 0x10000) / 0x400 ≡ 0xD800 + (d - 0x10000) / 0x400 = cc in
    let low : 0xDC00 + (c - 0x10000) % 0x400 ≡ 0xDC00 + (d - 0x10000) % 0x400 = cc in
    (same_pair c d (ltb-false c 0x10000 o) (ltb-false d 0x10000 t) (omega arith) (omega arith), cc)

none_first : (one : Bool) (c : ℕ) (us : List ℕ) → [] ≡ units_by one c ++ us → ⊥
none_first true c us is = cc
none_first false c us is = cc

characters_same : (cs ds : List ℕ) → scalars cs ≡ true → scalars ds ≡ true
    → flat_map encode_utf16 cs ≡ flat_map encode_utf16 ds → cs ≡ ds
characters_same [] [] c-are d-are same = refl
characters_same [] (d ∷ ds) c-are d-are same = absurd (none_first (nat_lt d 0x10000) d (flat_map encode_utf16 ds) same)
characters_same (c ∷ cs) [] c-are d-are same = absurd (none_first (nat_lt c 0x10000) c (flat_map encode_utf16 cs) (sym same))
characters_same (c ∷ cs) (d ∷ ds) c-are d-are same =
    let c-is = both (scalar c) (scalars cs) c-are in
    let d-is = both (scalar d) (scalars ds) d-are in
    let first = first_same (nat_lt c 0x10000) (nat_lt d 0x10000) c d (flat_map encode_utf16 cs) (flat_map encode_utf16 ds) refl refl c-is.0 d-is.0 same in
    let rest : cs ≡ ds = characters_same cs ds c-is.1 d-is.1 first.1 in
    let here : c ≡ d = first.0 in
    cc

texts_same : (a b : List ℕ) → is_utf8 a ≡ true → is_utf8 b ≡ true → units_of_utf8 a ≡ units_of_utf8 b → a ≡ b
unfolding units_of_utf8
texts_same a b a-is b-is same =
    let ua = IsUtf8-from_is_utf8 a a-is in
    let ub = IsUtf8-from_is_utf8 b b-is in
    sym (encodes-chars a ua) ∙ ap encodes (characters_same (chars a) (chars b) (scalars-chars a ua) (scalars-chars b ub) same) ∙ encodes-chars b ub

-- texts are compared as their units are
pub same_units : (a b : List ℕ) → is_utf8 a ≡ true → is_utf8 b ≡ true
    → bytes_eq a b ≡ bytes_eq (units_of_utf8 a) (units_of_utf8 b)
same_units a b a-is b-is =
    let d = bytes_eq-Decides a b in
    let e = bytes_eq-Decides (units_of_utf8 a) (units_of_utf8 b) in
    same_from_decides (bytes_eq a b) (bytes_eq (units_of_utf8 a) (units_of_utf8 b)) d
    ((λ is. texts_same a b a-is b-is (e.0 is)), (λ is. e.1 (ap units_of_utf8 is)))

pub bytes_eq-comm : (a b : List ℕ) → bytes_eq a b ≡ bytes_eq b a
bytes_eq-comm a b =
    let d = bytes_eq-Decides a b in
    let e = bytes_eq-Decides b a in
    same_from_decides (bytes_eq a b) (bytes_eq b a) d ((λ is. sym (e.0 is)), (λ is. e.1 (sym is)))
