-- Numbers that words spell, and numbers as bytes.
use Rattle.std.proofs.Common.{◌≡◌, ℕ, zero, suc, ◌+◌, ◌-◌, ◌*◌, ◌<◌, ℤ, List, [], ◌∷◌, Bool, true, false, Option, Some, None, Result, Ok, Err, refl, arith}
use Rattle.std.specs.Prelude.{◌&&◌, ◌*◌, pos, neg_ℤ, int_le, nat_le, FitsSigned, IfOk, IfSome, if◌then◌else◌, option_and_then, option_map}
use Rattle.std.specs.Int.{byte_at, w32, w64}
use Rattle.std.proofs.lemmas.Bool.{and_parts, leb-true}
use Rattle.std.proofs.lemmas.Int.{ints}
use Rattle.byteorder.specs.Endian.{big_bytes}
use Rattle.jv_model.specs.Refusal.{LineKind, wrong_number}
use Rattle.jv_model.specs.Profile.{IsU1, IsU2}
use Rattle.text_model.specs.Numerals.{hex_bytes, hex_digit, hex_pair, int_in, integer_between, integer_in, integer_of, is_digit, long_in, natural_between, natural_in, natural_of, u2_in}
use Rattle.text_model.specs.Words.{present}
use Rattle.assembler_laws.proofs.TextLemmas.{AreBytes}

-- what is present is what there was
pub present_if : {A : Type 0} (P : A → Type 0) (x : Option A) (kind : LineKind) → IfSome x P → IfOk (present x kind) P
present_if P (Some x) kind is = is
present_if P None kind is = tt

pub then_some : {A B : Type 0} (P : B → Type 0) (x : Option A) (f : A → Option B) → ((a : A) → IfSome (f a) P)
    → IfSome (option_and_then f x) P
then_some P (Some x) f each = each x
then_some P None f each = tt

natural_by : (test : Bool) (n : ℕ) → (nat_le 0 n && nat_le n 65535) ≡ test → IfSome (if test then Some n else None) IsU2
natural_by true n is = let most = leb-true n 65535 (and_parts (nat_le 0 n) (nat_le n 65535) is).1 in omega (arith, most)
natural_by false n is = tt

pub u2_fits : (word : List ℕ) → IfOk (u2_in word) IsU2
unfolding natural_in
u2_fits word =
    present_if IsU2 (option_and_then (natural_between 0 65535) (natural_of word)) wrong_number
    (then_some IsU2 (natural_of word) (natural_between 0 65535) (λ n. natural_by (nat_le 0 n && nat_le n 65535) n refl))

-- a number between two others
abbrev IsBetween : ℤ → ℤ → ℤ → Type 0
IsBetween least most z = (int_le least z ≡ true) × (int_le z most ≡ true)

integer_by : (test : Bool) (least most z : ℤ) → (int_le least z && int_le z most) ≡ test
    → IfSome (if test then Some z else None) (IsBetween least most)
integer_by true least most z is = and_parts (int_le least z) (int_le z most) is
integer_by false least most z is = tt

between : (least most : ℤ) (word : List ℕ) → IfOk (integer_in least most word) (IsBetween least most)
unfolding integer_in
between least most word =
    present_if (IsBetween least most) (option_and_then (integer_between least most) (integer_of word)) wrong_number
    (then_some (IsBetween least most) (integer_of word) (integer_between least most)
    (λ z. integer_by (int_le least z && int_le z most) least most z refl))

if_weaker : {A E : Type 0} (P Q : A → Type 0) (x : Result A E) → ((a : A) → P a → Q a) → IfOk x P → IfOk x Q
if_weaker P Q (Ok x) weaker is = weaker x is
if_weaker P Q (Err e) weaker is = tt

int_between : (z : ℤ) → IsBetween (neg_ℤ (pos 2147483648)) (pos 2147483647) z → FitsSigned w32 z
int_between z is = omega (arith, ints)

long_between : (z : ℤ) → IsBetween (neg_ℤ (pos 9223372036854775808)) (pos 9223372036854775807) z → FitsSigned w64 z
long_between z is = omega (arith, ints)

pub int_fits : (word : List ℕ) → IfOk (int_in word) (FitsSigned w32)
int_fits word =
    if_weaker (IsBetween (neg_ℤ (pos 2147483648)) (pos 2147483647)) (FitsSigned w32) (int_in word) int_between
    (between (neg_ℤ (pos 2147483648)) (pos 2147483647) word)

pub long_fits : (word : List ℕ) → IfOk (long_in word) (FitsSigned w64)
long_fits word =
    if_weaker (IsBetween (neg_ℤ (pos 9223372036854775808)) (pos 9223372036854775807)) (FitsSigned w64) (long_in word)
    long_between (between (neg_ℤ (pos 9223372036854775808)) (pos 9223372036854775807) word)

-- ---- hexadecimal digits

abbrev IsDigit : ℕ → Type 0
IsDigit n = n < 16

decimal_by : (byte : ℕ) (test : Bool) (other : Option ℕ) → is_digit byte ≡ test → IfSome other IsDigit
    → IfSome (if test then Some (byte - 48) else other) IsDigit
decimal_by byte true other is rest =
    let most = leb-true byte 57 (and_parts (nat_le 48 byte) (nat_le byte 57) is).1 in omega (arith, most)
decimal_by byte false other is rest = rest

letter_by : (byte least most : ℕ) (test : Bool) (other : Option ℕ) → (nat_le (least + 10) byte && nat_le byte (least + 15)) ≡ test
    → most ≡ least → IfSome other IsDigit → IfSome (if test then Some (byte - most) else other) IsDigit
letter_by byte least most true other is same rest =
    let above = leb-true byte (least + 15) (and_parts (nat_le (least + 10) byte) (nat_le byte (least + 15)) is).1 in
    omega (arith, above)
letter_by byte least most false other is same rest = rest

digit_small : (byte : ℕ) → IfSome (hex_digit byte) IsDigit
digit_small byte =
    decimal_by byte (is_digit byte) _ refl
    (letter_by byte 87 87 (nat_le 97 byte && nat_le byte 102) _ refl refl
    (letter_by byte 55 55 (nat_le 65 byte && nat_le byte 70) None refl refl tt))

pair_by : (high low : Option ℕ) → IfSome high IsDigit → IfSome low IsDigit
    → IfSome (option_and_then (λ h. option_map (λ l. h * 16 + l) low) high) IsU1
pair_by None low first second = tt
pair_by (Some h) None first second = tt
pair_by (Some h) (Some l) first second = omega arith

rest_by : (byte : Option ℕ) (rest : Option (List ℕ)) → IfSome byte IsU1 → IfSome rest AreBytes
    → IfSome (option_and_then (λ byte. option_map (λ bytes. byte ∷ bytes) rest) byte) AreBytes
rest_by None rest first second = tt
rest_by (Some byte) None first second = tt
rest_by (Some byte) (Some bytes) first second = (first, second)

pub hex_fit : (word : List ℕ) → IfSome (hex_bytes word) AreBytes
unfolding hex_bytes
hex_fit [] = tt
hex_fit (high ∷ []) = tt
hex_fit (high ∷ low ∷ rest) =
    rest_by (hex_pair high low) (hex_bytes rest) (pair_by (hex_digit high) (hex_digit low) (digit_small high) (digit_small low))
    (hex_fit rest)

-- ---- bytes of numbers

byte_fits : (k n : ℕ) → IsU1 (byte_at k n)
byte_fits zero n = omega arith
byte_fits (suc k) n = omega arith

pub bytes_fit : (width n : ℕ) → AreBytes (big_bytes width n)
bytes_fit zero n = tt
bytes_fit (suc width) n = (byte_fits width n, bytes_fit width n)
