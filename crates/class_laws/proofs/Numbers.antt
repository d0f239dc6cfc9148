-- What is read of a number or a run of bytes is spelled so, and what is spelled so is read again.
use Rattle.std.proofs.Common.{◌≡◌, ℕ, zero, suc, ◌+◌, ◌*◌, ◌/◌, ◌%◌, ◌^◌, ◌<◌, ◌≤◌, Bool, true, false, cond, ltb, List, [], ◌∷◌, ◌++◌, length, get_or, take, drop, Result, Ok, Err, refl, sym, ap, subst, ◌∙◌, append_assoc, arith, inl, inr}
use Rattle.std.specs.List.{AllByRecursion}
use Rattle.std.specs.Int.{byte_at}
use Rattle.std.proofs.Math.Nat.{div-one, mul-add-div_right, mul-add-mod_self_right, mul_assoc, one-le-pow, pow-succ'}
use Rattle.std.proofs.lemmas.Nat.{div-mul-add}
use Rattle.std.proofs.lemmas.Bool.{cases_lt, ltb-false, le-ltb}
use Rattle.std.proofs.lemmas.List.{take_at, drop_at, take-append-drop, length-append, length-take, get_or-drop, get_or-take, get_or_past}
use Rattle.byteorder.specs.Endian.{big_bytes, big_number}
use Rattle.byteorder.specs.Numbers.{big_from-cons, big_from-lt, big_number-reads_back, length-bytes_high_first}
use Rattle.jv_model.specs.Refusal.{Cause, truncated}
use Rattle.jv_model.specs.Fallible.{◌>>=◌}
use Rattle.jv_model.specs.Input.{Input, behind, number_at, bytes_at}
use Rattle.jv_model.specs.Profile.{IsU1}

-- ---- bytes

abbrev pub IsBytes : List ℕ → Type 0
IsBytes bytes = (i : ℕ) → get_or bytes i 0 < 256

pub IsBytes-rest : (byte : ℕ) (bytes : List ℕ) → IsBytes (byte ∷ bytes) → IsBytes bytes
IsBytes-rest byte bytes fits i = fits (suc i)

pub IsBytes-drop : (count : ℕ) (bytes : List ℕ) → IsBytes bytes → IsBytes (drop count bytes)
IsBytes-drop count bytes fits i = rw get_or-drop (fits (count + i))

pub IsBytes-take : (count : ℕ) (bytes : List ℕ) → IsBytes bytes → IsBytes (take count bytes)
IsBytes-take count bytes fits i =
    elim (cases_lt i count) [
      | inl below ↦ rw (get_or-take count bytes i 0 below) (fits i)
      | inr above ↦ rw (get_or_past (take count bytes) i 0 (omega (arith, length-take count bytes)))
          (omega arith)
    ]

pub all_bytes : (bytes : List ℕ) → IsBytes bytes → AllByRecursion IsU1 bytes
all_bytes [] fits = tt
all_bytes (byte ∷ bytes) fits = (fits 0, all_bytes bytes (IsBytes-rest byte bytes fits))

pub IsBytes-from_all : (bytes : List ℕ) → AllByRecursion IsU1 bytes → IsBytes bytes
IsBytes-from_all [] fits i = omega arith
IsBytes-from_all (byte ∷ bytes) fits zero = fits.0
IsBytes-from_all (byte ∷ bytes) fits (suc i) = IsBytes-from_all bytes fits.1 i

-- ---- steps

-- the value of a step that didn't fail
pub bind_ok : {A B : Type 0} (read : Result A Cause) (then : A → Result B Cause) (y : B)
    → (read >>= then) ≡ Ok y → (x : A) × (read ≡ Ok x) × (then x ≡ Ok y)
bind_ok (Ok x) then y e = (x, refl, e)
bind_ok (Err cause) then y e = absurd cc

-- a test that didn't fail
pub guard_ok : {A : Type 0} (test : Bool) (cause : Cause) (x y : A)
    → cond test (Err cause) (Ok x) ≡ Ok y → (test ≡ false) × (x ≡ y)
guard_ok true cause x y e = absurd cc
guard_ok false cause x y e = (refl, cc)

abbrev done : {A : Type 0} → A → Result A Cause
done x = Ok x

pub ok_is : {A : Type 0} (x y : A) → done x ≡ done y → x ≡ y
ok_is x y e = cc

-- ---- what a reader takes from the front

pub record Takes (input : Input) (text : List ℕ) (rest : Input) : Type 0 where
  pub parts : input.bytes ≡ text ++ rest.bytes
  pub place : rest.at ≡ input.at + length text
  pub rest_fits : IsBytes rest.bytes

pub Takes-none : (input : Input) → IsBytes input.bytes → Takes input [] input
Takes-none input fits = record { parts = refl; place = omega arith; rest_fits = fits }

pub Takes-then : (a : Input) (x : List ℕ) (b : Input) (y : List ℕ) (c : Input) → Takes a x b
    → Takes b y c → Takes a (x ++ y) c
Takes-then a x b y c first second = record {
  parts = first.parts ∙ ap (λ (t : List ℕ). x ++ t) second.parts ∙ sym (append_assoc x y c.bytes);
  place = omega (arith, first.place, second.place, length-append x y);
  rest_fits = second.rest_fits;
}

-- ---- what a reader finds again where it's spelled, whatever stands behind it

abbrev pub Finds : {A : Type 0} → (Input → Result (A × Input) Cause) → A → List ℕ → Type 0
Finds reader x text = (at : ℕ) (more : List ℕ)
    → reader (record { at = at; bytes = text ++ more })
    ≡ Ok (x, record { at = at + length text; bytes = more })

pub Finds-none : {A : Type 0} (x : A) → Finds (λ input. Ok (x, input)) x []
Finds-none x at more = let same : at ≡ at + 0 = omega arith in
    ap (λ (place : ℕ). Ok (x, record { at = place; bytes = more })) same

pub Finds-then : {A B : Type 0} (reader : Input → Result (A × Input) Cause)
    (then : A → Input → Result (B × Input) Cause) (x : A) (y : B) (first second : List ℕ)
    → Finds reader x first → Finds (then x) y second
    → Finds (λ input. reader input >>= λ read. then read.0 read.1) y (first ++ second)
Finds-then reader then x y first second found others at more =
    let place : (at + length first) + length second ≡ at + length (first ++ second) =
    omega (arith, length-append first second) in
    rw (
      append_assoc first second more,
      found at (second ++ more),
      others (at + length first) more,
      place,
    ) refl

pub Finds-map : {A B : Type 0} (reader : Input → Result (A × Input) Cause) (make : A → B) (x : A)
    (text : List ℕ) → Finds reader x text
    → Finds (λ input. reader input >>= λ read. Ok (make read.0, read.1)) (make x) text
Finds-map reader make x text found at more = rw (found at more) refl

-- ---- numbers

byte_at-pow : (place n : ℕ) → byte_at place n ≡ n / 256 ^ place % 256
byte_at-pow zero n = ap (λ (m : ℕ). m % 256) (sym (div-one n))
byte_at-pow (suc place) n = refl

pow_above : (n : ℕ) → zero < 256 ^ n
pow_above n = let above = one-le-pow n 256 (omega arith) in omega arith

-- what is above the lowest bytes of a number doesn't change them
big_bytes-low : (width high low : ℕ)
    → big_bytes width (high * 256 ^ width + low) ≡ big_bytes width low
big_bytes-low zero high low = refl
big_bytes-low (suc width) high low =
    let regrouped : high * 256 ^ suc width ≡ high * 256 * 256 ^ width =
    ap (λ (n : ℕ). high * n) (pow-succ' 256 width) ∙ sym (mul_assoc high 256 (256 ^ width)) in
    let first : byte_at width (high * 256 * 256 ^ width + low) ≡ byte_at width low =
    rw (
      byte_at-pow width (high * 256 * 256 ^ width + low),
      byte_at-pow width low,
      mul-add-div_right (pow_above width) (high * 256) low,
    )
    (mul-add-mod_self_right high 256 (low / 256 ^ width)) in
    rw (regrouped, first, big_bytes-low width (high * 256) low) refl

-- the bytes of the number in the first bytes are these
big_bytes-number : (width : ℕ) (bytes : List ℕ) → width ≤ length bytes → IsBytes bytes
    → big_bytes width (big_number width bytes) ≡ take width bytes
big_bytes-number zero bytes long fits = refl
big_bytes-number (suc width) [] long fits = absurd (omega arith)
big_bytes-number (suc width) (byte ∷ bytes) long fits =
    let low : big_number width bytes < 256 ^ width =
    big_from-lt 0 width bytes (IsBytes-rest byte bytes fits) in
    let byte_fits : byte < 256 = fits 0 in
    let first : byte_at width (byte * 256 ^ width + big_number width bytes) ≡ byte =
    rw (
      byte_at-pow width (byte * 256 ^ width + big_number width bytes),
      div-mul-add byte (256 ^ width) (big_number width bytes) low,
    ) (omega arith) in
    let others : big_bytes width (byte * 256 ^ width + big_number width bytes) ≡ take width bytes =
    big_bytes-low width byte (big_number width bytes)
    ∙ big_bytes-number width bytes (omega arith) (IsBytes-rest byte bytes fits) in
    rw (big_from-cons 0 width byte bytes, first, others) refl

pub number_takes : (width : ℕ) (input : Input) (number : ℕ × Input)
    → number_at width input ≡ Ok number → IsBytes input.bytes
    → Takes input (big_bytes width number.0) number.1 × (number.0 < 256 ^ width)
number_takes width input number e fits =
    let read = guard_ok (ltb (length input.bytes) width) (truncated input.at)
    (big_number width input.bytes, behind width input) number e in
    let long : width ≤ length input.bytes = ltb-false _ _ read.0 in
    let front : big_bytes width (big_number width input.bytes) ≡ take width input.bytes =
    big_bytes-number width input.bytes long fits in
    let made : Takes input (big_bytes width (big_number width input.bytes)) (behind width input) =
    record {
      parts = rw front (sym (take-append-drop width input.bytes));
      place = ap (λ (n : ℕ). input.at + n)
          (sym (length-bytes_high_first width (big_number width input.bytes)));
      rest_fits = IsBytes-drop width input.bytes fits;
    } in
    subst (λ (n : ℕ × Input). Takes input (big_bytes width n.0) n.1 × (n.0 < 256 ^ width)) read.1
    (made, big_from-lt 0 width input.bytes fits)

pub number_again : (width n : ℕ) → n < 256 ^ width → Finds (number_at width) n (big_bytes width n)
number_again width n below at more =
    let len = length-bytes_high_first width n in
    let long : ltb (length (big_bytes width n ++ more)) width ≡ false =
    le-ltb _ _ (omega (arith, length-append (big_bytes width n) more)) in
    rw (
      long,
      big_number-reads_back width n more below,
      drop_at (big_bytes width n) more width len,
      len,
    ) refl

-- ---- runs of bytes

pub run_takes : (count : ℕ) (input : Input) (run : List ℕ × Input) → bytes_at count input ≡ Ok run
    → IsBytes input.bytes → Takes input run.0 run.1 × (length run.0 ≡ count) × IsBytes run.0
run_takes count input run e fits =
    let read = guard_ok (ltb (length input.bytes) count) (truncated input.at)
    (take count input.bytes, behind count input) run e in
    let long : count ≤ length input.bytes = ltb-false _ _ read.0 in
    let len : length (take count input.bytes) ≡ count =
    omega (arith, length-take count input.bytes) in
    let made : Takes input (take count input.bytes) (behind count input) =
    record {
      parts = sym (take-append-drop count input.bytes);
      place = ap (λ (n : ℕ). input.at + n) (sym len);
      rest_fits = IsBytes-drop count input.bytes fits;
    } in
    subst (λ (r : List ℕ × Input). Takes input r.0 r.1 × (length r.0 ≡ count) × IsBytes r.0) read.1
    (made, len, IsBytes-take count input.bytes fits)

pub run_again : (count : ℕ) (bytes : List ℕ) → length bytes ≡ count
    → Finds (bytes_at count) bytes bytes
run_again count bytes len at more =
    let long : ltb (length (bytes ++ more)) count ≡ false =
    le-ltb _ _ (omega (arith, length-append bytes more)) in
    rw (long, take_at bytes more count len, drop_at bytes more count len, len) refl
