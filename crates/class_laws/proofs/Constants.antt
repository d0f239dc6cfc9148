-- An entry of the constant pool that is read is spelled so, and what is spelled so is read again.
use Rattle.std.proofs.Common.{◌≡◌, ℕ, ◌^◌, ◌<◌, Bool, true, false, cond, eqb, ◌||◌, ◌&&◌, List, ◌++◌, length, Option, Some, None, Result, Ok, Err, refl, sym, ap, subst, arith, inl, inr, ℤ, rules}
use Rattle.std.specs.Int.{w32, w64, cast_signed, cast_unsigned}
use Rattle.std.specs.Prelude.{FitsSigned}
use Rattle.std.proofs.lemmas.Bool.{eqb-true, cases_Bool}
use Rattle.std.proofs.lemmas.Int.{ints, of_z-to_z, to_z-of_z}
use Rattle.byteorder.specs.Endian.{big_bytes}
use Rattle.jv_model.specs.Refusal.{Cause, wrong_constant, text_run_bytes}
use Rattle.jv_model.specs.Fallible.{◌>>=◌}
use Rattle.jv_model.specs.Input.{Input, number_at, bytes_at}
use Rattle.jv_model.specs.ClassData.{Const, gap, utf8, integer, float, long, double, class, string, fieldref, methodref, interface_methodref, name_and_type, method_handle, method_type, invoke_dynamic}
use Rattle.jv_model.specs.ModifiedUtf8.{SpellsText, text_bytes, units_of}
use Rattle.jv_model.specs.ClassBytes.{u1, u2, u4, u8, text_run, constant_bytes}
use Rattle.jv_model.specs.ConstantPool.{is_gap, is_wide}
use Rattle.jv_model.specs.ClassLimits.{constant_limit}
use Rattle.jv_model.specs.Profile.{IsU2, FitsConst}
use Rattle.jv_model.specs.ClassReading.{text_read, utf8_at, single_at, pair_at, tagged_at, constant_at}
use Rattle.class_laws.proofs.Numbers.{IsBytes, bind_ok, ok_is, Takes, Takes-then, Finds, Finds-then, number_takes, number_again, run_takes, run_again}
use Rattle.class_laws.proofs.Readers.{Reads, Then, Reads-then, Made, Reads-map, Spelt, number_reads, u2_reads, spelt_then}
use Rattle.class_laws.proofs.Counts.{is_within, fits_count}
use Rattle.class_laws.proofs.ModifiedUtf8.{text_takes, text_again}

-- what an entry is by itself: it's no gap, its text isn't too long for its count, and the last one
-- isn't wide
pub record IsEntry (is_last : Bool) (constant : Const) : Type 0 where
  pub fits : FitsConst constant
  pub is_short : constant_limit constant ≡ None
  pub is_there : is_gap constant ≡ false
  pub has_room : (is_last && is_wide constant) ≡ false

-- ---- entries of one number and of two

single_reads : (width : ℕ) (make : ℕ → Const)
    → Reads (single_at width make) (Made make (Spelt (big_bytes width) (λ n. n < 256 ^ width)))
unfolding single_at
single_reads width make = Reads-map (number_at width) _ make (number_reads width)

pair_reads : (width : ℕ) (make : ℕ → ℕ → Const)
    → Reads (pair_at width make) (Then (Spelt (big_bytes width) (λ n. n < 256 ^ width))
    (λ first. Made (make first) (Spelt u2 IsU2)))
unfolding pair_at
pair_reads width make = Reads-then _ (number_reads width)
    (λ first. Reads-map (number_at 2) (Spelt u2 IsU2) (make first) u2_reads)

-- ---- what is read is spelled

-- what an entry behind this tag is
record IsMade (tag : ℕ) (constant : Const) (body : List ℕ) : Type 0 where
  spelled : constant_bytes constant ≡ u1 tag ++ body
  fits : FitsConst constant
  is_short : constant_limit constant ≡ None
  is_there : is_gap constant ≡ false
  wide : is_wide constant ≡ (eqb tag 5 || eqb tag 6)

-- an entry behind this tag was read
record Tagged (tag : ℕ) (input : Input) (read : Const × Input) : Type 0 where
  takes : Takes input (constant_bytes read.0) read.1
  fits : FitsConst read.0
  is_short : constant_limit read.0 ≡ None
  is_there : is_gap read.0 ≡ false
  wide : is_wide read.0 ≡ (eqb tag 5 || eqb tag 6)

text_is_read : (index : ℕ) (units : Option (List ℕ)) (rest : Input) (read : Const × Input)
    → text_read index units rest ≡ Ok read
    → (text : List ℕ) × (units ≡ Some text) × ((utf8 text, rest) ≡ read)
text_is_read index None rest read e = absurd cc
text_is_read index (Some text) rest read e = (text, refl, ok_is (utf8 text, rest) read e)

utf8_takes : (index : ℕ) (input : Input) (read : Const × Input) → utf8_at index input ≡ Ok read
    → IsBytes input.bytes
    → (text : List ℕ) × FitsConst (utf8 text) × (length (text_bytes text) < 2 ^ 16)
    × (read.0 ≡ utf8 text) × Takes input (text_run (text_bytes text)) read.1
unfolding utf8_at
utf8_takes index input read e fits =
    let count = bind_ok (number_at 2 input)
    (λ count. bytes_at count.0 count.1 >>= λ bytes. text_read index (units_of bytes.0) bytes.1)
    read e in
    let run = bind_ok (bytes_at count.0.0 count.0.1)
    (λ bytes. text_read index (units_of bytes.0) bytes.1) read count.2 in
    let text = text_is_read index (units_of run.0.0) run.0.1 read run.2 in
    let first = number_takes 2 input count.0 count.1 fits in
    let second = run_takes count.0.0 count.0.1 run.0 run.1 first.0.rest_fits in
    let spells = text_takes run.0.0 text.0 text.1 in
    let both = Takes-then input (u2 count.0.0) count.0.1 run.0.0 run.0.1 first.0 second.0 in
    let counted : Takes input (text_run run.0.0) run.0.1 =
    subst (λ (n : ℕ). Takes input (u2 n ++ run.0.0) run.0.1) (sym second.1) both in
    let whole : Takes input (text_run (text_bytes text.0)) run.0.1 =
    subst (λ (bytes : List ℕ). Takes input (text_run bytes) run.0.1) spells.spelled counted in
    let short : length (text_bytes text.0) < 2 ^ 16 =
    omega (arith, ap (λ (bytes : List ℕ). length bytes) spells.spelled, second.1, first.1) in
    let is_spelled : SpellsText (text_bytes text.0) text.0 =
    record { units_fit = spells.units_fit; spelled = refl } in (
      text.0,
      is_spelled,
      short,
      sym (ap (λ (r : Const × Input). r.0) text.2),
      subst (λ (r : Const × Input). Takes input (text_run (text_bytes text.0)) r.1) text.2 whole,
    )

integer_made : (n : ℕ) → n < 256 ^ 4 → IsMade 3 (integer (cast_signed w32 n)) (big_bytes 4 n)
integer_made n below = record {
  spelled = rw (of_z-to_z w32 n below) refl;
  fits = search rules;
  is_short = refl;
  is_there = refl;
  wide = refl;
}

long_made : (n : ℕ) → n < 256 ^ 8 → IsMade 5 (long (cast_signed w64 n)) (big_bytes 8 n)
long_made n below = record {
  spelled = rw (of_z-to_z w64 n below) refl;
  fits = search rules;
  is_short = refl;
  is_there = refl;
  wide = refl;
}

module _ (number : ℕ) (input after : Input) (read : Const × Input)
    (head : Takes input (u1 number) after) where
  tagged : (tag : ℕ) (constant : Const) (body : List ℕ) → IsMade tag constant body → number ≡ tag
      → read.0 ≡ constant → Takes after body read.1 → Tagged number input read
  tagged tag constant body made is same others =
      let first : Takes input (u1 tag) after =
      subst (λ (n : ℕ). Takes input (u1 n) after) is head in
      record {
        takes = rw (same, made.spelled) (Takes-then input (u1 tag) after body read.1 first others);
        fits = rw same made.fits;
        is_short = rw same made.is_short;
        is_there = rw same made.is_there;
        wide = rw (same, is) made.wide;
      }

  single : (tag width : ℕ) (make : ℕ → Const)
      → ((n : ℕ) → n < 256 ^ width → IsMade tag (make n) (big_bytes width n)) → number ≡ tag
      → single_at width make after ≡ Ok read → Tagged number input read
  single tag width make each is e =
      let taken = (single_reads width make).takes after read e head.rest_fits in
      let n = taken.spelled.0 in
      tagged tag (make n) (big_bytes width n) (each n taken.spelled.1.right) is taken.spelled.2
      (rw (← taken.spelled.1.text_is) taken.takes)

  pair : (tag width : ℕ) (make : ℕ → ℕ → Const)
      → ((m n : ℕ) → m < 256 ^ width → n < 256 ^ 2
      → IsMade tag (make m n) (big_bytes width m ++ u2 n)) → number ≡ tag
      → pair_at width make after ≡ Ok read → Tagged number input read
  pair tag width make each is e =
      let taken = (pair_reads width make).takes after read e head.rest_fits in
      let first = taken.spelled in
      let second = first.others in
      tagged tag (make first.first second.0) (big_bytes width first.first ++ u2 second.0)
      (each first.first second.0 first.spelled.right second.1.right) is second.2
      (rw (← first.spelled.text_is, ← second.1.text_is, ← first.parts) taken.takes)

  text : (index : ℕ) → number ≡ 1 → utf8_at index after ≡ Ok read → Tagged number input read
  text index is e =
      let parts = utf8_takes index after read e head.rest_fits in
      tagged 1 (utf8 parts.0) (text_run (text_bytes parts.0))
      (record {
        spelled = refl;
        fits = parts.1;
        is_short = is_within text_run_bytes _ parts.2;
        is_there = refl;
        wide = refl;
      }) is parts.3 parts.4

  by_tag : (tag : ℕ) (x y : Result (Const × Input) Cause)
      → (number ≡ tag → x ≡ Ok read → Tagged number input read)
      → (y ≡ Ok read → Tagged number input read) → cond (eqb number tag) x y ≡ Ok read
      → Tagged number input read
  by_tag tag x y here others e =
      elim (cases_Bool (eqb number tag)) [
        | inl is ↦ here (eqb-true number tag is) (rw is at e)
        | inr not ↦ others (rw not at e)
      ]

  refused : (cause : Cause) → Err cause ≡ Ok read → Tagged number input read
  refused cause e = absurd cc

  tagged_takes : (index : ℕ) → tagged_at index number after ≡ Ok read → Tagged number input read
  tagged_takes index e =
      let from_18 = by_tag 18 (pair_at 2 invoke_dynamic after) _
      (pair 18 2 invoke_dynamic (λ m n fits others.
      record {
        spelled = refl;
        fits = (fits, others);
        is_short = refl;
        is_there = refl;
        wide = refl;
      })) (refused (wrong_constant index)) in
      let from_16 = by_tag 16 (single_at 2 method_type after) _
      (single 16 2 method_type (λ n fits.
      record { spelled = refl; fits = fits; is_short = refl; is_there = refl; wide = refl }))
      from_18 in
      let from_15 = by_tag 15 (pair_at 1 method_handle after) _
      (pair 15 1 method_handle (λ m n fits others.
      record {
        spelled = refl;
        fits = (fits, others);
        is_short = refl;
        is_there = refl;
        wide = refl;
      })) from_16 in
      let from_12 = by_tag 12 (pair_at 2 name_and_type after) _
      (pair 12 2 name_and_type (λ m n fits others.
      record {
        spelled = refl;
        fits = (fits, others);
        is_short = refl;
        is_there = refl;
        wide = refl;
      })) from_15 in
      let from_11 = by_tag 11 (pair_at 2 interface_methodref after) _
      (pair 11 2 interface_methodref
      (λ m n fits others. record {
        spelled = refl;
        fits = (fits, others);
        is_short = refl;
        is_there = refl;
        wide = refl;
      })) from_12 in
      let from_10 = by_tag 10 (pair_at 2 methodref after) _
      (pair 10 2 methodref (λ m n fits others.
      record {
        spelled = refl;
        fits = (fits, others);
        is_short = refl;
        is_there = refl;
        wide = refl;
      })) from_11 in
      let from_9 = by_tag 9 (pair_at 2 fieldref after) _
      (pair 9 2 fieldref (λ m n fits others.
      record {
        spelled = refl;
        fits = (fits, others);
        is_short = refl;
        is_there = refl;
        wide = refl;
      })) from_10 in
      let from_8 = by_tag 8 (single_at 2 string after) _
      (single 8 2 string (λ n fits. record
      { spelled = refl; fits = fits; is_short = refl; is_there = refl; wide = refl })) from_9 in
      let from_7 = by_tag 7 (single_at 2 class after) _
      (single 7 2 class (λ n fits. record
      { spelled = refl; fits = fits; is_short = refl; is_there = refl; wide = refl })) from_8 in
      let from_6 = by_tag 6 (single_at 8 double after) _
      (single 6 8 double (λ n fits. record
      { spelled = refl; fits = fits; is_short = refl; is_there = refl; wide = refl })) from_7 in
      let from_5 = by_tag 5 (single_at 8 (λ bits. long (cast_signed w64 bits)) after) _
      (single 5 8 (λ bits. long (cast_signed w64 bits)) long_made) from_6 in
      let from_4 = by_tag 4 (single_at 4 float after) _
      (single 4 4 float (λ n fits. record
      { spelled = refl; fits = fits; is_short = refl; is_there = refl; wide = refl })) from_5 in
      let from_3 = by_tag 3 (single_at 4 (λ bits. integer (cast_signed w32 bits)) after) _
      (single 3 4 (λ bits. integer (cast_signed w32 bits)) integer_made) from_4 in
      by_tag 1 (utf8_at index after) _ (text index) from_3 e

refuse_ok : {A : Type 0} (test : Bool) (cause : Cause) (x : Result A Cause) (y : A)
    → cond test (Err cause) x ≡ Ok y → (test ≡ false) × (x ≡ Ok y)
refuse_ok true cause x y e = absurd cc
refuse_ok false cause x y e = (refl, e)

pub constant_takes : (index : ℕ) (is_last : Bool) (input : Input) (read : Const × Input)
    → constant_at index is_last input ≡ Ok read → IsBytes input.bytes
    → Takes input (constant_bytes read.0) read.1 × IsEntry is_last read.0
unfolding constant_at
constant_takes index is_last input read e fits =
    let number = bind_ok (number_at 1 input)
    (λ tag. cond (is_last && (eqb tag.0 5 || eqb tag.0 6)) (Err (wrong_constant index))
    (tagged_at index tag.0 tag.1)) read e in
    let test = refuse_ok (is_last && (eqb number.0.0 5 || eqb number.0.0 6)) (wrong_constant index)
    (tagged_at index number.0.0 number.0.1) read number.2 in
    let first = number_takes 1 input number.0 number.1 fits in
    let entry = tagged_takes number.0.0 input number.0.1 read first.0 index test.1 in (
      entry.takes,
      record {
        fits = entry.fits;
        is_short = entry.is_short;
        is_there = entry.is_there;
        has_room = rw entry.wide test.0;
      },
    )

-- ---- what is spelled is read

single_again : (width : ℕ) (make : ℕ → Const) (n : ℕ) → n < 256 ^ width
    → Finds (single_at width make) (make n) (big_bytes width n)
single_again width make n fits at more =
    (single_reads width make).finds at (big_bytes width n) (make n)
    (n, record { text_is = refl; right = fits }, refl) more

pair_again : (width : ℕ) (make : ℕ → ℕ → Const) (m n : ℕ) → m < 256 ^ width → n < 256 ^ 2
    → Finds (pair_at width make) (make m n) (big_bytes width m ++ u2 n)
pair_again width make m n fits others at more =
    (pair_reads width make).finds at (big_bytes width m ++ u2 n) (make m n)
    (spelt_then m _ fits (n, record { text_is = refl; right = others }, refl)) more

integer_again : (value : ℤ) → FitsSigned w32 value
    → Finds (single_at 4 (λ bits. integer (cast_signed w32 bits))) (integer value)
    (u4 (cast_unsigned w32 value))
integer_again value fits =
    subst (λ (v : ℤ). Finds (single_at 4 (λ bits. integer (cast_signed w32 bits))) (integer v)
    (u4 (cast_unsigned w32 value))) (to_z-of_z w32 value fits)
    (single_again 4 (λ bits. integer (cast_signed w32 bits)) (cast_unsigned w32 value)
    (omega (arith, ints)))

long_again : (value : ℤ) → FitsSigned w64 value
    → Finds (single_at 8 (λ bits. long (cast_signed w64 bits))) (long value)
    (u8 (cast_unsigned w64 value))
long_again value fits =
    subst (λ (v : ℤ). Finds (single_at 8 (λ bits. long (cast_signed w64 bits))) (long v)
    (u8 (cast_unsigned w64 value))) (to_z-of_z w64 value fits)
    (single_again 8 (λ bits. long (cast_signed w64 bits)) (cast_unsigned w64 value)
    (omega (arith, ints)))

utf8_again : (index : ℕ) (text : List ℕ) → FitsConst (utf8 text) → constant_limit (utf8 text) ≡ None
    → Finds (utf8_at index) (utf8 text) (text_run (text_bytes text))
unfolding utf8_at
utf8_again index text spells short =
    Finds-then (number_at 2) (λ count rest. bytes_at count rest >>= λ bytes.
    text_read index (units_of bytes.0) bytes.1) (length (text_bytes text)) (utf8 text)
    (u2 (length (text_bytes text))) (text_bytes text)
    (number_again 2 (length (text_bytes text)) (fits_count text_run_bytes _ short))
    (λ at more. rw (
      run_again (length (text_bytes text)) (text_bytes text) refl at more,
      text_again (text_bytes text) text spells,
    ) refl)

entry_again : (index : ℕ) (is_last : Bool) (tag : ℕ) (constant : Const) (body : List ℕ) → tag < 256
    → (is_last && (eqb tag 5 || eqb tag 6)) ≡ false → Finds (tagged_at index tag) constant body
    → Finds (constant_at index is_last) constant (u1 tag ++ body)
unfolding constant_at
entry_again index is_last tag constant body fits room found =
    Finds-then (number_at 1) (λ number rest.
    cond (is_last && (eqb number 5 || eqb number 6)) (Err (wrong_constant index))
    (tagged_at index number rest)) tag constant (u1 tag) body (number_again 1 tag fits)
    (λ at more. rw room (found at more))

pub constant_again : (index : ℕ) (is_last : Bool) (constant : Const) → IsEntry is_last constant
    → Finds (constant_at index is_last) constant (constant_bytes constant)
constant_again index is_last gap entry = absurd cc
constant_again index is_last (utf8 text) entry =
    entry_again index is_last 1 (utf8 text) (text_run (text_bytes text))
    (omega arith) entry.has_room (utf8_again index text entry.fits entry.is_short)
constant_again index is_last (integer value) entry =
    entry_again index is_last 3 (integer value) (u4 (cast_unsigned w32 value))
    (omega arith) entry.has_room (integer_again value entry.fits)
constant_again index is_last (float bits) entry =
    entry_again index is_last 4 (float bits) (u4 bits) (omega arith) entry.has_room
    (single_again 4 float bits entry.fits)
constant_again index is_last (long value) entry =
    entry_again index is_last 5 (long value) (u8 (cast_unsigned w64 value))
    (omega arith) entry.has_room (long_again value entry.fits)
constant_again index is_last (double bits) entry =
    entry_again index is_last 6 (double bits) (u8 bits) (omega arith) entry.has_room
    (single_again 8 double bits entry.fits)
constant_again index is_last (class name) entry =
    entry_again index is_last 7 (class name) (u2 name) (omega arith) entry.has_room
    (single_again 2 class name entry.fits)
constant_again index is_last (string text) entry =
    entry_again index is_last 8 (string text) (u2 text) (omega arith) entry.has_room
    (single_again 2 string text entry.fits)
constant_again index is_last (fieldref owner pair) entry =
    entry_again index is_last 9 (fieldref owner pair) (u2 owner ++ u2 pair)
    (omega arith) entry.has_room (pair_again 2 fieldref owner pair entry.fits.0 entry.fits.1)
constant_again index is_last (methodref owner pair) entry =
    entry_again index is_last 10 (methodref owner pair) (u2 owner ++ u2 pair)
    (omega arith) entry.has_room (pair_again 2 methodref owner pair entry.fits.0 entry.fits.1)
constant_again index is_last (interface_methodref owner pair) entry =
    entry_again index is_last 11 (interface_methodref owner pair) (u2 owner ++ u2 pair)
    (omega arith) entry.has_room (pair_again 2 interface_methodref owner pair entry.fits.0
    entry.fits.1)
constant_again index is_last (name_and_type name descriptor) entry =
    entry_again index is_last 12 (name_and_type name descriptor) (u2 name ++ u2 descriptor)
    (omega arith) entry.has_room (pair_again 2 name_and_type name descriptor entry.fits.0
    entry.fits.1)
constant_again index is_last (method_handle kind member) entry =
    entry_again index is_last 15 (method_handle kind member) (u1 kind ++ u2 member)
    (omega arith) entry.has_room (pair_again 1 method_handle kind member entry.fits.0 entry.fits.1)
constant_again index is_last (method_type descriptor) entry =
    entry_again index is_last 16 (method_type descriptor) (u2 descriptor)
    (omega arith) entry.has_room (single_again 2 method_type descriptor entry.fits)
constant_again index is_last (invoke_dynamic method pair) entry =
    entry_again index is_last 18 (invoke_dynamic method pair) (u2 method ++ u2 pair)
    (omega arith) entry.has_room (pair_again 2 invoke_dynamic method pair entry.fits.0 entry.fits.1)
