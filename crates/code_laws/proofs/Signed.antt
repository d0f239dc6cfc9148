-- Numbers, signed numbers and the places that offsets lead to.
use Rattle.std.proofs.Common.{◌≡◌, ℕ, ◌^◌, ◌<◌, sym, ap, arith, ℤ, rules}
use Rattle.std.specs.Prelude.{FitsSigned, pos, negsuc, neg_ℤ, ◌+ℤ◌, ◌≤ℤ◌}
use Rattle.std.specs.Int.{w8, w16, w32, cast_signed, cast_unsigned}
use Rattle.std.proofs.lemmas.Int.{ints, of_z-to_z, to_z-of_z}
use Rattle.byteorder.specs.Endian.{big_bytes}
use Rattle.jv_model.specs.Input.{number_at}
use Rattle.code_model.specs.Formats.{width_of}
use Rattle.code_model.specs.OperandReading.{Site, signed_at, place_at, target_at}
use Rattle.code_model.specs.SpellsOperands.{Fits, FitsAsSigned, signed_bytes, offset_of}
use Rattle.class_laws.proofs.Readers.{Spelling, Reads, Reads-as, Reads-map, Made, Spelt, number_reads}

abbrev pub Number : ℕ → Spelling ℕ
Number count = Spelt (big_bytes count) (Fits count)

-- ---- signed numbers

-- so many bytes are those of a signed number of that width
pub record IsWidth (count : ℕ) : Type 0 where
  pub back :
      (n : ℕ) → n < 256 ^ count
      → cast_unsigned (width_of count) (cast_signed (width_of count) n) ≡ n
  pub signed_fits :
      (n : ℕ) → n < 256 ^ count → FitsAsSigned count (cast_signed (width_of count) n)
  pub narrow : (z : ℤ) → FitsAsSigned count z → FitsSigned w32 z
  pub unsigned_fits :
      (z : ℤ) → FitsAsSigned count z → cast_unsigned (width_of count) z < 256 ^ count

-- two's complement goes there and back, in one byte, in two and in four
pub one_byte : IsWidth 1
one_byte = record {
  back = λ n below. of_z-to_z w8 n below;
  signed_fits = λ n below. search rules;
  narrow = λ z fits. omega (arith, ints);
  unsigned_fits = λ z fits. omega (arith, ints);
}

pub two_bytes : IsWidth 2
two_bytes = record {
  back = λ n below. of_z-to_z w16 n below;
  signed_fits = λ n below. search rules;
  narrow = λ z fits. omega (arith, ints);
  unsigned_fits = λ z fits. omega (arith, ints);
}

pub four_bytes : IsWidth 4
four_bytes = record {
  back = λ n below. of_z-to_z w32 n below;
  signed_fits = λ n below. search rules;
  narrow = λ z fits. omega (arith, ints);
  unsigned_fits = λ z fits. omega (arith, ints);
}

abbrev pub Signed : ℕ → Spelling ℤ
Signed count = Spelt (signed_bytes count) (FitsAsSigned count)

-- a signed number of that width is read as it's spelled
pub signed_reads : (count : ℕ) → IsWidth count → Reads (signed_at count) (Signed count)
signed_reads count width =
    Reads-as (Reads-map (number_at count) (Number count) (cast_signed (width_of count))
    (number_reads count))
    (λ at text z made.
    rw made.2 (record {
      text_is = rw (width.back made.0 made.1.right) made.1.text_is;
      right = width.signed_fits made.0 made.1.right;
    }))
    (λ at text z signed. (
      cast_unsigned (width_of count) z,
      record { text_is = signed.text_is; right = width.unsigned_fits z signed.right },
      sym (to_z-of_z (width_of count) z signed.right),
    ))

-- ---- places

-- a place at an offset that is spelled so
abbrev pub Led : ℕ → ℕ → Spelling ℕ
Led pc count = Made (place_at pc) (Signed count)

-- the place at an offset is read as the offset is spelled
pub target_reads :
    (site : Site) (count : ℕ) → IsWidth count → Reads (target_at site count) (Led site.pc count)
target_reads site count width =
    Reads-map (signed_at count) (Signed count) (place_at site.pc) (signed_reads count width)

abbrev pub IsPlace : ℕ → Type 0
IsPlace place = place < 2 ^ 31

-- what is cast to a place is no negative number that isn't too low
cast_place :
    (z : ℤ) (target : ℕ) → IsPlace target → neg_ℤ (pos (2 ^ 31)) ≤ℤ z → target ≡ cast_unsigned w32 z
    → z ≡ pos target
cast_place (pos m) target there high e = cc
cast_place (negsuc m) target there high e = absurd (omega (arith, ints))

-- the offset to a place from a place is the difference
pub led_near :
    (pc : ℕ) (offset : ℤ) (target : ℕ) → IsPlace pc → IsPlace target → FitsSigned w32 offset
    → target ≡ place_at pc offset → offset ≡ offset_of pc target
led_near pc offset target here there fits e =
    let same : pos pc +ℤ offset ≡ pos target =
    cast_place (pos pc +ℤ offset) target there (omega (arith, ints)) e in
    omega (arith, ints)

-- the difference is the offset to the place
pub near_led :
    (pc : ℕ) (offset : ℤ) (target : ℕ) → offset ≡ offset_of pc target → target ≡ place_at pc offset
near_led pc offset target e =
    let same : pos pc +ℤ offset ≡ pos target = omega (arith, ints) in
    sym (ap (λ (z : ℤ). cast_unsigned w32 z) same)
