-- The place at an offset.
use Rattle.std.proofs.Common.{◌≡◌, ℕ, ◌+◌, ◌^◌, ◌<◌, ◌%◌, arith, ℤ}
use Rattle.std.specs.Prelude.{FitsSigned, pos, negsuc}
use Rattle.std.specs.Int.{w32, cast_unsigned}
use Rattle.std.proofs.lemmas.Int.{ints}
use Rattle.code_model.specs.OperandReading.{place_at}

pub place_is : (pc : ℕ) (offset : ℤ) → pc < 2 ^ 31 → FitsSigned w32 offset
    → (pc + cast_unsigned w32 offset) % 2 ^ 32 ≡ place_at pc offset
place_is pc (pos n) fits signed = omega (arith, ints)
place_is pc (negsuc n) fits signed = omega (arith, ints)
