-- The arithmetic of ints (JVMS 6.5): over whole numbers, of whose result 32 bits are left.
use Rattle.std.specs.Prelude.{ℕ, ℤ, ◌+ℤ◌, ◌-ℤ◌, ◌*ℤ◌, neg_ℤ, bit_and, bit_or, bit_xor}
use Rattle.std.specs.Int.{w32, int_wrap, cast_signed, cast_unsigned}

-- What an instruction makes of two ints.
pub data IntOperation : Type 0 where
  -- `iadd`
  add : IntOperation
  -- `isub`
  subtract : IntOperation
  -- `imul`
  multiply : IntOperation
  -- `iand`
  conjunction : IntOperation
  -- `ior`
  disjunction : IntOperation
  -- `ixor`
  exclusive_disjunction : IntOperation

-- the int that differs from a whole number by a multiple of 2^32
abbrev pub wrapped : ℤ → ℤ
wrapped x = int_wrap w32 x

-- bit by bit, each int in two's complement
abbrev pub bitwise : (ℕ → ℕ → ℕ) → ℤ → ℤ → ℤ
bitwise of_bits a b = cast_signed w32 (of_bits (cast_unsigned w32 a) (cast_unsigned w32 b))

-- the result for value1 and value2
abbrev pub int_result : IntOperation → ℤ → ℤ → ℤ
int_result add a b = wrapped (a +ℤ b)
int_result subtract a b = wrapped (a -ℤ b)
int_result multiply a b = wrapped (a *ℤ b)
int_result conjunction a b = bitwise bit_and a b
int_result disjunction a b = bitwise bit_or a b
int_result exclusive_disjunction a b = bitwise bit_xor a b

-- the result of `ineg`
abbrev pub int_negated : ℤ → ℤ
int_negated a = wrapped (neg_ℤ a)
