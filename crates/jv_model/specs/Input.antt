-- Reading a class file from its front (JVMS 4): an item is one number or one run of bytes.
use Rattle.std.specs.Prelude.{ℕ, ◌+◌, List, ◌++◌, if◌then◌else◌, nat_lt, Result, Ok, Err, length, take, drop}
use Rattle.byteorder.specs.Endian.{big_number}
use Rattle.jv_model.specs.Fallible.{◌>>=◌}
use Rattle.jv_model.specs.Refusal.{Cause, truncated}

-- The bytes that are still to be read, and the place of the first of them.
pub record Input : Type 0 where
  pub at : ℕ
  pub bytes : List ℕ

-- the whole of the bytes, to be read from place 0
abbrev pub whole_of : List ℕ → Input
whole_of bytes = record { at = 0; bytes = bytes }

-- what is left behind so many bytes
abbrev pub behind : ℕ → Input → Input
behind count input = record { at = input.at + count; bytes = drop count input.bytes }

-- a run of so many bytes, and the input behind it
abbrev pub bytes_at : ℕ → Input → Result (List ℕ × Input) Cause
bytes_at count input =
    if nat_lt (length input.bytes) count then Err (truncated input.at)
    else Ok (take count input.bytes, behind count input)

-- a number of so many bytes, the highest first, and the input behind it
abbrev pub number_at : ℕ → Input → Result (ℕ × Input) Cause
number_at width input =
    if nat_lt (length input.bytes) width then Err (truncated input.at)
    else Ok (big_number width input.bytes, behind width input)

-- these items, and those that are read behind them
abbrev pub in_front : {A : Type 0} → List A → Result (List A × Input) Cause → Result (List A × Input) Cause
in_front front read = read >>= λ others. Ok (front ++ others.0, others.1)
