-- Reading what stands behind an opcode (JVMS 6.5).
use Rattle.std.specs.Prelude.{ℕ, ℤ, zero, suc, ◌+◌, ◌-◌, ◌%◌, List, [], ◌∷◌, Bool, true, false, ◌&&◌, if◌then◌else◌, ◌==◌, Option, Some, None, Result, Ok, Err, pos, ◌+ℤ◌, ◌-ℤ◌, nat_abs, int_lt, int_le, option_map, unwrap_or}
use Rattle.std.specs.Int.{w32, cast_signed, cast_unsigned}
use Rattle.jv_model.specs.Fallible.{where_true, ◌>>=◌}
use Rattle.jv_model.specs.Refusal.{Cause, wrong_operand, unsupported}
use Rattle.jv_model.specs.ClassData.{ClassData}
use Rattle.jv_model.specs.Input.{Input, number_at, bytes_at}
use Rattle.jv_model.specs.Instruction.{Instruction, PrimitiveType, push_int, increment, tableswitch, lookupswitch, invokeinterface, newarray}
use Rattle.code_model.specs.Names.{argument_words}
use Rattle.code_model.specs.Entries.{EntryKind, a_method_of_interface, is_of_kind, is_unsupported}
use Rattle.code_model.specs.Formats.{Branch, branch_to, width_of, primitive_of}
use Rattle.jv_model.specs.ConstantPool.{const_at}

-- Where an instruction stands: in a class file, in the method of that index, at that pc.
pub record Site : Type 0 where
  pub file : ClassData
  pub method : ℕ
  pub pc : ℕ

abbrev pub not_supported : {A : Type 0} → Site → Result A Cause
not_supported site = Err (unsupported site.method site.pc)

abbrev pub not_an_operand : {A : Type 0} → Site → Result A Cause
not_an_operand site = Err (wrong_operand site.method site.pc)

-- what was read, where the test holds of the operand
abbrev pub operand_where : {A : Type 0} → Site → Bool → A → Result A Cause
operand_where site test x = where_true test (wrong_operand site.method site.pc) x

-- an instruction, and the code behind it
abbrev pub Read : Type 0
Read = Result (Instruction ℕ × Input) Cause

-- ---- numbers

-- a number of so many bytes as a signed one
abbrev pub signed_at : ℕ → Input → Result (ℤ × Input) Cause
signed_at count input =
    number_at count input >>= λ number. Ok (cast_signed (width_of count) number.0, number.1)

-- The place at an offset from an instruction. Places are counted in 32 bits, so that one before the
-- code is behind it.
abbrev pub place_at : ℕ → ℤ → ℕ
place_at pc offset = cast_unsigned w32 (pos pc +ℤ offset)

abbrev pub target_at : Site → ℕ → Input → Result (ℕ × Input) Cause
target_at site count input =
    signed_at count input >>= λ offset. Ok (place_at site.pc offset.0, offset.1)

unfoldable pub targets_at : Site → ℕ → Input → Result (List ℕ × Input) Cause
targets_at site zero input = Ok ([], input)
targets_at site (suc count) input = do
  first ← target_at site 4 input
  others ← targets_at site count first.1
  Ok (first.0 ∷ others.0, others.1)

-- ---- entries of the constant pool

-- An index of so many bytes that names an entry of a kind. One that isn't supported, whatever names
-- it, is told first.
unfoldable pub entry_at : Site → EntryKind → ℕ → Input → Result (ℕ × Input) Cause
entry_at site kind count input = do
  index ← number_at count input
  entry ← Ok (const_at site.file.pool index.0)
  supported ← if is_unsupported kind entry then not_supported site else Ok index
  operand_where site (is_of_kind site.file.major kind entry) supported

-- the count of `invokeinterface`: the words of the arguments
abbrev pub is_argument_count : ClassData → ℕ → ℕ → Bool
is_argument_count file index count =
    unwrap_or (option_map (λ words. count == words) (argument_words file.pool index)) false

unfoldable pub interface_call_at : Site → Input → Read
interface_call_at site input = do
  index ← entry_at site a_method_of_interface 2 input
  count ← number_at 1 index.1
  last ← number_at 1 count.1
  operand_where site (is_argument_count site.file index.0 count.0 && (last.0 == 0))
      (invokeinterface index.0, last.1)

-- ---- switches

-- the padding of a switch, up to a place that 4 divides
abbrev pub padding_at : Input → Result (List ℕ × Input) Cause
padding_at input = bytes_at ((4 - input.at % 4) % 4) input

-- how many keys there are from the lowest up to the highest
abbrev pub keys_between : ℤ → ℤ → ℕ
keys_between low high = nat_abs (high -ℤ low) + 1

unfoldable pub table_at : Site → Input → Read
table_at site input = do
  padding ← padding_at input
  otherwise ← target_at site 4 padding.1
  low ← signed_at 4 otherwise.1
  high ← signed_at 4 low.1
  ordered ← operand_where site (int_le low.0 high.0) high.1
  targets ← targets_at site (keys_between low.0 high.0) ordered
  Ok (tableswitch otherwise.0 low.0 targets.0, targets.1)

-- the key is above the one before it, where there is one
abbrev pub is_above : Option ℤ → ℤ → Bool
is_above None key = true
is_above (Some before) key = int_lt before key

unfoldable pub pairs_at :
    Site → Option ℤ → ℕ → Input → Result (List (ℤ × ℕ) × Input) Cause
pairs_at site before zero input = Ok ([], input)
pairs_at site before (suc count) input = do
  key ← signed_at 4 input
  rising ← operand_where site (is_above before key.0) key
  target ← target_at site 4 rising.1
  others ← pairs_at site (Some key.0) count target.1
  Ok ((key.0, target.0) ∷ others.0, others.1)

-- A count that JVMS reads as negative is more than any code has pairs.
unfoldable pub lookup_at : Site → Input → Read
lookup_at site input = do
  padding ← padding_at input
  otherwise ← target_at site 4 padding.1
  count ← number_at 4 otherwise.1
  pairs ← pairs_at site None count.0 count.1
  Ok (lookupswitch otherwise.0 pairs.0, pairs.1)

-- ---- the other formats

-- a number of so many bytes, which is pushed
abbrev pub constant_at : ℕ → Input → Read
constant_at count input = signed_at count input >>= λ value. Ok (push_int value.0, value.1)

-- the index of an entry of that kind
abbrev pub index_at : Site → EntryKind → ℕ → (ℕ → Instruction ℕ) → Input → Read
index_at site kind count make input =
    entry_at site kind count input >>= λ index. Ok (make index.0, index.1)

-- a local of so many bytes
abbrev pub local_at : ℕ → (ℕ → Instruction ℕ) → Input → Read
local_at count make input = number_at count input >>= λ index. Ok (make index.0, index.1)

-- a local, and a signed number, of so many bytes each
abbrev pub increment_at : ℕ → Input → Read
increment_at count input = do
  index ← number_at count input
  added ← signed_at count index.1
  Ok (increment index.0 added.0, added.1)

-- an offset of so many bytes
abbrev pub branch_at : Site → ℕ → Branch → Input → Read
branch_at site count its input =
    target_at site count input >>= λ target. Ok (branch_to its target.0, target.1)

abbrev pub newarray_of : Site → Option PrimitiveType → Input → Read
newarray_of site None rest = not_supported site
newarray_of site (Some type) rest = Ok (newarray type, rest)

abbrev pub newarray_at : Site → Input → Read
newarray_at site input =
    number_at 1 input >>= λ number. newarray_of site (primitive_of number.0) number.1
