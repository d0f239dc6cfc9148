-- The operand stack of a frame (JVMS 2.6.2), from the top down: of values where a method runs, and of their types where its code is looked at.
use Rattle.std.specs.Prelude.{ℕ, ℤ, List, Option, Some, None, if◌then◌else◌, nat_le, length}

-- A value on the stack (JVMS 2.2).
pub data Value : Type 0 where
  int : ℤ → Value
  -- the PrintStream of `System.out`
  print_stream : Value

-- The type of a value, as far as this version tells types apart.
pub data ValueType : Type 0 where
  int_type : ValueType
  print_stream_type : ValueType

abbrev pub type_of : Value → ValueType
type_of (int value) = int_type
type_of print_stream = print_stream_type

-- the operands, where the stack may hold so many
abbrev pub within : {A : Type 0} → ℕ → List A → Option (List A)
within max_stack operands = if nat_le (length operands) max_stack then Some operands else None
