-- Which number an operand is.
use Rattle.std.specs.Prelude.{ℤ, Option, Some, None}
use Rattle.jv_model.specs.Operand.{Operand, int_constant, long_constant}

abbrev pub int_named : Operand → Option ℤ
int_named (int_constant n) = Some n
int_named other = None

abbrev pub long_named : Operand → Option ℤ
long_named (long_constant n) = Some n
long_named other = None
