-- Which constant an operand is.
use Rattle.std.specs.Prelude.{Option, Some, None}
use Rattle.jv_model.specs.Operand.{Operand, int_constant, long_constant, string_constant}
use Rattle.member_types.specs.declared.constants.Constant.{Constant}
use Rattle.member_types.specs.declared.constants.Constant.TheVariants.{Int, Long, Text}

abbrev pub constant_of : Operand → Option Constant
constant_of (int_constant number) = Some Int
constant_of (long_constant number) = Some Long
constant_of (string_constant text) = Some Text
constant_of other = None
