-- Which value and which operands a `Taken` is.
use Rattle.std.specs.Prelude.{List}
use Rattle.machine_model.specs.Value as model
use Rattle.jv_values.specs.declared.value.Value.{Value}
use Rattle.jv_values.specs.declared.operands.Taken.{Taken}
use Rattle.jv_values.specs.Values.{value_of, operands_in}

-- what was taken of the operands in words
abbrev pub taken_value_of : List Value → Taken → model.Taken
taken_value_of words taken = record { value = value_of taken.value; rest = operands_in words taken.depth }
