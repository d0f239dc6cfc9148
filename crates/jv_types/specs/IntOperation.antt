-- Which operation of the definitions an `IntOperation` is.
use Rattle.jv_types.specs.declared.int_operation.IntOperation.{IntOperation}
use Rattle.jv_types.specs.declared.int_operation.IntOperation.TheVariants.{Add, Subtract, Multiply, Conjunction, Disjunction, ExclusiveDisjunction}
use Rattle.straight_line_model.specs.IntOperation as model

abbrev pub operation_of : IntOperation → model.IntOperation
operation_of Add = model.add
operation_of Subtract = model.subtract
operation_of Multiply = model.multiply
operation_of Conjunction = model.conjunction
operation_of Disjunction = model.disjunction
operation_of ExclusiveDisjunction = model.exclusive_disjunction
