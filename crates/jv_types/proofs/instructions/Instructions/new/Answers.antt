use Rattle.jv_types.specs.Instructions.{IsTable}
use Rattle.jv_types.proofs.Tables.{empty_table}
use Rattle.jv_types.proofs.instructions.Instructions.new.Goals as goal

pub invariant_of-result : goal.invariant_of-result
invariant_of-result c = rw (c.new.ensures, c.new-2.ensures) empty_table
