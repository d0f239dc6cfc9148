-- Which body of the definitions a `Body` is.
use Rattle.std.specs.Prelude.{map}
use Rattle.jv_types.specs.IntOperation.{operation_of}
use Rattle.straight_line.specs.declared.body.Instruction.{Instruction}
use Rattle.straight_line.specs.declared.body.Instruction.TheVariants.{Constant, Arithmetic, Negate, Pop, GetOut, PrintLine, Return}
use Rattle.straight_line.specs.declared.body.Body.{Body}
use Rattle.straight_line_model.specs.Instruction as model
use Rattle.run_model.specs.MainCode.{numbered_from}

abbrev pub instruction_of : Instruction → model.Instruction
instruction_of (Constant value) = model.constant value
instruction_of (Arithmetic operation) = model.arithmetic (operation_of operation)
instruction_of Negate = model.negate
instruction_of Pop = model.pop
instruction_of GetOut = model.get_out
instruction_of PrintLine = model.print_line
instruction_of Return = model.return

abbrev pub body_of : Body → model.Body
body_of body = record {
  max_stack = body.max_stack;
  max_locals = body.max_locals;
  instructions = numbered_from 0 (map instruction_of body.instructions.items);
}
