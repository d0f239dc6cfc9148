use Rattle.std.proofs.Common.{arith, length}
use Rattle.jv_types.specs.Instruction.{stack_form_of}
use Rattle.jv_values.specs.Values.{operands_in}
use Rattle.jv_values.proofs.WordLemmas.{length-operands_in}
use Rattle.local_steps.proofs.StepLemmas.{rearranged_some, rearranged_room}
use Rattle.local_steps.proofs.step.operate.Goals as goal

pub rearrange-requires-clause-some : goal.rearrange-requires-clause-some
rearrange-requires-clause-some c =
    let fits = rw c.in-Stack.is at c.requires.right in
    omega (
      arith,
      rearranged_some (stack_form_of c.in-Stack.form) (operands_in c.args.stack.now c.args.depth) (length c.args.stack.now) fits,
      length-operands_in c.args.stack.now c.args.depth c.requires.inside,
    )

pub rearrange-requires-clause-room : goal.rearrange-requires-clause-room
rearrange-requires-clause-room c =
    let fits = rw c.in-Stack.is at c.requires.right in
    omega (
      arith,
      rearranged_room (stack_form_of c.in-Stack.form) (operands_in c.args.stack.now c.args.depth) (length c.args.stack.now) fits,
      length-operands_in c.args.stack.now c.args.depth c.requires.inside,
    )
