use Rattle.std.proofs.Common.{arith}
use Rattle.jv_values.specs.Values.{operands_in}
use Rattle.jv_values.proofs.WordLemmas.{length-operands_in}
use Rattle.local_steps.proofs.StepLemmas.{two_operands, one_operand}
use Rattle.local_steps.proofs.step.branch.Goals as goal

pub two_words-a-requires-clause-some : goal.two_words-a-requires-clause-some
two_words-a-requires-clause-some c =
    let right = rw c.in-IfReferences.is at c.requires.right in
    omega (
      arith,
      two_operands c.in-IfReferences.wanted c.in-IfReferences.target (operands_in c.args.stack.now c.args.depth) right,
      length-operands_in c.args.stack.now c.args.depth c.requires.inside,
    )

pub overflow_sub-depth-in-IfReferences : goal.overflow_sub-depth-in-IfReferences
overflow_sub-depth-in-IfReferences c =
    let right = rw c.in-IfReferences.is at c.requires.right in
    omega (
      arith,
      two_operands c.in-IfReferences.wanted c.in-IfReferences.target (operands_in c.args.stack.now c.args.depth) right,
      length-operands_in c.args.stack.now c.args.depth c.requires.inside,
    )

pub word_on_top-a-requires-clause-some : goal.word_on_top-a-requires-clause-some
word_on_top-a-requires-clause-some c =
    let right = rw c.in-IfNull.is at c.requires.right in
    omega (
      arith,
      one_operand c.in-IfNull.wanted c.in-IfNull.target (operands_in c.args.stack.now c.args.depth) right,
      length-operands_in c.args.stack.now c.args.depth c.requires.inside,
    )

pub overflow_sub-depth-in-IfNull : goal.overflow_sub-depth-in-IfNull
overflow_sub-depth-in-IfNull c =
    let right = rw c.in-IfNull.is at c.requires.right in
    omega (
      arith,
      one_operand c.in-IfNull.wanted c.in-IfNull.target (operands_in c.args.stack.now c.args.depth) right,
      length-operands_in c.args.stack.now c.args.depth c.requires.inside,
    )
