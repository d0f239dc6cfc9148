use Rattle.std.proofs.Common.{◌-◌, arith}
use Rattle.std.proofs.lemmas.Grind.{common_steps}
use Rattle.jv_values.proofs.WordLemmas.{operands_in-top, operands_in-two}
use Rattle.local_steps.proofs.moves.rearrange.Goals as goal

pub returns-in-Pop-clause-operands : goal.returns-in-Pop-clause-operands
returns-in-Pop-clause-operands c =
    let some = rw c.in-Pop.is at c.requires.some in
    let e = operands_in-top c.args.stack.now c.args.depth (c.args.depth - 1) (omega arith) c.requires.inside in
    rw c.in-Pop.is (grind (arith, common_steps, e))

pub returns-in-PopTwo-clause-operands : goal.returns-in-PopTwo-clause-operands
returns-in-PopTwo-clause-operands c =
    let some = rw c.in-PopTwo.is at c.requires.some in
    let e = operands_in-two c.args.stack.now c.args.depth (c.args.depth - 2) (omega arith) c.requires.inside in
    rw c.in-PopTwo.is (grind (arith, common_steps, e))
