use Rattle.std.proofs.Common.{◌-◌, length, arith, subst, List}
use Rattle.machine_model.specs.Value.{Value, long}
use Rattle.machine_model.specs.Operands.{on_int}
use Rattle.jv_values.proofs.WordLemmas.{length-operands_in}
use Rattle.local_steps.specs.Outcome.{Fits}
use Rattle.local_steps.proofs.operate.convert.Goals as goal

pub push-requires : goal.push-requires
push-requires c =
    let right = rw c.in-IntToLong.is at c.requires.right in
    let room = subst (λ (ops : List Value). Fits (length c.args.stack.now) (on_int long ops)) c.int_on_top-a.ensures.value right in
    omega (arith, room, length-operands_in c.args.stack.now (c.args.depth - 1) (omega arith))

pub returns-in-IntToLong-clause-inside : goal.returns-in-IntToLong-clause-inside
returns-in-IntToLong-clause-inside c =
    let right = rw c.in-IntToLong.is at c.requires.right in
    let room = subst (λ (ops : List Value). Fits (length c.args.stack.now) (on_int long ops)) c.int_on_top-a.ensures.value right in
    omega (arith, room, length-operands_in c.args.stack.now (c.args.depth - 1) (omega arith))
