use Rattle.std.proofs.Common.{◌∙◌, sym, arith}
use Rattle.jv_types.specs.Instructions.{placed_of}
use Rattle.code_reader.proofs.Starts.{target_here, target_later, no_target}
use Rattle.code_reader.proofs.places.wrong_target.Goals as goal

pub returns-then-not-is_led : goal.returns-then-not-is_led
returns-then-not-is_led c = λ method.
    sym (target_here method c.args.instructions.now c.loop-number.number (placed_of c.get-insn.result.now)
    c.get-insn.ensures (sym c.is_led.ensures ∙ c.if-not-is_led.true))
    ∙ c.loop-number.invariant method

pub loop-number-preserved : goal.loop-number-preserved
loop-number-preserved c = λ method.
    sym (target_later method c.args.instructions.now c.loop-number.number (placed_of c.get-insn.result.now)
    c.get-insn.ensures (sym c.is_led.ensures ∙ c.if-not-is_led.false))
    ∙ c.loop-number.invariant method

pub returns : goal.returns
returns c = λ method.
    sym (no_target method c.args.instructions.now c.loop-number.number
    (omega (arith, c.len-number-end.ensures, c.loop-number-test.false)))
    ∙ c.loop-number.invariant method
