use Rattle.std.proofs.Common.{◌+◌, Option, drop, sym, ap, ◌∙◌, arith}
use Rattle.std.proofs.lemmas.Result.{err_from_is_err_and}
use Rattle.jv_model.specs.Partial.{◌>>=◌}
use Rattle.typing_model.specs.VerificationType.{TypeFrame}
use Rattle.typing_model.specs.Transition.{popped}
use Rattle.type_rules.specs.Frames.{frame_of}
use Rattle.instruction_types.specs.Wanted.{tests_of}
use Rattle.instruction_types.proofs.Stacks.{Gives-first, popped-drop, popped-end}
use Rattle.instruction_types.proofs.operands.pop_all.Goals as goal

pub returns-in_err-pop-clause-typed : goal.returns-in_err-pop-clause-typed
returns-in_err-pop-clause-typed g c = λ e is.
    let w = c.args.world.now in
    let error = err_from_is_err_and c.from_residual.result c.from_residual.ensures.1 in
    rw (error.1, error.2) (Gives-first (Unit {0}) _ _ (popped (tests_of w e (drop (c.loop-operand.operand-index + 1) c.args.wanted.now))) _ _
    (sym (c.loop-operand.invariant.left e is)
    ∙ popped-drop w e c.args.wanted.now c.loop-operand.operand-index _ (frame_of w c.loop-operand.frame) c.loop-operand-test.true)
    (c.in_err-pop.ensures.typed e is))

pub loop-operand-preserved : goal.loop-operand-preserved
loop-operand-preserved g c =
    let w = c.args.world.now in
    record {
      left = λ e is.
          sym (popped-drop w e c.args.wanted.now c.loop-operand.operand-index _ (frame_of w c.loop-operand.frame) c.loop-operand-test.true
          ∙ ap (λ (o : Option TypeFrame). o >>= popped (tests_of w e (drop (c.loop-operand.operand-index + 1) c.args.wanted.now)))
          (c.in_ok-pop.ensures.typed e is))
          ∙ c.loop-operand.invariant.left e is;
      known = c.in_ok-pop.ensures.known;
    }

pub returns-clause-typed : goal.returns-clause-typed
returns-clause-typed g c = λ e is.
    let w = c.args.world.now in
    sym (c.loop-operand.invariant.left e is)
    ∙ popped-end w e c.args.wanted.now c.loop-operand.operand-index (frame_of w c.loop-operand.frame) (omega arith)
