use Rattle.std.proofs.Common.{refl}
use Rattle.std.proofs.lemmas.Result.{err_from_is_err_and}
use Rattle.typing_model.specs.Transition.{pushed}
use Rattle.type_rules.specs.Frames.{types_of}
use Rattle.instruction_types.proofs.Stacks.{Gives-first, Gives-next}
use Rattle.instruction_types.proofs.operands.change.Goals as goal

pub returns-in_err-pop_all-clause-typed : goal.returns-in_err-pop_all-clause-typed
returns-in_err-pop_all-clause-typed g c = λ e is.
    let w = c.args.world.now in
    let error = err_from_is_err_and c.from_residual.result c.from_residual.ensures.1 in
    rw (error.1, error.2) (Gives-first (Unit {0}) _ _ (pushed e (types_of w c.args.types.now)) _ _ refl (c.in_err-pop_all.ensures.typed e is))

pub returns-clause-typed : goal.returns-clause-typed
returns-clause-typed g c = λ e is.
    let w = c.args.world.now in
    Gives-next (Unit {0}) _ _ _ (pushed e (types_of w c.args.types.now)) _ (c.in_ok-pop_all.ensures.typed e is) (c.push_all.ensures.typed w e is)
