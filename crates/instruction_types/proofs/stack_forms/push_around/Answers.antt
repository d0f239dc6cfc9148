use Rattle.std.proofs.Common.{◌++◌, Option, sym, subst}
use Rattle.typing_model.specs.VerificationType.{TypeFrame}
use Rattle.typing_model.specs.Transition.{pushed}
use Rattle.type_rules.specs.Frames.{types_of, frame_of}
use Rattle.instruction_types.specs.Outcome.{Gives}
use Rattle.instruction_types.specs.Groups.{types_in}
use Rattle.instruction_types.proofs.Stacks.{Gives-next}
use Rattle.instruction_types.proofs.Pushes.{pushed-append}
use Rattle.instruction_types.proofs.stack_forms.push_around.Goals as goal

pub returns-clause-typed : goal.returns-clause-typed
returns-clause-typed c = λ w e is.
    let upper = types_of w (types_in c.args.upper) in
    let lower = types_of w (types_in c.args.lower) in
    subst (λ (o : Option TypeFrame). Gives {X = Unit {0}} c.push_both.result o (frame_of w c.push_both.new.frame))
    (sym (pushed-append e (upper ++ lower) upper (frame_of w c.args.frame.now)))
    (Gives-next (Unit {0}) _ _ _ (pushed e (upper ++ lower)) _ (c.in_ok-push_group.ensures.typed w e is) (c.push_both.ensures.typed w e is))

pub returns-clause-known : goal.returns-clause-known
returns-clause-known c = λ w known upper lower.
    c.push_both.ensures.known w (c.in_ok-push_group.ensures.known w known upper) lower upper
