use Rattle.std.proofs.Common.{◌&&◌, List, reverse, ◌∙◌, ap, sym}
use Rattle.typing_model.specs.Assignable.{locals_assignable, stack_assignable}
use Rattle.type_rules.specs.declared.types.VerificationType.{VerificationType}
use Rattle.type_rules.specs.Types.{IsKnownType}
use Rattle.type_rules.specs.Frames.{types_of}
use Rattle.type_rules.proofs.Assigned.{All-reverse, stack_assignable-parts}
use Rattle.type_rules.proofs.frame_assignment.types_assignable.Goals as goal

pub all_go-requires-clause-to : goal.all_go-requires-clause-to
all_go-requires-clause-to g c =
    All-reverse (IsKnownType c.args.world.now) c.operands.result.now _ c.operands.ensures c.requires.to.stack

pub returns-then-locals_assignable : goal.returns-then-locals_assignable
returns-then-locals_assignable g c =
    let w = c.args.world.now in
    let to = λ (l : List VerificationType). locals_assignable w (types_of w c.args.locals.now) (types_of w l) in
    let locals_go = sym c.if-locals_assignable.true ∙ c.locals_assignable.ensures ∙ ap to c.locals.ensures in
    c.all_go.ensures
    ∙ stack_assignable-parts w c.args.operands.now c.operands.result.now c.args.to.now.stack c.operands.ensures
    ∙ (λ i. locals_go i && stack_assignable w (types_of w (reverse c.args.operands.now)) (types_of w c.args.to.now.stack))
