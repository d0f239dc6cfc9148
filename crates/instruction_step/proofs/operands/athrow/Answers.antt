use Rattle.std.proofs.Common.{[], ◌∷◌, List, ℕ, Option, subst, ap}
use Rattle.world_model.specs.BootNames.{java_throwable}
use Rattle.typing_model.specs.VerificationType as model
use Rattle.typing_model.specs.VerificationType.{TypeFrame}
use Rattle.typing_model.specs.Transition.{to, popped}
use Rattle.type_rules.specs.Frames.{frame_of}
use Rattle.instruction_types.specs.Outcome.{Gives}
use Rattle.instruction_types.proofs.Found.{found-name, found-known}
use Rattle.instruction_step.proofs.operands.athrow.Goals as goal

pub pop-requires-clause-wanted : goal.pop-requires-clause-wanted
pop-requires-clause-wanted g c = found-known c.args.world.now java_throwable c.args.here.now.throwable c.requires.here.throwable

pub returns-clause-typed : goal.returns-clause-typed
returns-clause-typed g c = λ e is.
    let w = c.args.world.now in
    let throwable = found-name w java_throwable c.args.here.now.throwable c.requires.here.throwable in
    let rule = ap (λ (name : List ℕ). popped (to e (model.class name) ∷ []) (frame_of w c.args.frame.now)) throwable in
    subst (λ (o : Option TypeFrame). Gives {X = Unit {0}} c.pop.result o (frame_of w c.pop.new.frame)) rule (c.pop.ensures.typed e is)
