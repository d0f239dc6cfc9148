use Rattle.std.proofs.Common.{[], Option, Some, sym, subst, ap, ◌∙◌}
use Rattle.std.proofs.lemmas.List.Elements.{All-nil, All-cons}
use Rattle.world_model.specs.BootNames.{java_string}
use Rattle.typing_model.specs.VerificationType as model
use Rattle.typing_model.specs.VerificationType.{TypeFrame}
use Rattle.typing_model.specs.LocalTypes.{constant_pushed}
use Rattle.code_model.specs.Names.{operand_at}
use Rattle.jv_types.specs.ClassData.{pool_of}
use Rattle.type_rules.specs.declared.types.VerificationType.TheVariants.{Class}
use Rattle.type_rules.specs.Types.{IsKnownType}
use Rattle.type_rules.specs.Frames.{frame_of}
use Rattle.instruction_types.specs.Outcome.{Gives}
use Rattle.instruction_types.proofs.Found.{found-name, found-known}
use Rattle.member_types.proofs.PushedConstants.{narrow_type, narrow-is}
use Rattle.member_types.proofs.constants.ldc.Goals as goal

pub returns-in-Some-Int-clause-typed : goal.returns-in-Some-Int-clause-typed
returns-in-Some-Int-clause-typed c = λ w ready e is.
    let operand = operand_at (pool_of c.args.pool.now) c.args.index in
    let type = narrow-is operand ∙ ap narrow_type (sym c.constant_at.ensures ∙ c.in-Some-Int.is ∙ ap Some c.in-Some-Int.field-0-is) in
    subst (λ (o : Option model.VerificationType). Gives {X = Unit {0}} c.push_all.result (constant_pushed e o (frame_of w c.args.frame.now)) (frame_of w c.push_all.new.frame))
    (sym type) (c.push_all.ensures.typed w e is)

pub returns-in-Some-Text-clause-typed : goal.returns-in-Some-Text-clause-typed
returns-in-Some-Text-clause-typed c = λ w ready e is.
    let operand = operand_at (pool_of c.args.pool.now) c.args.index in
    let name = found-name w java_string c.args.here.now.string ready.string in
    let type = narrow-is operand ∙ ap narrow_type (sym c.constant_at.ensures ∙ c.in-Some-Text.is ∙ ap Some c.in-Some-Text.field-0-is)
    ∙ (λ i. Some (model.class (sym name i))) in
    subst (λ (o : Option model.VerificationType). Gives {X = Unit {0}} c.push_all-in-Some-Text.result (constant_pushed e o (frame_of w c.args.frame.now)) (frame_of w c.push_all-in-Some-Text.new.frame))
    (sym type) (c.push_all-in-Some-Text.ensures.typed w e is)

pub returns-in-Some-Text-clause-known : goal.returns-in-Some-Text-clause-known
returns-in-Some-Text-clause-known c = λ w ready known.
    c.push_all-in-Some-Text.ensures.known w known
    (All-cons (IsKnownType w) (Class c.args.here.now.string) [] (found-known w java_string c.args.here.now.string ready.string) (All-nil (IsKnownType w)))
