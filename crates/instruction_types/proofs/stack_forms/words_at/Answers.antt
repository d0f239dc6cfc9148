use Rattle.std.proofs.Common.{◌≡◌, [], ◌∷◌, ℕ, Option, Some, drop, option_map, slice_get, sym, subst, ap, ◌∙◌}
use Rattle.std.specs.Option.{IfSome}
use Rattle.typing_model.specs.StackTypes.{group}
use Rattle.type_rules.specs.declared.types.VerificationType.{VerificationType}
use Rattle.type_rules.specs.Types.{type_of}
use Rattle.type_rules.specs.Frames.{types_of}
use Rattle.instruction_types.proofs.Groups.{group-zero, one-stands}
use Rattle.instruction_types.proofs.stack_forms.words_at.Goals as goal

pub returns-in-0-clause-typed : goal.returns-in-0-clause-typed
returns-in-0-clause-typed c = λ w.
    let left = drop c.args.from (types_of w c.args.frame.now.stack) in
    sym (ap (λ (n : ℕ). group n left) c.in-0.is ∙ group-zero w left)

pub returns-in-Some-clause-there : goal.returns-in-Some-clause-there
returns-in-Some-clause-there c =
    one-stands c.args.frame.now.stack c.args.from c.in-Some.operand
    (subst (λ (o : Option VerificationType). IfSome o (λ type. slice_get c.args.frame.now.stack c.args.from ≡ Some type)) c.in-Some.is c.one_word.ensures.there)

pub returns-in-None-clause-typed : goal.returns-in-None-clause-typed
returns-in-None-clause-typed c = λ w.
    let left = drop c.args.from (types_of w c.args.frame.now.stack) in
    ap (option_map (λ (t : VerificationType). type_of w t ∷ [])) (sym c.in-None.is) ∙ c.one_word.ensures.typed w
    ∙ ap (λ (n : ℕ). group n left) (sym c.in-1.is)
