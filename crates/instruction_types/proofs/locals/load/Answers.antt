use Rattle.std.proofs.Common.{Bool, [], ◌∷◌, Some, None, Option, slice_get, if◌then◌else◌, sym, subst, ◌∙◌, ap}
use Rattle.std.proofs.lemmas.List.Elements.{All-nil, All-cons}
use Rattle.typing_model.specs.VerificationType as model
use Rattle.typing_model.specs.VerificationType.{TypeFrame, is_of_kind}
use Rattle.typing_model.specs.Transition.{pushed}
use Rattle.jv_types.specs.Instruction.{value_kind_of}
use Rattle.type_rules.specs.Types.{type_of, IsKnownType}
use Rattle.type_rules.specs.Frames.{frame_of}
use Rattle.instruction_types.specs.Outcome.{Gives}
use Rattle.instruction_types.proofs.FirstReads.{read-first, known-at}
use Rattle.instruction_types.proofs.locals.load.Goals as goal

pub returns-in_default-clause-typed : goal.returns-in_default-clause-typed
returns-in_default-clause-typed c = λ w e is.
    let old = c.args.frame.now in
    let kind = value_kind_of c.args.kind in
    read-first w old.locals c.args.local None
    (λ type. if is_of_kind kind type then pushed e (type ∷ []) (frame_of w old) else None)
    (sym c.in_default.is ∙ c.local.ensures ∙ ap (slice_get old.locals) c.from.ensures)

pub returns-then-not-is_of_kind-clause-typed : goal.returns-then-not-is_of_kind-clause-typed
returns-then-not-is_of_kind-clause-typed c = λ w e is.
    let old = c.args.frame.now in
    let kind = value_kind_of c.args.kind in
    let x = c.in-Some.type_there in
    read-first w old.locals c.args.local (Some x)
    (λ type. if is_of_kind kind type then pushed e (type ∷ []) (frame_of w old) else None)
    (sym c.in-Some.is ∙ c.local.ensures ∙ ap (slice_get old.locals) c.from.ensures)
    ∙ ap (λ (b : Bool). if b then pushed e (type_of w x ∷ []) (frame_of w old) else None)
    (sym (c.is_of_kind.ensures w) ∙ c.if-not-is_of_kind.true)

pub returns-clause-typed : goal.returns-clause-typed
returns-clause-typed c = λ w e is.
    let old = c.args.frame.now in
    let kind = value_kind_of c.args.kind in
    let x = c.in-Some.type_there in
    let rule =
    read-first w old.locals c.args.local (Some x)
    (λ (type : model.VerificationType). if is_of_kind kind type then pushed e (type ∷ []) (frame_of w old) else None)
    (sym c.in-Some.is ∙ c.local.ensures ∙ ap (slice_get old.locals) c.from.ensures)
    ∙ ap (λ (b : Bool). if b then pushed e (type_of w x ∷ []) (frame_of w old) else None)
    (sym (c.is_of_kind.ensures w) ∙ c.if-not-is_of_kind.false) in
    subst (λ (o : Option TypeFrame). Gives {X = Unit {0}} c.push_all.result o (frame_of w c.push_all.new.frame)) (sym rule)
    (c.push_all.ensures.typed w e is)

pub returns-clause-known : goal.returns-clause-known
returns-clause-known c = λ w known.
    let x = c.in-Some.type_there in
    c.push_all.ensures.known w known
    (All-cons (IsKnownType w) x [] (known-at w c.args.frame.now.locals c.from.result x known.locals (sym c.local.ensures ∙ c.in-Some.is)) (All-nil (IsKnownType w)))
