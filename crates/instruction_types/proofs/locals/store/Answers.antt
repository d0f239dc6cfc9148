use Rattle.std.proofs.Common.{Bool, Option, List, None, drop, option_map, if◌then◌else◌, sym, subst, ap, ◌∙◌}
use Rattle.std.proofs.lemmas.List.Elements.{All-drop}
use Rattle.typing_model.specs.VerificationType as model
use Rattle.typing_model.specs.VerificationType.{TypeFrame}
use Rattle.typing_model.specs.LocalTypes.{put}
use Rattle.jv_types.specs.Instruction.{value_kind_of}
use Rattle.type_rules.specs.Types.{type_of, IsKnownType}
use Rattle.type_rules.specs.Frames.{Types, types_of, frame_of, IsKnownFrame}
use Rattle.instruction_types.specs.Outcome.{Gives}
use Rattle.instruction_types.proofs.FirstReads.{known-at}
use Rattle.instruction_types.proofs.Puts.{stored-by}
use Rattle.instruction_types.proofs.locals.store.Goals as goal

pub returns-then-not-is_of_kind-clause-typed : goal.returns-then-not-is_of_kind-clause-typed
returns-then-not-is_of_kind-clause-typed c = λ w.
    let old = c.args.frame.now in
    let x = c.in-Some.operand in
    let given : Option TypeFrame = option_map (λ (locals : List model.VerificationType). record { locals = locals; stack = types_of w (drop 1 old.stack) })
    (put c.args.local (type_of w x) (types_of w old.locals)) in
    stored-by w (value_kind_of c.args.kind) c.args.local old x c.is_of_kind.result (sym c.operand.ensures ∙ c.in-Some.is) (c.is_of_kind.ensures w)
    ∙ ap (λ (b : Bool). if b then given else None) c.if-not-is_of_kind.true

pub returns-clause-typed : goal.returns-clause-typed
returns-clause-typed c = λ w.
    let old = c.args.frame.now in
    let x = c.in-Some.operand in
    let given : Types → Option TypeFrame = λ (t : Types). option_map (λ (locals : List model.VerificationType). record { locals = locals; stack = types_of w t.stack })
    (put c.args.local (type_of w x) (types_of w t.locals)) in
    let rule =
    stored-by w (value_kind_of c.args.kind) c.args.local old x c.is_of_kind.result (sym c.operand.ensures ∙ c.in-Some.is) (c.is_of_kind.ensures w)
    ∙ ap (λ (b : Bool). if b then given (record { locals = old.locals; stack = drop 1 old.stack }) else None) c.if-not-is_of_kind.false
    ∙ ap given (sym c.drop_operands.ensures) in
    subst (λ (o : Option TypeFrame). Gives {X = Unit {0}} c.put.result o (frame_of w c.put.new.frame)) (sym rule) (c.put.ensures.typed w)

pub returns-clause-known : goal.returns-clause-known
returns-clause-known c = λ w known.
    let old = c.args.frame.now in
    c.put.ensures.known w
    (subst (IsKnownFrame w) (sym c.drop_operands.ensures) (record { locals = known.locals; stack = All-drop (IsKnownType w) 1 old.stack known.stack }))
    (known-at w old.stack 0 c.in-Some.operand known.stack (sym c.operand.ensures ∙ c.in-Some.is))
