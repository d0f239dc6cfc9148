use Rattle.std.proofs.Common.{Bool, cond, List, Some, None, drop, option_map, sym, subst, ◌∙◌, ap}
use Rattle.std.proofs.lemmas.List.Elements.{All-drop}
use Rattle.typing_model.specs.VerificationType as model
use Rattle.typing_model.specs.VerificationType.{TypeFrame}
use Rattle.type_rules.specs.Types.{IsKnownType}
use Rattle.type_rules.specs.Frames.{Types, types_of, frame_of, IsKnownFrame}
use Rattle.instruction_types.specs.Wanted.{test_of}
use Rattle.instruction_types.proofs.Stacks.{below-none, below-one}
use Rattle.instruction_types.proofs.operands.pop.Goals as goal

pub returns-in_default-clause-typed : goal.returns-in_default-clause-typed
returns-in_default-clause-typed g c = λ e is.
    let w = c.args.world.now in
    let put : List model.VerificationType → TypeFrame = λ (rest : List model.VerificationType). record { locals = types_of w c.args.frame.now.locals; stack = rest } in
    ap (option_map put)
    (below-none w (test_of w e c.args.wanted) c.args.frame.now.stack (sym c.operand.ensures ∙ c.in_default.is))

pub returns-then-not-takes-clause-typed : goal.returns-then-not-takes-clause-typed
returns-then-not-takes-clause-typed g c = λ e is.
    let w = c.args.world.now in
    let stack = c.args.frame.now.stack in
    let put : List model.VerificationType → TypeFrame = λ (rest : List model.VerificationType). record { locals = types_of w c.args.frame.now.locals; stack = rest } in
    ap (option_map put)
    (below-one w (test_of w e c.args.wanted) stack c.in-Some.operand c.takes.result (sym c.operand.ensures ∙ c.in-Some.is)
    (c.takes.ensures e is.world_is)
    ∙ ap (λ (b : Bool). cond b (Some (types_of w (drop 1 stack))) None) c.if-not-takes.true)

pub returns-clause-typed : goal.returns-clause-typed
returns-clause-typed g c = λ e is.
    let w = c.args.world.now in
    let stack = c.args.frame.now.stack in
    let put : List model.VerificationType → TypeFrame = λ (rest : List model.VerificationType). record { locals = types_of w c.args.frame.now.locals; stack = rest } in
    ap (option_map put)
    (below-one w (test_of w e c.args.wanted) stack c.in-Some.operand c.takes.result (sym c.operand.ensures ∙ c.in-Some.is)
    (c.takes.ensures e is.world_is)
    ∙ ap (λ (b : Bool). cond b (Some (types_of w (drop 1 stack))) None) c.if-not-takes.false)
    ∙ ap (λ (t : Types). Some (frame_of w t)) (sym c.drop_operands.ensures)

pub returns-clause-known : goal.returns-clause-known
returns-clause-known g c =
    let w = c.args.world.now in
    subst (IsKnownFrame w) (sym c.drop_operands.ensures)
    (record {
      locals = c.requires.frame.locals;
      stack = All-drop (IsKnownType w) 1 c.args.frame.now.stack c.requires.frame.stack;
    })
