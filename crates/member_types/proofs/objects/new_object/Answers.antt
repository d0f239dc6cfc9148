use Rattle.std.proofs.Common.{[], ◌∷◌, List, Option, sym, subst, ap, ◌∙◌, refl}
use Rattle.std.specs.List.{list_any}
use Rattle.std.proofs.lemmas.List.Elements.{All-nil, All-cons}
use Rattle.code_model.specs.Names.{operand_at}
use Rattle.typing_model.specs.VerificationType as model
use Rattle.typing_model.specs.VerificationType.{TypeFrame, is_array, has, new_at}
use Rattle.typing_model.specs.Transition.{pushed}
use Rattle.jv_types.specs.ClassData.{pool_of}
use Rattle.type_rules.specs.declared.types.VerificationType.TheVariants as types
use Rattle.type_rules.specs.Types.{IsKnownType}
use Rattle.type_rules.specs.Frames.{Types, types_of, frame_of, IsKnownFrame}
use Rattle.instruction_types.specs.Outcome.{Gives}
use Rattle.member_types.specs.declared.replacements.Uninitialized.TheVariants.{New}
use Rattle.member_types.specs.Replacements.{is_uninitialized}
use Rattle.member_types.proofs.Replaced.{has-uninitialized, replaced-all, replaced-known, list_any-reverse}
use Rattle.member_types.proofs.NewObjects.{array-many, array-few, made-by}
use Rattle.member_types.proofs.objects.new_object.Goals as goal

pub returns-then-named-gt0-clause-typed : goal.returns-then-named-gt0-clause-typed
returns-then-named-gt0-clause-typed c = λ e is.
    let w = c.args.world.now in
    let old = frame_of w c.args.frame.now in
    let named = c.in-Some.ensures in
    let array = ap (λ t. is_array (model.type_of t)) (sym named.is_type) ∙ array-many w c.in-Some.named.dimensions c.in-Some.named.element c.if-named-gt0.true in
    made-by e c.args.pc (operand_at (pool_of c.args.pool.now) c.args.index) old named.name _ (has (new_at c.args.pc) old.stack) named.is_name array refl

pub returns-then-has_new-clause-typed : goal.returns-then-has_new-clause-typed
returns-then-has_new-clause-typed c = λ e is.
    let w = c.args.world.now in
    let old = frame_of w c.args.frame.now in
    let named = c.in-Some.ensures in
    let array = ap (λ t. is_array (model.type_of t)) (sym named.is_type) ∙ array-few w c.in-Some.named.dimensions c.in-Some.named.element c.if-named-gt0.false in
    let there = has-uninitialized w (New c.args.pc) c.args.frame.now.stack
    ∙ ap (list_any (is_uninitialized (New c.args.pc))) (sym c.operands.ensures)
    ∙ list_any-reverse (is_uninitialized (New c.args.pc)) c.operands.result.now ∙ sym c.has_new.ensures ∙ c.if-has_new.true in
    made-by e c.args.pc (operand_at (pool_of c.args.pool.now) c.args.index) old named.name _ _ named.is_name array there

pub returns-clause-typed : goal.returns-clause-typed
returns-clause-typed c = λ e is.
    let w = c.args.world.now in
    let frame = c.args.frame.now in
    let old = frame_of w frame in
    let named = c.in-Some.ensures in
    let array = ap (λ t. is_array (model.type_of t)) (sym named.is_type) ∙ array-few w c.in-Some.named.dimensions c.in-Some.named.element c.if-named-gt0.false in
    let there = has-uninitialized w (New c.args.pc) frame.stack
    ∙ ap (list_any (is_uninitialized (New c.args.pc))) (sym c.operands.ensures)
    ∙ list_any-reverse (is_uninitialized (New c.args.pc)) c.operands.result.now ∙ sym c.has_new.ensures ∙ c.if-has_new.false in
    let rule =
    made-by e c.args.pc (operand_at (pool_of c.args.pool.now) c.args.index) old named.name _ _ named.is_name array there
    ∙ ap (λ (ls : List model.VerificationType). pushed e (new_at c.args.pc ∷ []) (record { locals = ls; stack = types_of w frame.stack }))
    (replaced-all w (New c.args.pc) types.Top frame.locals)
    ∙ ap (λ (t : Types). pushed e (new_at c.args.pc ∷ []) (frame_of w t)) (sym c.replace_locals.ensures) in
    subst (λ (o : Option TypeFrame). Gives {X = Unit {0}} c.push_all.result o (frame_of w c.push_all.new.frame)) (sym rule)
    (c.push_all.ensures.typed w e is)

pub returns-clause-known : goal.returns-clause-known
returns-clause-known c =
    let w = c.args.world.now in
    let known = c.requires.frame in
    c.push_all.ensures.known w
    (subst (IsKnownFrame w) (sym c.replace_locals.ensures)
    (record { locals = replaced-known w (New c.args.pc) types.Top c.args.frame.now.locals tt known.locals; stack = known.stack }))
    (All-cons (IsKnownType w) (types.New c.args.pc) [] tt (All-nil (IsKnownType w)))
