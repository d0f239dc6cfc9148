use Rattle.std.proofs.Common.{List, ℕ, [], ◌∷◌, ap, sym, ◌∙◌}
use Rattle.std.specs.List.{list_any}
use Rattle.std.proofs.lemmas.Result.{IfOk-weaker}
use Rattle.world_model.specs.BootNames.{java_throwable}
use Rattle.world_model.specs.Supertypes.{is_sub}
use Rattle.code_model.specs.Names.{named_handler}
use Rattle.typing_model.specs.VerificationType.{class}
use Rattle.typing_model.specs.Rules.{caught, goes_to}
use Rattle.jv_types.specs.ClassData.{pool_of}
use Rattle.jv_types.specs.Code.{handler_of}
use Rattle.type_rules.specs.declared.types.VerificationType.{VerificationType}
use Rattle.type_rules.specs.Frames.{types_of, frame_of, is_uninitialized_this}
use Rattle.type_rules.proofs.Assigned.{has_this-types}
use Rattle.instruction_types.proofs.Found.{found-name, found-known}
use Rattle.stackmap_verify.proofs.Caught.{not_below, no_throwable, uninitialized_left, decided}
use Rattle.stackmap_verify.proofs.handlers.handler_fits.Goals as goal

pub returns-in_default : goal.returns-in_default
returns-in_default g c = λ e is.
    let method = c.args.method.now in
    let handler = named_handler (pool_of method.code.now.pool.now) (handler_of c.args.handler.now) in
    no_throwable method e is (frame_of method.world.now c.args.frame.now) handler
    (not_below method.world.now (caught handler) java_throwable method.here.now.throwable c.in_default.ensures c.requires.method.ready.throwable)

pub returns-then-not-is_sub : goal.returns-then-not-is_sub
returns-then-not-is_sub g c = λ e is.
    let method = c.args.method.now in
    let w = method.world.now in
    let handler = named_handler (pool_of method.code.now.pool.now) (handler_of c.args.handler.now) in
    let name = found-name w (caught handler) c.in-Some.caught (sym c.in-Some.ensures) in
    let throwable = found-name w java_throwable method.here.now.throwable c.requires.method.ready.throwable in
    no_throwable method e is (frame_of w c.args.frame.now) handler
    ((λ i. is_sub w (sym name i) (sym throwable i)) ∙ sym c.is_sub.ensures.found ∙ c.if-not-is_sub.true)

pub returns-then-has_this : goal.returns-then-has_this
returns-then-has_this g c = λ e is.
    let method = c.args.method.now in
    let handler = named_handler (pool_of method.code.now.pool.now) (handler_of c.args.handler.now) in
    uninitialized_left method e is (frame_of method.world.now c.args.frame.now) handler
    (has_this-types method.world.now c.args.frame.now.locals
    ∙ ap (λ (l : List VerificationType). list_any is_uninitialized_this l) (sym c.locals.ensures)
    ∙ sym c.has_this.ensures ∙ c.if-has_this.true)

pub goes_to_handler-requires-clause-caught : goal.goes_to_handler-requires-clause-caught
goes_to_handler-requires-clause-caught g c =
    let method = c.args.method.now in
    let handler = named_handler (pool_of method.code.now.pool.now) (handler_of c.args.handler.now) in
    found-known method.world.now (caught handler) c.in-Some.caught (sym c.in-Some.ensures)

pub returns : goal.returns
returns g c = IfOk-weaker c.goes_to_handler.result _ _ (λ fits goes e is.
    let method = c.args.method.now in
    let w = method.world.now in
    let frame = c.args.frame.now in
    let handler = named_handler (pool_of method.code.now.pool.now) (handler_of c.args.handler.now) in
    let name = found-name w (caught handler) c.in-Some.caught (sym c.in-Some.ensures) in
    let throwable = found-name w java_throwable method.here.now.throwable c.requires.method.ready.throwable in
    goes e is
    ∙ ap (λ (n : List ℕ). goes_to e (record { locals = types_of w frame.locals; stack = class n ∷ [] }) c.args.handler.now.target) name
    ∙ decided method e is (frame_of w frame) handler
    ((λ i. is_sub w (sym name i) (sym throwable i)) ∙ sym c.is_sub.ensures.found ∙ c.if-not-is_sub.false)
    (has_this-types w frame.locals
    ∙ ap (λ (l : List VerificationType). list_any is_uninitialized_this l) (sym c.locals.ensures)
    ∙ sym c.has_this.ensures ∙ c.if-has_this.false))
    c.goes_to_handler.ensures
