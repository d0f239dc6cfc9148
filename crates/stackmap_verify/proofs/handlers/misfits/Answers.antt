use Rattle.std.proofs.Common.{Bool, ◌&&◌, not, ap, sym, ◌∙◌}
use Rattle.code_model.specs.Names.{named_handler}
use Rattle.typing_model.specs.Rules.{handler_fits}
use Rattle.jv_types.specs.ClassData.{pool_of}
use Rattle.jv_types.specs.Code.{handler_of}
use Rattle.type_rules.specs.Frames.{frame_of}
use Rattle.stackmap_verify.proofs.handlers.misfits.Goals as goal

pub returns-then-not-covers : goal.returns-then-not-covers
returns-then-not-covers g c = λ e is.
    let method = c.args.method.now in
    let pool = pool_of method.code.now.pool.now in
    let fits = handler_fits e (frame_of method.world.now c.args.frame.now) (named_handler pool (handler_of c.args.handler.now)) in
    sym (ap (λ (b : Bool). b && not fits) (sym (c.covers.ensures pool) ∙ c.if-not-covers.true))

pub returns : goal.returns
returns g c = λ e is.
    let method = c.args.method.now in
    let pool = pool_of method.code.now.pool.now in
    let fits = handler_fits e (frame_of method.world.now c.args.frame.now) (named_handler pool (handler_of c.args.handler.now)) in
    ap not (c.in_ok-handler_fits.ensures e is)
    ∙ sym (ap (λ (b : Bool). b && not fits) (sym (c.covers.ensures pool) ∙ c.if-not-covers.false))
