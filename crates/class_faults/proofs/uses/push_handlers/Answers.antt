use Rattle.std.proofs.Common.{arith}
use Rattle.link_model.specs.Uses.{handler_uses}
use Rattle.jv_types.specs.Code.{handler_of}
use Rattle.class_faults.proofs.Appending.{flat_more_at, flat_end}
use Rattle.class_faults.proofs.uses.push_handlers.Goals as goal

pub loop-handler-preserved : goal.loop-handler-preserved
loop-handler-preserved c =
    flat_more_at (λ row. handler_uses (handler_of row)) c.args.handlers.now c.loop-handler.handler-index _ _ _ _ (omega arith) c.in_ok-push_handler.ensures c.loop-handler.invariant

pub returns : goal.returns
returns c = flat_end (λ row. handler_uses (handler_of row)) c.args.handlers.now c.loop-handler.handler-index _ _ (omega arith) c.loop-handler.invariant
