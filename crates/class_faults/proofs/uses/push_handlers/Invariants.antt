use Rattle.std.proofs.Common.{◌≡◌, ◌++◌, drop, flat_map}
use Rattle.link_model.specs.Uses.{handler_uses}
use Rattle.jv_types.specs.Code.{handler_of}
use Rattle.class_faults.specs.Uses.{uses_in}
use Rattle.class_faults.proofs.uses.push_handlers.Given as goal

-- the uses so far, and those of what is left
abbrev pub invariant-loop-handler : goal.invariant-loop-handler
invariant-loop-handler l =
    uses_in l.uses.items ++ flat_map (λ row. handler_uses (handler_of row)) (drop l.handler-index l.handlers)
    ≡ uses_in l.fn.uses.items ++ flat_map (λ row. handler_uses (handler_of row)) l.handlers
