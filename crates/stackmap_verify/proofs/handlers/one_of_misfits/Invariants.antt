use Rattle.std.proofs.Common.{◌≡◌, drop}
use Rattle.std.specs.List.{list_any}
use Rattle.code_model.specs.Names.{named_handler}
use Rattle.typing_model.specs.Environment.{Environment}
use Rattle.typing_model.specs.Rules.{misfits}
use Rattle.jv_types.specs.ClassData.{pool_of}
use Rattle.jv_types.specs.Code.{handler_of}
use Rattle.jv_types.specs.declared.code.Handler.{Handler}
use Rattle.type_rules.specs.Frames.{frame_of}
use Rattle.stackmap_verify.specs.Methods.{IsMethod}
use Rattle.stackmap_verify.proofs.handlers.one_of_misfits.Given as goal

-- the handlers that are left tell the answer
abbrev pub invariant-loop-handler : goal.invariant-loop-handler
invariant-loop-handler g l = (e : Environment) → IsMethod l.method e
    → list_any (λ (h : Handler). misfits e l.pc (frame_of l.method.world.now l.frame)
    (named_handler (pool_of l.method.code.now.pool.now) (handler_of h))) (drop l.handler-index l.handlers)
    ≡ list_any (λ (h : Handler). misfits e l.pc (frame_of l.method.world.now l.frame)
    (named_handler (pool_of l.method.code.now.pool.now) (handler_of h))) l.handlers
