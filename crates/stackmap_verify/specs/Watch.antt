-- What a pass knows of the handlers of a method.
use Rattle.std.specs.Prelude.{Bool, not, List, []}
use Rattle.std.specs.List.Sorted.{IsPermutation}
use Rattle.code_model.specs.Names.{named_handler}
use Rattle.typing_model.specs.Environment.{Environment}
use Rattle.typing_model.specs.Rules.{handler_fits}
use Rattle.jv_types.specs.ClassData.{pool_of}
use Rattle.jv_types.specs.Code.{handler_of}
use Rattle.jv_types.specs.declared.code.Handler.{Handler}
use Rattle.type_rules.specs.declared.types.VerificationType.{VerificationType}
use Rattle.type_rules.specs.Frames.{frame_of}
use Rattle.stackmap_verify.specs.declared.handlers.Watch.{Watch}
use Rattle.stackmap_verify.specs.declared.method.Method.{Method}
use Rattle.stackmap_verify.specs.Cover.{HasLeft}
use Rattle.stackmap_verify.specs.Methods.{IsMethod}

-- the handler doesn't fit the locals, whatever the operands are
abbrev pub misfits_locals : Method → Environment → List VerificationType → Handler → Bool
misfits_locals method e locals handler = not (handler_fits e
    (frame_of method.world.now (record { locals = locals; stack = [] }))
    (named_handler (pool_of method.code.now.pool.now) (handler_of handler)))

-- Its rows are the handlers of the method, and those that were looked at fit the locals.
pub record IsWatch (method : Method) (watch : Watch) : Type 0 where
  pub rows : IsPermutation method.code.now.body.now.handlers.items watch.cover.rows
  pub left : (e : Environment) → IsMethod method e → HasLeft (misfits_locals method e watch.locals.items) watch.cover
