use Rattle.std.proofs.Common.{◌++◌, ◌∷◌, [], Bool, map, refl, ap, ◌∙◌, arith}
use Rattle.jv_types.specs.Boot.{boot_method_of}
use Rattle.class_names.proofs.Growing.{added_next}
use Rattle.class_dispatch.specs.Rows.{is_selectable}
use Rattle.class_dispatch.proofs.Steps.{boot_selectable}
use Rattle.class_dispatch.proofs.rows.boot_row.Goals as goal

pub loop-method-preserved : goal.loop-method-preserved
loop-method-preserved c =
    added_next (λ l. map is_selectable (map boot_method_of l)) (λ m. is_selectable (boot_method_of m)) refl (λ x xs. refl)
    c.args.methods.now c.loop-method.method-index c.method-item.result _ _ _ (omega arith) c.method-item.is
    (c.in_ok-push.ensures.ok ∙ ap (λ (b : Bool). c.loop-method.row.items ++ b ∷ []) (boot_selectable c.method-item.result)) c.loop-method.invariant
