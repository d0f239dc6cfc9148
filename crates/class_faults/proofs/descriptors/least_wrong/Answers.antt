use Rattle.std.proofs.Common.{◌∙◌, sym, ap, flat_map, List, ℕ, Some}
use Rattle.jv_model.specs.Partial.{least}
use Rattle.jv_types.specs.ClassData.{pool_of}
use Rattle.class_faults.specs.declared.descriptors.TextUse.{TextUse}
use Rattle.class_faults.specs.Descriptors.{wrong_text, lesser}
use Rattle.class_faults.proofs.Least.{lesser_none, lesser_comm, least_of-more, least_step}
use Rattle.class_faults.proofs.TextUses.{wrong_here, right_here}
use Rattle.class_faults.proofs.descriptors.least_wrong.Goals.{then-not-branch, else-not-branch}
use Rattle.class_faults.proofs.descriptors.least_wrong.Goals as goal

pub loop-text-preserved : goal.loop-text-preserved
loop-text-preserved c =
    let pool = pool_of c.args.pool.now in
    let step =
    least_step (wrong_text pool) (λ (ts : List TextUse). least (flat_map (wrong_text pool) ts))
    (λ (t : TextUse) (ts : List TextUse). least_of-more (wrong_text pool) t ts)
    c.args.texts.now c.loop-text.text-index _ c.loop-text.wrong _ _ c.loop-text-test.true in
    elim c.if-not-branch.branch [
      | then-not-branch w ↦
          step (w.wrong-is ∙ w.lesser.ensures ∙ lesser_comm (Some _) c.loop-text.wrong
          ∙ ap (λ (l : List ℕ). lesser c.loop-text.wrong (least l))
          (sym (wrong_here pool _ c.text_at.result.now _ c.text_at.ensures c.in_ok-spells.ensures w.if-not-branch.true)))
          c.loop-text.invariant
      | else-not-branch w ↦
          step (w.wrong-is ∙ sym (lesser_none c.loop-text.wrong)
          ∙ ap (λ (l : List ℕ). lesser c.loop-text.wrong (least l))
          (sym (right_here pool _ c.text_at.result.now _ c.text_at.ensures c.in_ok-spells.ensures w.if-not-branch.false)))
          c.loop-text.invariant
    ]
