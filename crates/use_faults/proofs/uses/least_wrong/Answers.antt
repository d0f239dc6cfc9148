use Rattle.std.proofs.Common.{◌∙◌, sym, ap, flat_map, List, ℕ, Some}
use Rattle.jv_model.specs.Partial.{least}
use Rattle.jv_types.specs.ClassData.{class_data_of}
use Rattle.class_faults.specs.declared.uses.Used.{Used}
use Rattle.class_faults.specs.Descriptors.{lesser}
use Rattle.class_faults.proofs.Least.{lesser_none, lesser_comm, least_of-more, least_step}
use Rattle.use_faults.specs.Wrong.{wrong_read}
use Rattle.use_faults.proofs.SameUses.{wrong_here, right_here}
use Rattle.use_faults.proofs.uses.least_wrong.Goals.{then-not-branch, else-not-branch}
use Rattle.use_faults.proofs.uses.least_wrong.Goals as goal

pub loop-used-preserved : goal.loop-used-preserved
loop-used-preserved c =
    let world = c.args.world.now in
    let file = class_data_of c.args.file.now in
    let step =
    least_step (wrong_read world file) (λ (us : List Used). least (flat_map (wrong_read world file) us))
    (λ (u : Used) (us : List Used). least_of-more (wrong_read world file) u us)
    c.args.uses.now c.loop-used.used-index _ c.loop-used.wrong _ _ c.loop-used-test.true in
    elim c.if-not-branch.branch [
      | then-not-branch w ↦
          step (w.wrong-is ∙ w.lesser.ensures ∙ lesser_comm (Some _) c.loop-used.wrong
          ∙ ap (λ (l : List ℕ). lesser c.loop-used.wrong (least l))
          (sym (wrong_here world file _ _ c.in_ok-resolves.ensures w.if-not-branch.true)))
          c.loop-used.invariant
      | else-not-branch w ↦
          step (w.wrong-is ∙ sym (lesser_none c.loop-used.wrong)
          ∙ ap (λ (l : List ℕ). lesser c.loop-used.wrong (least l))
          (sym (right_here world file _ _ c.in_ok-resolves.ensures w.if-not-branch.false)))
          c.loop-used.invariant
    ]
