use Rattle.std.proofs.Common.{◌∙◌, ℕ, List, flat_map, ap, sym}
use Rattle.std.proofs.lemmas.List.{append-nil}
use Rattle.jv_model.specs.Partial.{least}
use Rattle.link_model.specs.Uses as model
use Rattle.link_model.specs.DescriptorFaults.{wrong_text_of}
use Rattle.jv_types.specs.ClassData.{pool_of}
use Rattle.class_faults.specs.declared.descriptors.TextUse.{TextUse}
use Rattle.class_faults.specs.declared.uses.Used.{Used}
use Rattle.class_faults.specs.Uses.{used_of, uses_in}
use Rattle.class_faults.specs.Descriptors.{wrong_text, lesser}
use Rattle.class_faults.proofs.Least.{lesser_none, least_of-more, least_of-once, least_step}
use Rattle.class_faults.proofs.TextUses.{sound}
use Rattle.class_faults.specs.contracts.descriptors.TextUsePartialEq.TheImpl.{eq-value}
use Rattle.class_faults.proofs.descriptors.text_uses.Goals.{in-Some+in_ok-insert, in_default}
use Rattle.class_faults.proofs.descriptors.text_uses.Goals as goal

pub loop-used-preserved : goal.loop-used-preserved
loop-used-preserved c =
    let pool = pool_of c.args.pool.now in
    let wrong = λ (u : model.Used). wrong_text_of pool u.index u.use_as in
    let step =
    least_step (λ (u : Used). wrong (used_of u)) (λ (us : List Used). least (flat_map wrong (uses_in us)))
    (λ (u : Used) (us : List Used). least_of-more wrong (used_of u) (uses_in us))
    c.args.uses.now c.loop-used.used-index _ (least (flat_map (wrong_text pool) c.loop-used.texts.keys)) in
    elim c.match-text_use.branch [
      | in-Some+in_ok-insert w ↦
          step _ _ c.loop-used-test.true
          (ap (λ t. least (flat_map (wrong_text pool) t.keys)) w.texts-is
          ∙ ap (λ (keys : List TextUse). least (flat_map (wrong_text pool) keys)) w.in_ok-insert.ensures.keys
          ∙ least_of-once (wrong_text pool) ((eq-value).it) sound c.loop-used.texts.keys w.in-Some.text
          ∙ ap (λ (l : List ℕ). lesser (least (flat_map (wrong_text pool) c.loop-used.texts.keys)) (least l))
          (sym (append-nil (wrong_text pool w.in-Some.text)) ∙ w.in-Some.ensures))
          c.loop-used.invariant
      | in_default w ↦
          step _ _ c.loop-used-test.true
          (ap (λ t. least (flat_map (wrong_text pool) t.keys)) w.texts-is
          ∙ sym (lesser_none (least (flat_map (wrong_text pool) c.loop-used.texts.keys)))
          ∙ ap (λ (l : List ℕ). lesser (least (flat_map (wrong_text pool) c.loop-used.texts.keys)) (least l)) w.in_default.ensures)
          c.loop-used.invariant
    ]
