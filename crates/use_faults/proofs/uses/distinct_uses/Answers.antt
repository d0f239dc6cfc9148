use Rattle.std.proofs.Common.{◌∙◌, List, flat_map, ap, sym}
use Rattle.std.proofs.lemmas.List.{at_drop_all}
use Rattle.jv_model.specs.Partial.{least}
use Rattle.class_faults.specs.declared.uses.Used.{Used}
use Rattle.class_faults.specs.contracts.uses.UsedPartialEq.TheImpl.{eq-value}
use Rattle.class_faults.specs.Descriptors.{lesser}
use Rattle.class_faults.proofs.Least.{lesser_none, least_of-more, least_of-once, least_step}
use Rattle.use_faults.proofs.SameUses.{sound}
use Rattle.use_faults.proofs.uses.distinct_uses.Goals as goal

pub loop-used-init : goal.loop-used-init
loop-used-init c has = ap (λ (keys : List Used). lesser (least (flat_map has keys)) (least (flat_map has c.args.uses.now))) c.new-distinct.ensures.empty

pub loop-used-preserved : goal.loop-used-preserved
loop-used-preserved c has =
    least_step has (λ (us : List Used). least (flat_map has us)) (λ (u : Used) (us : List Used). least_of-more has u us)
    c.args.uses.now c.loop-used.used-index _ (least (flat_map has c.loop-used.distinct.keys)) _ _ c.loop-used-test.true
    (ap (λ (keys : List Used). least (flat_map has keys)) c.in_ok-insert.ensures.keys
    ∙ least_of-once has ((eq-value).it) sound c.loop-used.distinct.keys _)
    (c.loop-used.invariant has)

pub returns : goal.returns
returns c has =
    sym (lesser_none (least (flat_map has c.loop-used.distinct.keys)))
    ∙ sym (at_drop_all (λ (us : List Used). lesser (least (flat_map has c.loop-used.distinct.keys)) (least (flat_map has us)))
    c.args.uses.now c.loop-used.used-index c.loop-used-test.false)
    ∙ c.loop-used.invariant has
