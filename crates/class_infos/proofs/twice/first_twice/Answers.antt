use Rattle.std.proofs.Common.{arith, ap, sym, ◌∙◌, Some, List, ℕ, bytes_eq}
use Rattle.jv_model.specs.Refusal.{twice}
use Rattle.class_names.specs.Distinct.{with_item}
use Rattle.class_infos.proofs.NoneTwice.{none_yet, once_more, twice_here, none_left}
use Rattle.class_infos.proofs.twice.first_twice.Goals as goal

pub loop-class-init : goal.loop-class-init
loop-class-init c = none_yet _ _ c.new-names.ensures

pub returns-then-branch : goal.returns-then-branch
returns-then-branch c =
    ap (λ (name : List ℕ). Some (twice name)) (c.in_ok-class.ensures ∙ c.class_name-name.ensures)
    ∙ twice_here c.loop-class.names c.args.classes.now c.loop-class.class-index c.class-item.result _ (omega arith) c.class-item.is
    (sym c.in_ok-stands_twice.ensures ∙ c.if-branch.true) c.loop-class.invariant

pub loop-class-preserved : goal.loop-class-preserved
loop-class-preserved c =
    once_more c.loop-class.names c.args.classes.now c.loop-class.class-index c.class-item.result _ (omega arith) c.class-item.is _
    (sym c.in_ok-stands_twice.ensures ∙ c.if-branch.false)
    (c.in_ok-add.ensures.ok ∙ ap (with_item bytes_eq c.loop-class.names) c.class_name-name.ensures) c.loop-class.invariant

pub returns : goal.returns
returns c = none_left _ c.args.classes.now c.loop-class.class-index _ (omega arith) c.loop-class.invariant
