use Rattle.std.proofs.Common.{◌∙◌, arith}
use Rattle.class_graph.specs.Graph.{once}
use Rattle.class_graph.proofs.Once.{once-begins, once-more, once-end}
use Rattle.class_graph.proofs.walk.each_once.Goals as goal

pub loop-number-init : goal.loop-number-init
loop-number-init c = once-begins c.args.numbers.now _ c.new-met.ensures.empty

pub loop-number-preserved : goal.loop-number-preserved
loop-number-preserved c =
    once-more c.args.numbers.now c.loop-number.number-index _ _ (omega arith) c.in_ok-insert.ensures.keys c.loop-number.invariant

pub returns : goal.returns
returns c =
    c.in_ok-list.ensures ∙ c.as_slice.ensures.keys ∙ once-end c.args.numbers.now c.loop-number.number-index _ (omega arith) c.loop-number.invariant
