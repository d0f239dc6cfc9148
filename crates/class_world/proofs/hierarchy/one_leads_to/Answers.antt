use Rattle.std.proofs.Common.{sym, ◌∙◌, arith}
use Rattle.class_world.proofs.Searches.{leads_to-more, leads_to-end}
use Rattle.class_world.proofs.hierarchy.one_leads_to.Goals as goal

pub returns-then-contains : goal.returns-then-contains
returns-then-contains c =
    sym (leads_to-more _ c.args.graph.now c.args.last c.args.nodes.now c.loop-node.node-index _ _ _ (omega arith) c.requires
    c.index-graph-node.is c.as_slice.ensures (sym c.if-contains.true ∙ c.contains.ensures.value))
    ∙ c.loop-node.invariant

pub loop-node-preserved : goal.loop-node-preserved
loop-node-preserved c =
    sym (leads_to-more _ c.args.graph.now c.args.last c.args.nodes.now c.loop-node.node-index _ _ _ (omega arith) c.requires
    c.index-graph-node.is c.as_slice.ensures (sym c.if-contains.false ∙ c.contains.ensures.value))
    ∙ c.loop-node.invariant

pub returns : goal.returns
returns c =
    sym (leads_to-end _ c.args.graph.now c.args.last c.args.nodes.now c.loop-node.node-index (omega arith)) ∙ c.loop-node.invariant
