use Rattle.std.proofs.Common.{◌∷◌, List, ℕ, ap, ◌∙◌}
use Rattle.std.proofs.lemmas.Bool.{false≢true}
use Rattle.class_graph.proofs.Steps.{begins_at, goes_on, branches, is_smaller, ends_at}
use Rattle.class_graph.proofs.walk.preorder.Goals as goal

pub loop-node-init : goal.loop-node-init
loop-node-init c = begins_at _ c.args.graph.now c.args.start c.requires.start _ _ c.new-met.ensures.empty
    (c.in_ok-push.ensures.ok ∙ ap (λ (s : List ℕ). c.args.start ∷ s) c.new-stack.ensures)

pub loop-node-smaller-in-Continue-branch-3 : goal.loop-node-smaller-in-Continue-branch-3
loop-node-smaller-in-Continue-branch-3 c =
    is_smaller _ c.args.graph.now c.args.start _ _ _ _ _ _ c.loop-node.invariant c.in-Some.ensures.operands
    c.in_ok-is_new.ensures.added c.in_ok-is_new.ensures.keys c.if-is_new.true _ _ _ c.index-graph-node.is c.as_slice.ensures c.in_ok-push_all.ensures

pub loop-node-preserved-in-Continue-branch-3 : goal.loop-node-preserved-in-Continue-branch-3
loop-node-preserved-in-Continue-branch-3 c =
    branches _ c.args.graph.now c.args.start _ _ _ _ _ _ c.loop-node.invariant c.in-Some.ensures.operands
    c.in_ok-is_new.ensures.added c.in_ok-is_new.ensures.keys c.if-is_new.true _ _ _ c.index-graph-node.is c.as_slice.ensures c.in_ok-push_all.ensures
    c.requires.graph

pub loop-node-preserved : goal.loop-node-preserved
loop-node-preserved c =
    goes_on _ c.args.graph.now c.args.start _ _ _ _ _ _ c.loop-node.invariant c.in-Some.ensures.operands
    c.in_ok-is_new.ensures.added c.in_ok-is_new.ensures.keys c.if-is_new.false

pub returns : goal.returns
returns c =
    ends_at _ c.args.start _ _ _ c.loop-node.invariant (λ some. false≢true (c.in_default.ensures.some.1 some))
    (c.in_ok-nodes.ensures ∙ c.as_slice-2.ensures.keys)
