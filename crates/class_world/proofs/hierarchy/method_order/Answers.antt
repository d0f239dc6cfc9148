use Rattle.std.proofs.Common.{[], ◌++◌, ap, ◌∙◌, arith}
use Rattle.std.proofs.lemmas.List.{length-map}
use Rattle.class_graph.specs.Graph.{once}
use Rattle.class_world.proofs.MethodOrders.{inherited_is_graph, method_order_of_infos}
use Rattle.class_world.proofs.hierarchy.method_order.Goals as goal

pub preorder-requires-clause-graph : goal.preorder-requires-clause-graph
preorder-requires-clause-graph c = inherited_is_graph c.args.classes.now c.requires.classes _ c.requires.inherited

pub preorder-requires-clause-start : goal.preorder-requires-clause-start
preorder-requires-clause-start c =
    omega (arith, c.requires.class, c.requires.inherited.count, length-map c.args.inherited.now (λ row. row.items))

pub returns : goal.returns
returns c = λ acyclic.
    method_order_of_infos c.args.classes.now c.requires.classes acyclic _ c.requires.inherited c.args.class c.requires.class _ _
    c.in_ok-interfaces.ensures
    (c.in_ok-order.ensures ∙ c.as_slice-3.ensures ∙ c.in_ok-once.ensures ∙ ap (once []) (c.as_slice-2.ensures ∙ c.in_ok-append.ensures.ok
    ∙ (λ i. c.in_ok-numbers.ensures i ++ c.as_slice.ensures i)))
