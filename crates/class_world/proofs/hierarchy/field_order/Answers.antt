use Rattle.std.proofs.Common.{List, ℕ, subst, sym, ◌∙◌}
use Rattle.class_graph.specs.Graph.{IsGraph, IsPreorder}
use Rattle.class_world.proofs.Upwards.{is_graph_of_infos}
use Rattle.class_world.proofs.FieldOrders.{field_order_of_infos}
use Rattle.class_world.proofs.hierarchy.field_order.Goals as goal

pub preorder-requires-clause-graph : goal.preorder-requires-clause-graph
preorder-requires-clause-graph c = subst IsGraph (sym c.requires.graph) (is_graph_of_infos c.args.classes.now c.requires.classes)

pub returns : goal.returns
returns c = λ acyclic.
    field_order_of_infos c.args.classes.now c.requires.classes acyclic c.args.class c.in_ok-nodes.nodes.items c.in_ok-order.order.items
    (subst (λ (g : List (List ℕ)). IsPreorder g c.args.class.0 c.in_ok-nodes.nodes.items) c.requires.graph c.in_ok-nodes.ensures)
    (c.in_ok-order.ensures ∙ c.as_slice.ensures)
