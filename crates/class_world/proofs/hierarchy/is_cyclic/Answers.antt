use Rattle.std.proofs.Common.{List, ℕ, map, ap, subst, sym, ◌∙◌}
use Rattle.std.specs.List.{list_any}
use Rattle.class_graph.specs.Graph.{IsGraph, IsPreorder, leads_to}
use Rattle.class_world.specs.World.{supertypes_of}
use Rattle.class_world.proofs.Upwards.{is_graph_of_infos, cyclic_of_infos}
use Rattle.class_world.proofs.hierarchy.is_cyclic.Goals as goal

pub preorder-requires-clause-graph : goal.preorder-requires-clause-graph
preorder-requires-clause-graph c = subst IsGraph (sym c.requires.graph) (is_graph_of_infos c.args.classes.now c.requires.classes)

pub returns : goal.returns
returns c =
    c.one_leads_to.ensures
    ∙ ap (λ (g : List (List ℕ)). list_any (leads_to g c.args.class.0) c.as_slice.result.now) c.requires.graph
    ∙ cyclic_of_infos c.args.classes.now c.requires.classes c.args.class c.requires.class c.as_slice.result.now
    (subst (λ (l : List ℕ). IsPreorder (map supertypes_of c.args.classes.now) c.args.class.0 l) (sym c.as_slice.ensures)
    (subst (λ (g : List (List ℕ)). IsPreorder g c.args.class.0 c.in_ok-nodes.nodes.items) c.requires.graph c.in_ok-nodes.ensures))
