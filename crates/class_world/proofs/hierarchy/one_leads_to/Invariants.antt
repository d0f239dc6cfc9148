use Rattle.std.proofs.Common.{◌≡◌, map, drop}
use Rattle.std.specs.List.{list_any}
use Rattle.class_graph.specs.Graph.{leads_to}
use Rattle.class_world.proofs.hierarchy.one_leads_to.Given as goal

-- none of those so far does
abbrev pub invariant-loop-node : goal.invariant-loop-node
invariant-loop-node l =
    list_any (leads_to (map (λ row. row.items) l.graph) l.last) (drop l.node-index l.nodes)
    ≡ list_any (leads_to (map (λ row. row.items) l.graph) l.last) l.nodes
