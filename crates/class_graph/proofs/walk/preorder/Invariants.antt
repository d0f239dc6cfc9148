use Rattle.std.proofs.Common.{◌+◌, ◌-◌, ◌*◌, length, map, flat_map}
use Rattle.class_graph.proofs.Walks.{IsWalk}
use Rattle.class_graph.proofs.walk.preorder.Given as goal

abbrev pub invariant-loop-node : goal.invariant-loop-node
invariant-loop-node l = IsWalk (map (λ children. children.items) l.graph) l.start l.met.keys l.stack

-- each node is met once, and puts no more on the stack than there are edges
abbrev pub decreases-loop-node : goal.decreases-loop-node
decreases-loop-node l =
    (length l.graph - length l.met.keys) * (length (flat_map (λ children. children.items) l.graph) + 1) + length l.stack
