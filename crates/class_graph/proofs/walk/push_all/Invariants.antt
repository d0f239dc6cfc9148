use Rattle.std.proofs.Common.{◌≡◌, ◌≤◌, ◌++◌, drop, length}
use Rattle.class_graph.proofs.walk.push_all.Given as goal

-- those that are left aren't on the stack yet
abbrev pub invariant-loop-left : goal.invariant-loop-left
invariant-loop-left l = record {
  inside : l.left ≤ length l.nodes;
  pushed : l.stack ≡ drop l.left l.nodes ++ l.initial.stack;
}

abbrev pub decreases-loop-left : goal.decreases-loop-left
decreases-loop-left l = l.left
