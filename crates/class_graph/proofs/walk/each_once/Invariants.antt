use Rattle.std.proofs.Common.{◌≡◌, [], ◌++◌, drop}
use Rattle.class_graph.specs.Graph.{once}
use Rattle.class_graph.proofs.walk.each_once.Given as goal

-- those that were met, and what is left to meet
abbrev pub invariant-loop-number : goal.invariant-loop-number
invariant-loop-number l = l.met.keys ++ once l.met.keys (drop l.number-index l.numbers) ≡ once [] l.numbers
