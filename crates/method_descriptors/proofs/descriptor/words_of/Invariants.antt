use Rattle.std.proofs.Common.{◌≡◌, ◌*◌, ◌≤◌, take, map, sum}
use Rattle.method_descriptors.specs.Parameters.{words_of_kind}
use Rattle.method_descriptors.proofs.descriptor.words_of.Given as goal

-- the words so far
abbrev pub invariant-loop-kind : goal.invariant-loop-kind
invariant-loop-kind l = record {
  so_far : l.words ≡ sum (map words_of_kind (take l.kind-index l.kinds));
  few : l.words ≤ 2 * l.kind-index;
}
