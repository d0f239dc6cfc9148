use Rattle.std.proofs.Common.{◌≡◌, ◌-◌, ◌≤◌, length}
use Rattle.code_model.specs.TypeReading.{parameters_within}
use Rattle.method_descriptors.specs.Parameters.{kinds_front}
use Rattle.method_descriptors.proofs.Parameters.{kinds_in_front}
use Rattle.method_descriptors.proofs.descriptor.read_parameters.Given as goal

-- the parameters so far, and those that are still to be read
abbrev pub invariant-loop-rest : goal.invariant-loop-rest
invariant-loop-rest l = record {
  few : length l.kinds.items ≤ 255;
  so_far : kinds_in_front l.kinds.items
      (kinds_front (parameters_within (255 - length l.kinds.items) l.rest))
      ≡ kinds_front (parameters_within 255 l.fn.units);
}

abbrev pub decreases-loop-rest : goal.decreases-loop-rest
decreases-loop-rest l = 255 - length l.kinds.items
