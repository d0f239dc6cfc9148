use Rattle.std.proofs.Common.{◌≡◌, ◌-◌, ◌≤◌, length}
use Rattle.code_model.specs.TypeReading.{parameters_within}
use Rattle.numbered_types.specs.Numbered.{all_numbered}
use Rattle.numbered_types.proofs.Parameters.{in_front}
use Rattle.numbered_types.proofs.method_types.read_parameters.Given as goal

-- the parameters so far, and those that are still to be read
abbrev pub invariant-loop-rest : goal.invariant-loop-rest
invariant-loop-rest l = record {
  few : length l.types.items ≤ 255;
  so_far : in_front l.types.items
      (all_numbered l.world (parameters_within (255 - length l.types.items) l.rest))
      ≡ all_numbered l.world (parameters_within 255 l.fn.units);
}

abbrev pub decreases-loop-rest : goal.decreases-loop-rest
decreases-loop-rest l = 255 - length l.types.items
