use Rattle.std.proofs.Common.{◌≡◌, ◌-◌, ◌≤◌, length}
use Rattle.code_model.specs.TypeReading.{parameters_within}
use Rattle.descriptor_types.specs.Types.{field_types_of}
use Rattle.descriptor_types.proofs.Methods.{types_in_front}
use Rattle.descriptor_types.proofs.method.read_parameters.Given as goal

-- the parameters so far, and those that are still to be read
abbrev pub invariant-loop-rest : goal.invariant-loop-rest
invariant-loop-rest l = record {
  few : length l.parameters.items ≤ 255;
  so_far : types_in_front (field_types_of l.parameters.items)
      (parameters_within (255 - length l.parameters.items) l.rest)
      ≡ parameters_within 255 l.fn.units;
}

abbrev pub decreases-loop-rest : goal.decreases-loop-rest
decreases-loop-rest l = 255 - length l.parameters.items
