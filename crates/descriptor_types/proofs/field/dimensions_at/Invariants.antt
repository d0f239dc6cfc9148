use Rattle.std.proofs.Common.{◌≡◌, drop}
use Rattle.code_model.specs.TypeReading.{type_at}
use Rattle.descriptor_types.specs.Types.{arrays}
use Rattle.descriptor_types.proofs.field.dimensions_at.Given as goal

-- brackets so far
abbrev pub invariant-loop-at : goal.invariant-loop-at
invariant-loop-at l = arrays l.at (type_at (drop l.at l.units)) ≡ type_at l.units
