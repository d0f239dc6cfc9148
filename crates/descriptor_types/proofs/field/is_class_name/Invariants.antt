use Rattle.std.proofs.Common.{◌≡◌, drop}
use Rattle.code_model.specs.TypeReading.{are_parts, is_class_name}
use Rattle.descriptor_types.proofs.field.is_class_name.Given as goal

-- it's decided by the units that are left
abbrev pub invariant-loop-unit : goal.invariant-loop-unit
invariant-loop-unit l = are_parts l.begun (drop l.unit-index l.name) ≡ is_class_name l.name
