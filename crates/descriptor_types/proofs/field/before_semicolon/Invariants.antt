use Rattle.std.proofs.Common.{◌≡◌, take, drop}
use Rattle.code_model.specs.TypeReading.{before_semicolon}
use Rattle.descriptor_types.proofs.Reading.{units_in_front}
use Rattle.descriptor_types.proofs.field.before_semicolon.Given as goal

-- none of the units so far is a semicolon
abbrev pub invariant-loop-at : goal.invariant-loop-at
invariant-loop-at l = units_in_front (take l.at l.units) (before_semicolon (drop l.at l.units))
    ≡ before_semicolon l.units
