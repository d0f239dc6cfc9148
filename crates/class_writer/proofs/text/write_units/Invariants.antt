use Rattle.std.proofs.Common.{◌≡◌, ◌++◌, drop}
use Rattle.jv_model.specs.ModifiedUtf8.{text_bytes}
use Rattle.class_writer.proofs.text.write_units.Given as goal

-- what is written, and the units that are left
abbrev pub invariant-loop-unit : goal.invariant-loop-unit
invariant-loop-unit l = l.out ++ text_bytes (drop l.unit-index l.units)
    ≡ l.fn.out ++ text_bytes l.units
