use Rattle.std.proofs.Common.{◌≡◌, ◌+◌, ◌*◌, ◌≤◌, length, drop}
use Rattle.jv_model.specs.ModifiedUtf8.{text_bytes}
use Rattle.class_writer.proofs.text.text_length.Given as goal

-- the bytes of the units so far, and of those that are left
abbrev pub invariant-loop-unit : goal.invariant-loop-unit
invariant-loop-unit l = record {
  so_far : l.total + length (text_bytes (drop l.unit-index l.units)) ≡ length (text_bytes l.units);
  small : l.total ≤ 3 * l.unit-index;
}
