-- A pair of a `lookupswitch`.
use Rattle.std.specs.Prelude.{ℕ, ℤ, Option, Result, Ok}
use Rattle.jv_model.specs.Fallible.{◌>>=◌}
use Rattle.jv_model.specs.Refusal.{Cause}
use Rattle.jv_model.specs.Input.{Input}
use Rattle.jv_types.specs.declared.instruction.SwitchPair.{SwitchPair}
use Rattle.code_model.specs.OperandReading.{Site, signed_at, operand_where, is_above, target_at}

-- a key, which is above the one before it, and its target
abbrev pub pair_at : Site → Option ℤ → Input → Result ((ℤ × ℕ) × Input) Cause
pair_at site before input = do
  key ← signed_at 4 input
  rising ← operand_where site (is_above before key.0) key
  target ← target_at site 4 rising.1
  Ok ((key.0, target.0), target.1)

abbrev pub key_of : SwitchPair → ℤ
key_of pair = pair.key

abbrev pub target_of : ℤ × ℕ → ℕ
target_of pair = pair.1
