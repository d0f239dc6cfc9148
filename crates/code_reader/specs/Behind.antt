-- How far a reading came.
use Rattle.std.specs.Prelude.{◌≡◌, ◌+◌, ◌≤◌, ◌<◌, length}
use Rattle.jv_model.specs.Input.{Input}

-- it reads on in the same bytes
pub record IsBehind (before after : Input) : Type 0 where
  pub on : before.at ≤ after.at
  pub whole : after.at + length after.bytes ≡ before.at + length before.bytes

-- and a byte was read at least
pub record IsPast (before after : Input) : Type 0 where
  pub further : before.at < after.at
  pub whole : after.at + length after.bytes ≡ before.at + length before.bytes
