-- What an answer says about a reading of the definitions, and how far a reading came.
use Rattle.std.specs.Prelude.{◌≡◌, ◌≤◌, ◌<◌, ℕ, length, Option, Some, None, Result, Ok, Err}
use Rattle.jv_types.specs.declared.input.Cut.{Cut}
use Rattle.jv_model.specs.Refusal.{Cause, truncated}
use Rattle.jv_model.specs.Input.{Input, bytes_at}
use Rattle.jv_model.specs.Fallible.{◌>>=◌}

-- The refusal is what reading gives. Where an error is no refusal, as want of memory, it says
-- nothing.
abbrev pub Refuses : {Y : Type 0} → Option Cause → Result Y Cause → Type 0
Refuses (Some cause) read = read ≡ Err cause
Refuses None read = Unit {0}

-- An answer is what reading gives, its value seen by view, and its error by refusal_of.
abbrev pub Gives : {E X Y : Type 0} → (E → Option Cause) → (X → Y) → Result X E → Result Y Cause
    → Type 0
Gives refusal_of view (Ok x) read = read ≡ Ok (view x)
Gives refusal_of view (Err error) read = Refuses (refusal_of error) read

abbrev pub cut_refusal : Cut → Option Cause
cut_refusal cut = Some (truncated cut.at)

-- one item
abbrev pub GivesItem : {X Y : Type 0} → (X → Y) → Result X Cut → Result Y Cause → Type 0
GivesItem view answer read = Gives cut_refusal view answer read

-- a run of so many bytes, as an input at its place, and the input behind it
abbrev pub part_at : ℕ → Input → Result (Input × Input) Cause
part_at count input =
    bytes_at count input >>= λ run. Ok (record { at = input.at; bytes = run.0 }, run.1)

-- ---- how far a reading came

-- a byte was read at least
pub record IsFurther (before after : Input) : Type 0 where
  pub at : before.at < after.at
  pub left : length after.bytes < length before.bytes

-- the place didn't go back, and no bytes came
pub record IsNotBack (before after : Input) : Type 0 where
  pub at : before.at ≤ after.at
  pub left : length after.bytes ≤ length before.bytes
