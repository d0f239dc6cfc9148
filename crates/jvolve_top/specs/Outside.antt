-- Sinks as the definitions see them: what their ghost members give of one before a call and after it.
use Rattle.std.specs.Prelude.{ℕ, List, Option}
use Rattle.run_model.specs.Delivery.{Sunk, Sinks}

abbrev pub sunk : {S : Type 0} → (S → Option (List ℕ)) → (S → ℕ) → (S → ℕ) → S → S → Sunk
sunk bytes writes faults before after = record {
  bytes_before = bytes before;
  bytes_after = bytes after;
  writes_before = writes before;
  writes_after = writes after;
  faults_before = faults before;
  faults_after = faults after;
}

abbrev pub sinks : Sunk → Sunk → Sunk → Sinks
sinks out report trace = record { out = out; report = report; trace = trace }
