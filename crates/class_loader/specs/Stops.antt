-- The stops that errors are.
use Rattle.std.specs.Prelude.{ℕ, Option, Some, None}
use Rattle.jv_types.specs.declared.refusal.Cause.{Cause}
use Rattle.jv_types.specs.declared.refusal.Cause.TheVariants as causes
use Rattle.jv_types.specs.declared.status.Status.{Status}
use Rattle.jv_types.specs.declared.status.Status.TheVariants as statuses
use Rattle.jv_outer.specs.declared.files.ReadError.{ReadError}
use Rattle.jv_outer.specs.declared.files.ReadError.TheVariants as read_errors
use Rattle.manifest_reader.specs.declared.error.ManifestError.{ManifestError}
use Rattle.manifest_reader.specs.declared.error.ManifestError.TheVariants as manifest_errors
use Rattle.class_loader.specs.declared.stop.Stop.{Stop}
use Rattle.class_loader.specs.declared.stop.Stop.TheVariants as stops

abbrev pub read_stop : ReadError → Stop
read_stop read_errors.Failed = stops.ReadFault
read_stop read_errors.NoMemory = stops.NoMemory

abbrev pub manifest_stop : ManifestError → Stop
manifest_stop (manifest_errors.Line fault) = stops.Refused 0 0 (causes.ManifestLine fault.line fault.kind)
manifest_stop manifest_errors.NoMemory = stops.NoMemory

-- at an item, for a cause; without one there was no memory
abbrev pub stop_at : ℕ → Option Cause → Stop
stop_at item (Some cause) = stops.Refused item 0 cause
stop_at item None = stops.NoMemory

-- how a call ends of which nothing was loaded
abbrev pub stop_status : Stop → Status
stop_status (stops.Refused item sub cause) = statuses.BadInput item sub cause
stop_status stops.ReadFault = statuses.ReadFault
stop_status stops.NoMemory = statuses.NoMemory
