-- Why there was no round trip, as the definitions see it.
use Rattle.std.specs.Prelude.{◌≡◌, ◌<◌, ◌⊎◌, ℕ, List, length}
use Rattle.jv_model.specs.Limits.{most_file_bytes}
use Rattle.jv_model.specs.ClassData.{ClassData}
use Rattle.jv_model.specs.ClassBytes.{class_bytes}
use Rattle.jv_model.specs.ClassLimits.{first_limit}
use Rattle.jv_model.specs.ClassReading.{class_of}
use Rattle.jv_types.specs.Reading.{Refuses}
use Rattle.class_reader.specs.Gives.{class_refusal}
use Rattle.class_writer.specs.Written.{WriteFails}
use Rattle.class_writer.specs.declared.error.WriteClassError.TheVariants as writing
use Rattle.class_reader.specs.declared.error.ClassError.TheVariants as reading
use Rattle.class_round_trip.specs.declared.error.RoundTripError.{RoundTripError}
use Rattle.class_round_trip.specs.declared.error.RoundTripError.TheVariants.{Read, Write}

-- the bytes are refused, or memory ran out
abbrev pub IsUnread : RoundTripError → List ℕ → Type 0
IsUnread (Read error) bytes = Refuses (class_refusal error) (class_of bytes)
IsUnread (Write error) bytes = error ≡ writing.NoMemory

-- the data can't be written, their bytes are refused, or memory ran out
abbrev pub IsUnwritten : RoundTripError → ClassData → Type 0
IsUnwritten (Write error) file = WriteFails error (first_limit file)
IsUnwritten (Read error) file = Refuses (class_refusal error) (class_of (class_bytes file))

-- memory ran out, or the bytes are more than a class file may have
abbrev pub IsStarvedOrLong : RoundTripError → ClassData → Type 0
IsStarvedOrLong (Write error) file = error ≡ writing.NoMemory
IsStarvedOrLong (Read error) file =
    (error ≡ reading.NoMemory) ⊎ (most_file_bytes < length (class_bytes file))
