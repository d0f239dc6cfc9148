-- Parts of an attribute that fill it.
use Rattle.std.specs.Prelude.{ℕ, List, ◌==◌, length, Result}
use Rattle.jv_model.specs.ClassData.{Const}
use Rattle.jv_model.specs.Fallible.{where_true, ◌>>=◌}
use Rattle.jv_model.specs.Refusal.{Cause, extra_bytes}
use Rattle.jv_model.specs.Input.{whole_of}
use Rattle.code_model.specs.CodeShape.{Parts, parts_at, as_shape}
use Rattle.jv_types.specs.Reading.{Refuses}
use Rattle.code_reader.specs.declared.error.CodeError.{CodeError}
use Rattle.code_reader.specs.declared.error.PartError.{PartError}
use Rattle.code_reader.specs.Gives.{code_refusal}
use Rattle.code_reader.specs.Parts.{part_refusal}

abbrev pub whole_parts_at : List Const → ℕ → List ℕ → Result Parts Cause
whole_parts_at pool method bytes =
    parts_at pool method (whole_of bytes) >>= λ parts.
    where_true (length parts.1.bytes == 0) (extra_bytes parts.1.at) parts.0

-- what isn't whole, or is left over, has the wrong shape
abbrev pub IsShapeError : PartError → CodeError → Type 0
IsShapeError error told =
    (method : ℕ) (read : Result Parts Cause) → Refuses (part_refusal method error) read
    → Refuses (code_refusal method told) (as_shape method read)
