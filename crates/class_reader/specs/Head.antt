-- What stands in front of the entries of the constant pool. Nothing of it is kept, so it takes no
-- memory.
use Rattle.std.specs.Prelude.{ℕ, List, nat_le, Result, length}
use Rattle.jv_model.specs.Limits.{most_file_bytes}
use Rattle.jv_model.specs.Refusal.{Cause, above_limit, whole_file}
use Rattle.jv_model.specs.Fallible.{◌>>=◌, where_true}
use Rattle.jv_model.specs.Input.{Input, whole_of, number_at}
use Rattle.jv_model.specs.ClassReading.{versions_at}

-- the magic number, the versions, and the count of the pool
abbrev pub head_at : Input → Result (ℕ × Input) Cause
head_at input = versions_at input >>= λ versions. number_at 2 versions.1

-- the same of the whole of the bytes, which may be too many
abbrev pub head_of : List ℕ → Result (ℕ × Input) Cause
head_of bytes =
    where_true (nat_le (length bytes) most_file_bytes) (above_limit whole_file (length bytes))
    (whole_of bytes) >>= head_at
