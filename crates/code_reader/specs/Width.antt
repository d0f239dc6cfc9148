-- How many bytes a `Width` is.
use Rattle.std.specs.Prelude.{ℕ}
use Rattle.code_reader.specs.declared.operands.Width.{Width}
use Rattle.code_reader.specs.declared.operands.Width.TheVariants.{One, Two}

abbrev pub bytes_of : Width → ℕ
bytes_of One = 1
bytes_of Two = 2
