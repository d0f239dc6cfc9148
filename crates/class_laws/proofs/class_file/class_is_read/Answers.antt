use Rattle.class_laws.proofs.Numbers.{IsBytes-from_all}
use Rattle.class_laws.proofs.ClassFile.{class_takes, class_again}
use Rattle.class_laws.proofs.class_file.class_is_read.Goals as goal

pub returns : goal.returns
returns c = λ bytes fits file. (
  class_takes bytes file (IsBytes-from_all bytes fits),
  λ spelled.
      class_again bytes file spelled.0 spelled.1,
)
