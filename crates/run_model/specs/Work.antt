-- What a command's words and files come to: work that is to be done.
use Rattle.std.specs.Prelude.{ℕ, List}
use Rattle.straight_line_model.specs.Machine.{Program}

pub data Work : Type 0 where
  -- to run a program, thread by thread in turns
  runs : Program → Work
  -- to write a text
  writes : List ℕ → Work
