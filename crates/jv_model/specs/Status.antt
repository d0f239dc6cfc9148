-- How a call ends.
use Rattle.std.specs.Prelude.{ℕ}
use Rattle.jv_model.specs.Refusal.{Cause}
use Rattle.jv_model.specs.End.{End}

pub data Status : Type 0 where
  -- a run ended so; where no run is asked for and the text is written, it's told as if all threads had ended
  ended : End → Status
  -- the words of the command are none that are served
  bad_words : Status
  -- the input is refused: the number of the manifest's item, or 0; the class within that item, or 0; and why
  bad_input : ℕ → ℕ → Cause → Status
  -- a file could not be read
  read_fault : Status
  -- a sink did not take all of its text
  write_fault : Status
  -- memory ran out
  no_memory : Status
  -- the entry of the journal with this number, from 0
  bad_journal : ℕ → Status
