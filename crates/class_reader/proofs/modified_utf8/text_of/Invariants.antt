use Rattle.std.proofs.Common.{◌≡◌, length}
use Rattle.jv_model.specs.ModifiedUtf8.{units_of}
use Rattle.class_reader.proofs.Loops.Units.{units_in_front}
use Rattle.class_reader.proofs.modified_utf8.text_of.Given as goal

-- the units so far, and those that are still to be read
abbrev pub invariant-loop-rest : goal.invariant-loop-rest
invariant-loop-rest l = units_in_front l.text.items (units_of l.rest) ≡ units_of l.bytes

abbrev pub decreases-loop-rest : goal.decreases-loop-rest
decreases-loop-rest l = length l.rest
