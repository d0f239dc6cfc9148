use Rattle.std.proofs.Common.{map}
use Rattle.straight_line.specs.Body.{instruction_of}
use Rattle.straight_line.proofs.MainLemmas.{RunsTo}
use Rattle.straight_line.proofs.main_code.count_reached.Given as goal

abbrev pub invariant-loop-index : goal.invariant-loop-index
invariant-loop-index l = RunsTo l.index (map instruction_of l.instructions.items)
