use Rattle.std.proofs.Common.{length, map}
use Rattle.jv_types.specs.Entry.{entries_of}
use Rattle.straight_line.specs.Body.{instruction_of}
use Rattle.straight_line.specs.Programs.{program}
use Rattle.straight_line.specs.Runs.{state}
use Rattle.straight_line.proofs.RunLemmas.{IsUnderWay}
use Rattle.straight_line.proofs.machine.run_to_end.Given as goal

abbrev pub invariant-loop-rest : goal.invariant-loop-rest
invariant-loop-rest l =
    IsUnderWay (program l.body) (entries_of l.journal.items) (map instruction_of l.rest)
    (state l.machine)

abbrev pub decreases-loop-rest : goal.decreases-loop-rest
decreases-loop-rest l = length l.rest
