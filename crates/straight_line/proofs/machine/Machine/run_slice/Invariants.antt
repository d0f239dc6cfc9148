use Rattle.std.proofs.Common.{◌≡◌, drop, map}
use Rattle.std.specs.Prelude.{IsSome}
use Rattle.straight_line.specs.Body.{instruction_of}
use Rattle.straight_line.specs.Runs.{state, after_all}
use Rattle.straight_line.proofs.machine.Machine.run_slice.Given as goal

-- the state so far, and the instructions that are still to be run
abbrev pub invariant-loop-instruction : goal.invariant-loop-instruction
invariant-loop-instruction l = record {
  so_far : after_all (map instruction_of (drop l.instruction-index l.slice)) (state l.self)
      ≡ after_all (map instruction_of l.slice) (state l.fn.self);
  runs : IsSome (after_all (map instruction_of l.slice) (state l.fn.self));
}
