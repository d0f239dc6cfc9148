use Rattle.std.proofs.Common.{◌≡◌, ◌+◌, ◌≤◌, drop, length}
use Rattle.std.specs.Prelude.{filter_map}
use Rattle.assembler_model.specs.CodeFaults.{number_of_catch}
use Rattle.asm_code.specs.Places.{lines_of}
use Rattle.asm_bytes.proofs.code.catch_count.Given as goal

-- the handlers so far, and those that are left
abbrev pub invariant-loop-at : goal.invariant-loop-at
invariant-loop-at l = record {
  few : l.count ≤ l.at;
  all : l.count + length (filter_map number_of_catch (lines_of (drop l.at l.lines.items)))
      ≡ length (filter_map number_of_catch (lines_of l.lines.items));
}
