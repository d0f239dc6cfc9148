use Rattle.std.proofs.Common.{◌≡◌, ◌≤◌, drop}
use Rattle.std.specs.Prelude.{filter_map}
use Rattle.text_model.specs.LineFaults.{first_fault}
use Rattle.assembler_model.specs.CodeFaults.{number_of_catch}
use Rattle.asm_parts.specs.Faults.{either, told_by}
use Rattle.asm_code.specs.Places.{lines_of}
use Rattle.asm_code.proofs.FaultLemmas.{too_many_from}
use Rattle.asm_code.proofs.faults.note_catch_count.Given as goal

-- what is noted, and the handlers that are left
abbrev pub invariant-loop-here : goal.invariant-loop-here
invariant-loop-here l = record {
  few : l.count ≤ l.here-index;
  noted : either (told_by l.first) (first_fault (too_many_from 65535 l.count (filter_map number_of_catch (lines_of (drop l.here-index l.lines)))))
      ≡ either (told_by l.fn.first) (first_fault (too_many_from 65535 0 (filter_map number_of_catch (lines_of l.lines))));
}
