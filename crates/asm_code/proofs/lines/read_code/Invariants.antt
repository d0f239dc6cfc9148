use Rattle.std.proofs.Common.{◌≡◌, ◌++◌, drop}
use Rattle.assembler_model.specs.CodeFaults.{labels_of}
use Rattle.assembler_model.specs.CodeLines.{at_start, code_lines}
use Rattle.asm_parts.specs.Pools.{entries_in}
use Rattle.asm_pool.specs.Needs.{numbered_lines}
use Rattle.asm_code.specs.Labels.{labels_in, SameLabels}
use Rattle.asm_code.specs.Places.{lines_of, place_of}
use Rattle.asm_code.proofs.lines.read_code.Given as goal

-- the lines so far with their labels, and the lines that are left
abbrev pub invariant-loop-line : goal.invariant-loop-line
invariant-loop-line l = record {
  lines : lines_of l.placed.items ++ code_lines (entries_in l.pool) (place_of l.place) (numbered_lines (drop l.line-index l.lines))
      ≡ code_lines (entries_in l.pool) at_start (numbered_lines l.lines);
  labels : SameLabels (labels_in l.place.labels.entries) (labels_of (lines_of l.placed.items));
}
