use Rattle.std.proofs.Common.{◌≤◌, length}
use Rattle.code_marks.specs.Marks.{methods_in}
use Rattle.code_marks.proofs.Codes.{MarksSoFar}
use Rattle.code_marks.proofs.marks.marks_of.Given as goal

-- the methods so far have their marks
abbrev pub invariant-loop-index : goal.invariant-loop-index
invariant-loop-index l = record {
  inside : l.index ≤ length (methods_in l.origin);
  so_far : MarksSoFar (methods_in l.origin) l.base l.version l.index l.row.items l.body;
}
