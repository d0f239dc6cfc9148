use Rattle.std.proofs.Common.{◌≡◌}
use Rattle.code_marks.specs.Marks.{codes_before}
use Rattle.code_marks.proofs.Worlds.{WorldSoFar}
use Rattle.code_marks.proofs.marks.CodeMarks.open.Given as goal

-- the classes so far have their marks, and the next code follows theirs
abbrev pub invariant-loop-class : goal.invariant-loop-class
invariant-loop-class l = record {
  base_is : l.base ≡ codes_before l.world l.class;
  so_far : WorldSoFar l.world l.class l.marks;
}
