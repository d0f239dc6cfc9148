use Rattle.std.proofs.Common.{◌≡◌, drop}
use Rattle.std.specs.List.{list_any}
use Rattle.use_faults.specs.Finals.{has_mark}
use Rattle.use_faults.proofs.overrides.declares_marked.Given as goal

-- it's decided by the classes that are left
abbrev pub invariant-loop-class : goal.invariant-loop-class
invariant-loop-class l =
    list_any (has_mark l.finals.declared.items l.marks) (drop l.class-index l.classes)
    ≡ list_any (has_mark l.finals.declared.items l.marks) l.classes
