use Rattle.std.proofs.Common.{◌≡◌, drop}
use Rattle.link_model.specs.UseFaults.{use_fault}
use Rattle.use_faults.proofs.Programs.{first_loaded}
use Rattle.use_faults.proofs.uses.first_unresolved.Given as goal

-- it's the first of those that are left
abbrev pub invariant-loop-class : goal.invariant-loop-class
invariant-loop-class l =
    first_loaded (use_fault l.world) (drop l.class l.world.classes) ≡ first_loaded (use_fault l.world) l.world.classes
