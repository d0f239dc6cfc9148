use Rattle.std.proofs.Common.{◌≡◌, drop}
use Rattle.link_model.specs.SupertypeFaults.{final_fault}
use Rattle.use_faults.proofs.Programs.{first_user}
use Rattle.use_faults.proofs.overrides.first_final_override.Given as goal

-- it's the first of those that are left
abbrev pub invariant-loop-class : goal.invariant-loop-class
invariant-loop-class l =
    first_user (final_fault l.world) (drop l.class l.world.classes) ≡ first_user (final_fault l.world) l.world.classes
