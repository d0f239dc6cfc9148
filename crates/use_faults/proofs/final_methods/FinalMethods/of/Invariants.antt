use Rattle.use_faults.proofs.FinalNumbers.{FirstRows}
use Rattle.use_faults.proofs.final_methods.FinalMethods.of.Given as goal

-- the classes so far have their rows
abbrev pub invariant-loop-class : goal.invariant-loop-class
invariant-loop-class l = FirstRows l.world.classes l.signatures.keys l.declared.items l.class
