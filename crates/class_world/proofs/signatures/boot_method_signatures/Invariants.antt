use Rattle.class_world.specs.Signatures.{boot_method_pair}
use Rattle.class_world.proofs.Spelling.{SoFar}
use Rattle.class_world.proofs.signatures.boot_method_signatures.Given as goal

-- those so far are spelled, and none of them stands twice
abbrev pub invariant-loop-method : goal.invariant-loop-method
invariant-loop-method l = SoFar boot_method_pair l.methods l.fn.texts l.method-index l.texts l.rows
