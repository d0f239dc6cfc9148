use Rattle.class_world.specs.Signatures.{boot_field_pair}
use Rattle.class_world.proofs.Spelling.{SoFar}
use Rattle.class_world.proofs.signatures.boot_field_signatures.Given as goal

-- those so far are spelled, and none of them stands twice
abbrev pub invariant-loop-field : goal.invariant-loop-field
invariant-loop-field l = SoFar boot_field_pair l.fields l.fn.texts l.field-index l.texts l.rows
