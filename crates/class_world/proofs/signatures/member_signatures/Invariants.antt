use Rattle.jv_types.specs.ClassData.{pool_of}
use Rattle.class_world.specs.Signatures.{member_pair}
use Rattle.class_world.proofs.Spelling.{SoFar}
use Rattle.class_world.proofs.signatures.member_signatures.Given as goal

-- those so far are spelled, and none of them stands twice
abbrev pub invariant-loop-member : goal.invariant-loop-member
invariant-loop-member l = SoFar (member_pair (pool_of l.pool)) l.members l.fn.texts l.member-index l.texts l.rows
