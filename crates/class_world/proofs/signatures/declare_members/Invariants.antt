use Rattle.class_world.proofs.Declaring.{DeclaredSoFar}
use Rattle.class_world.proofs.signatures.declare_members.Given as goal

-- the members of the classes so far are declared
abbrev pub invariant-loop-class : goal.invariant-loop-class
invariant-loop-class l = DeclaredSoFar l.classes l.class-index l.texts l.fields.items l.methods.items
