use Rattle.std.proofs.Common.{◌≡◌, ◌++◌, drop, map}
use Rattle.link_model.specs.Uses.{used}
use Rattle.class_faults.specs.Uses.{uses_in, use_of}
use Rattle.class_faults.proofs.uses.push_descriptors.Given as goal

-- the uses so far, and those of what is left
abbrev pub invariant-loop-member : goal.invariant-loop-member
invariant-loop-member l =
    uses_in l.uses.items ++ map (λ member. used (use_of l.use_as) member.descriptor) (drop l.member-index l.members) ≡ uses_in l.fn.uses.items ++ map (λ member. used (use_of l.use_as) member.descriptor) l.members
