use Rattle.std.proofs.Common.{map, take}
use Rattle.jv_types.specs.ClassData.{pool_of}
use Rattle.class_world.specs.Signatures.{member_pair}
use Rattle.class_methods.specs.Filling.{AddsMethods}
use Rattle.class_methods.proofs.filling.add_read.Given as goal

-- those of the methods so far are added
abbrev pub invariant-loop-method : goal.invariant-loop-method
invariant-loop-method l =
    AddsMethods l.fn.filling l.filling l.fn.row.items l.row.items (map (member_pair (pool_of l.pool)) (take l.method-index l.methods))
