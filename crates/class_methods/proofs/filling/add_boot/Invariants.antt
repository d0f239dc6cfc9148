use Rattle.std.proofs.Common.{map, take}
use Rattle.class_world.specs.Signatures.{boot_method_pair}
use Rattle.class_methods.specs.Filling.{AddsMethods}
use Rattle.class_methods.proofs.filling.add_boot.Given as goal

-- those of the methods so far are added
abbrev pub invariant-loop-method : goal.invariant-loop-method
invariant-loop-method l =
    AddsMethods l.fn.filling l.filling l.fn.row.items l.row.items (map boot_method_pair (take l.method-index l.methods))
