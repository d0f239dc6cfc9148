use Rattle.std.proofs.Common.{◌≡◌, ◌++◌, drop, map}
use Rattle.link_model.specs.Uses.{used, as_interface}
use Rattle.class_faults.specs.Uses.{uses_in}
use Rattle.class_faults.proofs.uses.push_interfaces.Given as goal

-- the uses so far, and those of what is left
abbrev pub invariant-loop-interface : goal.invariant-loop-interface
invariant-loop-interface l =
    uses_in l.uses.items ++ map (used as_interface) (drop l.interface-index l.interfaces) ≡ uses_in l.fn.uses.items ++ map (used as_interface) l.interfaces
