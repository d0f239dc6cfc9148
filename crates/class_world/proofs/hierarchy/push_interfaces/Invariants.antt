use Rattle.std.proofs.Common.{◌≡◌, ◌++◌, map, drop}
use Rattle.jv_types.specs.declared.number.ClassNo.{ClassNo}
use Rattle.class_world.proofs.hierarchy.push_interfaces.Given as goal

-- the numbers so far, and those of the interfaces that are left
abbrev pub invariant-loop-interface : goal.invariant-loop-interface
invariant-loop-interface l =
    l.row.items ++ map (λ (c : ClassNo). c.0) (drop l.interface-index l.interface-items)
    ≡ l.fn.row.items ++ map (λ (c : ClassNo). c.0) l.interface-items
