use Rattle.std.proofs.Common.{◌≡◌, ◌++◌, map, drop}
use Rattle.jv_types.specs.declared.number.ClassNo.{ClassNo}
use Rattle.class_world.proofs.hierarchy.numbered.Given as goal

-- the classes so far, and the numbers that are left
abbrev pub invariant-loop-number : goal.invariant-loop-number
invariant-loop-number l =
    map (λ (c : ClassNo). c.0) l.classes.items ++ drop l.number-index l.numbers ≡ l.numbers
