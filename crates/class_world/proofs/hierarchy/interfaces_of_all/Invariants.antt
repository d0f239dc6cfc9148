use Rattle.std.proofs.Common.{◌≡◌, ◌++◌, drop, flat_map}
use Rattle.class_world.specs.Hierarchy.{interfaces_at}
use Rattle.class_world.proofs.hierarchy.interfaces_of_all.Given as goal

-- the interfaces so far, and those of the classes that are left
abbrev pub invariant-loop-number : goal.invariant-loop-number
invariant-loop-number l =
    l.row.items ++ flat_map (interfaces_at l.classes) (drop l.number-index l.numbers)
    ≡ flat_map (interfaces_at l.classes) l.numbers
