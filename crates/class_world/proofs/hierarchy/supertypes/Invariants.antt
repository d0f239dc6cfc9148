use Rattle.std.proofs.Common.{◌≡◌, ◌++◌, map, drop}
use Rattle.class_world.specs.World.{supertypes_of}
use Rattle.class_world.proofs.hierarchy.supertypes.Given as goal

-- the rows so far, and those of the classes that are left
abbrev pub invariant-loop-class : goal.invariant-loop-class
invariant-loop-class l =
    map (λ row. row.items) l.rows.items ++ map supertypes_of (drop l.class-index l.classes) ≡ map supertypes_of l.classes
