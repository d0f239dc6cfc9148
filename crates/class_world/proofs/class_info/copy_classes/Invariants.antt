use Rattle.std.proofs.Common.{◌≡◌, ◌++◌, map, drop}
use Rattle.class_world.specs.Parts.{parts_of}
use Rattle.class_world.proofs.class_info.copy_classes.Given as goal

-- the copies, and the classes that are left
abbrev pub invariant-loop-class : goal.invariant-loop-class
invariant-loop-class l = map parts_of l.copies.items ++ map parts_of (drop l.class-index l.classes) ≡ map parts_of l.classes
