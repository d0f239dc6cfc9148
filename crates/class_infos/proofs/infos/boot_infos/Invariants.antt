use Rattle.std.proofs.Common.{◌≡◌, ◌++◌, map, drop}
use Rattle.class_world.specs.Parts.{parts_of}
use Rattle.class_infos.specs.Numbered.{boot_parts}
use Rattle.class_infos.proofs.infos.boot_infos.Given as goal

-- the classes so far, and those that are left
abbrev pub invariant-loop-class : goal.invariant-loop-class
invariant-loop-class l = map parts_of l.infos.items ++ map boot_parts (drop l.class-index l.boot) ≡ map boot_parts l.boot
