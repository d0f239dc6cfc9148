use Rattle.std.proofs.Common.{◌≡◌, ◌++◌, drop}
use Rattle.class_infos.specs.Numbered.{boot_names}
use Rattle.class_infos.proofs.names.add_boot_names.Given as goal

-- the names so far, and those of the classes that are left
abbrev pub invariant-loop-class : goal.invariant-loop-class
invariant-loop-class l = l.names ++ boot_names (drop l.class-index l.boot) ≡ l.fn.names ++ boot_names l.boot
