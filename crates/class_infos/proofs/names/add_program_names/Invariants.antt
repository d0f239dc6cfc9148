use Rattle.std.proofs.Common.{◌≡◌, ◌++◌, map, drop}
use Rattle.jv_types.specs.Loaded.{loaded_of}
use Rattle.class_infos.specs.Numbered.{program_names}
use Rattle.class_infos.proofs.names.add_program_names.Given as goal

-- the names so far, and those of the classes that are left
abbrev pub invariant-loop-class : goal.invariant-loop-class
invariant-loop-class l =
    l.names ++ program_names (map loaded_of (drop l.class-index l.classes)) ≡ l.fn.names ++ program_names (map loaded_of l.classes)
