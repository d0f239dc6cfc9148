use Rattle.std.proofs.Common.{◌≡◌, ◌++◌, map, drop}
use Rattle.jv_types.specs.Loaded.{loaded_of}
use Rattle.class_world.specs.Parts.{parts_of}
use Rattle.class_infos.specs.Numbered.{program_parts}
use Rattle.class_infos.proofs.programs.push_programs.Given as goal

-- the classes so far, and those that are left
abbrev pub invariant-loop-class : goal.invariant-loop-class
invariant-loop-class l =
    map parts_of l.infos.items ++ map (program_parts l.names) (map loaded_of (drop l.class-index l.classes))
    ≡ map parts_of l.fn.infos.items ++ map (program_parts l.names) (map loaded_of l.classes)
