use Rattle.std.proofs.Common.{[], map, drop}
use Rattle.link_model.specs.WorldOf.{class_of}
use Rattle.link_model.specs.ClassFaults.{first_twice}
use Rattle.jv_types.specs.Loaded.{loaded_of}
use Rattle.class_infos.proofs.NoneTwice.{NoneTwice}
use Rattle.class_infos.proofs.twice.first_twice.Given as goal

-- no class so far stands twice
abbrev pub invariant-loop-class : goal.invariant-loop-class
invariant-loop-class l =
    NoneTwice l.names (map class_of (map loaded_of (drop l.class-index l.classes))) (first_twice [] (map class_of (map loaded_of l.classes)))
