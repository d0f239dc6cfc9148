use Rattle.std.proofs.Common.{◌≡◌, drop}
use Rattle.std.specs.List.{find}
use Rattle.link_model.specs.WorldOf.{class_of}
use Rattle.run_model.specs.Later.{is_main}
use Rattle.jv_types.specs.Loaded.{loaded_of}
use Rattle.straight_line.proofs.main_code.code_of_main.Given as goal

-- main is the first among those that are left
abbrev pub invariant-loop-index : goal.invariant-loop-index
invariant-loop-index l =
    find is_main (drop l.index (class_of (loaded_of l.class)).methods)
    ≡ find is_main (class_of (loaded_of l.class)).methods
