use Rattle.std.proofs.Common.{◌≡◌, ◌++◌, map, drop}
use Rattle.std.specs.List.{filter_map}
use Rattle.code_model.specs.Names.{class_name_at}
use Rattle.jv_types.specs.ClassData.{pool_of}
use Rattle.class_world.specs.World.{number_in}
use Rattle.class_infos.proofs.programs.interface_numbers.Given as goal

-- the numbers so far, and those of the interfaces that are left
abbrev pub invariant-loop-interface : goal.invariant-loop-interface
invariant-loop-interface l =
    l.numbers.items ++ filter_map (number_in l.names) (map (class_name_at (pool_of l.pool)) (drop l.interface-index l.interfaces))
    ≡ filter_map (number_in l.names) (map (class_name_at (pool_of l.pool)) l.interfaces)
