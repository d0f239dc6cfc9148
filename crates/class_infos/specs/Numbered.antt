-- What the classes of a world say, boot classes first, and what is wrong with the class of a number.
use Rattle.std.specs.Prelude.{◌≡◌, ℕ, List, Option, None, map, slice_get, option_and_then, if◌then◌else◌}
use Rattle.std.specs.List.{filter_map}
use Rattle.jv_model.specs.LoadedClass.{LoadedClass}
use Rattle.jv_model.specs.Refusal.{Cause}
use Rattle.world_model.specs.World.{Class, World, is_user}
use Rattle.code_model.specs.Names.{class_name_at}
use Rattle.link_model.specs.WorldOf.{name_of}
use Rattle.link_model.specs.SupertypeFaults.{cycle_fault}
use Rattle.jv_types.specs.Boot.{NumberedClass, numbered_class_of}
use Rattle.jv_types.specs.declared.boot.BootClass.{BootClass}
use Rattle.class_world.specs.declared.class_info.ClassInfo.{ClassInfo}
use Rattle.class_world.specs.Parts.{InfoParts, of_boot, of_program}
use Rattle.class_world.specs.World.{names_of, number_in, world_of_infos, AreInfos}

abbrev pub boot_names : List BootClass → List (List ℕ)
boot_names boot = map (λ (c : NumberedClass). c.name) (map numbered_class_of boot)

abbrev pub program_names : List LoadedClass → List (List ℕ)
program_names classes = map name_of classes

-- a boot class has the numbers of its supertypes
abbrev pub boot_parts : BootClass → InfoParts
boot_parts class = record {
  name = class.name.items;
  superclass = class.superclass;
  interfaces = class.interfaces.items;
  source = of_boot (numbered_class_of class);
}

-- a class of the program has the numbers of those supertypes that are there
abbrev pub program_parts : List (List ℕ) → LoadedClass → InfoParts
program_parts names loaded = record {
  name = name_of loaded;
  superclass = number_in names (class_name_at loaded.file.pool loaded.file.super_class);
  interfaces = filter_map (number_in names) (map (class_name_at loaded.file.pool) loaded.file.interfaces);
  source = of_program loaded;
}

-- The classes of a world by number, and their names.
pub record AreNumbered (world : World) (names : List (List ℕ)) (infos : List ClassInfo) : Type 0 where
  pub infos_are : AreInfos infos
  pub world_is : world_of_infos infos ≡ world
  pub names_are : names ≡ names_of world

-- a class of the program that is above itself
abbrev pub user_fault : World → Class → Option Cause
user_fault world class = if is_user class then cycle_fault world class else None

abbrev pub fault_at : World → ℕ → Option Cause
fault_at world number = option_and_then (user_fault world) (slice_get world.classes number)
