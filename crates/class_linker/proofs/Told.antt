-- What the passes of a call tell, of the program that it was given.
use Rattle.std.proofs.Common.{◌≡◌, List, Option, Some, None, map, option_map, ap, sym, ◌∙◌}
use Rattle.jv_model.specs.Refusal as model
use Rattle.jv_model.specs.Partial.{first_of}
use Rattle.world_model.specs.World.{World, user_classes}
use Rattle.world_model.specs.BootTable.{boot_table}
use Rattle.link_model.specs.WorldOf.{world_of}
use Rattle.link_model.specs.SupertypeFaults.{cycle_fault}
use Rattle.jv_types.specs.Boot.{boot_classes_of}
use Rattle.jv_types.specs.Loaded.{loaded_of}
use Rattle.jv_types.specs.Refusal.{cause_of}
use Rattle.jv_types.specs.declared.boot.BootClass.{BootClass}
use Rattle.jv_types.specs.declared.loaded.Loaded.{Loaded}
use Rattle.jv_types.specs.declared.refusal.Cause.{Cause}
use Rattle.class_world.specs.declared.class_info.ClassInfo.{ClassInfo}
use Rattle.class_world.specs.World.{world_of_infos}

-- a fault that is told, and none
pub some_told : (told : Option Cause) (cause : Cause) (fault : Option model.Cause) → told ≡ Some cause → option_map cause_of told ≡ fault
    → Some (cause_of cause) ≡ fault
some_told told cause fault is same = sym (ap (option_map cause_of) is) ∙ same

pub none_told : (told : Option Cause) (fault : Option model.Cause) → told ≡ None → option_map cause_of told ≡ fault → None ≡ fault
none_told told fault is same = sym (ap (option_map cause_of) is) ∙ same

-- the world of what slices lend
pub lent_world : (boot lent_boot : List BootClass) (classes lent : List Loaded) → boot_classes_of boot ≡ boot_table → lent_boot ≡ boot → lent ≡ classes
    → world_of (boot_classes_of lent_boot) (map loaded_of lent) ≡ world_of boot_table (map loaded_of classes)
lent_world boot lent_boot classes lent is_table same_boot same =
    λ i. world_of ((ap boot_classes_of same_boot ∙ is_table) i) (map loaded_of (same i))

pub cycles_told : (told : Option Cause) (infos lent : List ClassInfo) (world : World) → lent ≡ infos → world_of_infos infos ≡ world
    → option_map cause_of told ≡ first_of (cycle_fault (world_of_infos lent)) (user_classes (world_of_infos lent))
    → option_map cause_of told ≡ first_of (cycle_fault world) (user_classes world)
cycles_told told infos lent world same is found =
    found ∙ ap (λ (w : World). first_of (cycle_fault w) (user_classes w)) (ap world_of_infos same ∙ is)
