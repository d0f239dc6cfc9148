-- Linking in parts: what is wrong with classes by themselves, and what is wrong with those of a world.
use Rattle.std.specs.Prelude.{◌≡◌, ℕ, List, [], Option, Result, Ok, Err, map}
use Rattle.jv_model.specs.Partial.{or_else, first_of}
use Rattle.jv_model.specs.Refusal as model
use Rattle.jv_model.specs.LoadedClass.{LoadedClass}
use Rattle.world_model.specs.World.{World, user_classes, loaded_classes}
use Rattle.link_model.specs.WorldOf.{class_of}
use Rattle.link_model.specs.ClassFaults.{reserved_fault, first_twice, method_fault}
use Rattle.link_model.specs.DescriptorFaults.{descriptor_fault}
use Rattle.link_model.specs.SupertypeFaults.{final_fault}
use Rattle.link_model.specs.UseFaults.{use_fault}
use Rattle.link_model.specs.Link.{main_fault}
use Rattle.jv_types.specs.Refusal.{cause_of}
use Rattle.class_linker.specs.declared.error.LinkError.{LinkError}
use Rattle.class_linker.specs.declared.error.LinkError.TheVariants.{Refused, NoMemory}

-- what is wrong first with a program's classes by themselves
abbrev pub own_fault : List LoadedClass → Option model.Cause
own_fault loaded =
    or_else (first_of reserved_fault (map class_of loaded)) (or_else (first_twice [] (map class_of loaded))
    (or_else (first_of descriptor_fault loaded) (first_of method_fault (map class_of loaded))))

-- what is wrong first with the uses of a world's classes, with what is final, and with the main class
abbrev pub use_fault_of : World → List ℕ → Option model.Cause
use_fault_of world main =
    or_else (first_of (use_fault world) (loaded_classes (user_classes world)))
    (or_else (first_of (final_fault world) (user_classes world)) (main_fault world main))

-- The world that is linked, or the refusal.
abbrev pub LinksAs : Result World model.Cause → Result World LinkError → Type 0
LinksAs fate (Ok world) = fate ≡ Ok world
LinksAs fate (Err (Refused cause)) = fate ≡ Err (cause_of cause)
LinksAs fate (Err NoMemory) = Unit {0}
