-- A world that was linked of classes that were read (JVMS 5.3, 5.4).
use Rattle.std.specs.Prelude.{◌≡◌, ℕ, List, Ok}
use Rattle.std.specs.List.{AllByRecursion}
use Rattle.jv_model.specs.LoadedClass.{LoadedClass}
use Rattle.jv_model.specs.Profile.{IsInProfile}
use Rattle.world_model.specs.World.{World}
use Rattle.world_model.specs.BootTable.{boot_table}
use Rattle.code_model.specs.CodeReading.{load_of}
use Rattle.link_model.specs.Link.{linked}

-- A class as loading gives it: its file is one of the profile, and its code is what is read of it.
pub record IsReadClass (loaded : LoadedClass) : Type 0 where
  pub in_profile : IsInProfile loaded.file
  pub code_read : load_of loaded.file ≡ Ok loaded.codes

-- It's what some classes that were read link to, on the boot classes.
pub record IsLinkedWorld (world : World) : Type 0 where
  pub classes : List LoadedClass
  pub main : List ℕ
  pub links : linked boot_table classes main ≡ Ok world
  pub read : AllByRecursion IsReadClass classes
