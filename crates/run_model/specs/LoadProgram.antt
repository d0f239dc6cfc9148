-- The program of a manifest: its text, its items in order with their files; then all is linked and verified.
use Rattle.std.specs.Prelude.{ℕ, List, Bool, true, false, Result, Ok, Err}
use Rattle.std.specs.List.{list_any}
use Rattle.jv_model.specs.Fallible.{unless}
use Rattle.jv_model.specs.Refusal.{Cause, manifest_line}
use Rattle.jv_model.specs.Limits.{most_file_bytes}
use Rattle.jv_model.specs.LoadedClass.{LoadedClass}
use Rattle.jv_model.specs.Outside.{Folder}
use Rattle.world_model.specs.BootTable.{boot_table}
use Rattle.world_model.specs.World.{World}
use Rattle.link_model.specs.Link.{linked}
use Rattle.typing_model.specs.FailingPlace.{world_failure}
use Rattle.text_model.specs.LineFaults.{Fault}
use Rattle.manifest_model.specs.Manifest.{Manifest, ManifestItem, class_item, update_item, manifest_of}
use Rattle.load_model.specs.Loading.{Loading, ◌>>=◌, yields, placed, file_at}
use Rattle.load_model.specs.LoadItems.{load_items}

-- A program that links and verifies.
pub record VerifiedProgram : Type 0 where
  pub world : World
  -- its manifest has updates, too
  pub has_updates : Bool

-- what a manifest says
abbrev pub or_line : Result Manifest Fault → Result Manifest Cause
or_line (Ok manifest) = Ok manifest
or_line (Err fault) = Err (manifest_line fault.0 fault.1)

abbrev pub is_update : ManifestItem → Bool
is_update (class_item item) = false
is_update (update_item item) = true

-- the world again, where each method of it is well typed
abbrev pub verified : World → Result World Cause
verified world = unless (world_failure world) world

-- the world of a program's classes; the refusal of a link, and the one of a world, have no item
abbrev pub verified_world : List ℕ → List LoadedClass → Loading World
verified_world main classes = do
  world ← placed 0 0 (linked boot_table classes main)
  placed 0 0 (verified world)

-- the program that the classes of a manifest make
abbrev pub verified_program : Manifest → List LoadedClass → Loading VerifiedProgram
verified_program manifest classes = do
  world ← verified_world manifest.main classes
  yields (record { world = world; has_updates = list_any is_update manifest.items })

-- the items of a manifest, and then that program
abbrev pub load_manifest : Folder → Manifest → Loading VerifiedProgram
load_manifest folder manifest =
    load_items folder 1 0 manifest.items >>= verified_program manifest

-- the program of a manifest's text
abbrev pub load_text : Folder → List ℕ → Loading VerifiedProgram
load_text folder text = placed 0 0 (or_line (manifest_of text)) >>= load_manifest folder

-- the program of the manifest in that file
unfoldable pub load_program : Folder → List ℕ → Loading VerifiedProgram
load_program folder name = file_at folder name most_file_bytes 0 0 >>= load_text folder
