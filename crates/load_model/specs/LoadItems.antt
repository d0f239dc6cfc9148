-- The items of a manifest in order, each directly after the one before it.
use Rattle.std.specs.Prelude.{ℕ, ◌+◌, List, [], ◌∷◌}
use Rattle.jv_model.specs.Outside.{Folder}
use Rattle.jv_model.specs.LoadedClass.{LoadedClass}
use Rattle.manifest_model.specs.Manifest.{ManifestItem, class_item, update_item}
use Rattle.load_model.specs.Loading.{Loading, ◌>>=◌, yields}
use Rattle.load_model.specs.LoadClasses.{load_class}

-- The classes of the items from that number on, behind class files of so many bytes. Updates have their numbers, and
-- bring no class.
unfoldable pub load_items : Folder → ℕ → ℕ → List ManifestItem → Loading (List LoadedClass)
load_items folder number before [] = yields []
load_items folder number before (class_item asked ∷ others) = do
  first ← load_class folder number before asked
  rest ← load_items folder (number + 1) first.1 others
  yields (first.0 ∷ rest)
load_items folder number before (update_item asked ∷ others) = load_items folder (number + 1) before others
