-- What items bring to the classes of the items before them.
use Rattle.std.specs.Prelude.{◌≡◌, ℕ, ◌+◌, List, ◌∷◌, ◌++◌, IfSome, Result, MatchResult, map}
use Rattle.std.specs.List.{AllByRecursion}
use Rattle.jv_model.specs.LoadedClass.{LoadedClass}
use Rattle.jv_model.specs.Outside.{Folder}
use Rattle.jv_types.specs.declared.loaded.Loaded.{Loaded}
use Rattle.jv_types.specs.Loaded.{loaded_of}
use Rattle.jv_types.specs.Sequence.{Sequence}
use Rattle.manifest_model.specs.Items.{ClassItem}
use Rattle.manifest_model.specs.Manifest.{ManifestItem, class_item}
use Rattle.linked_laws.specs.Worlds.{IsReadClass}
use Rattle.load_model.specs.Loading.{Answer, loads, refuses, misses, Loading, behind_names}
use Rattle.load_model.specs.LoadItems.{load_items}
use Rattle.load_model.specs.Reads.{Read}
use Rattle.class_loader.specs.declared.items.Gathered.{Gathered}
use Rattle.class_loader.specs.declared.stop.Stop.{Stop}
use Rattle.class_loader.specs.Loads.{StopsAt}

abbrev pub classes_of : List Loaded → List LoadedClass
classes_of classes = map loaded_of classes

abbrev pub classes_in : Sequence Loaded → List LoadedClass
classes_in classes = classes_of classes.items

-- they are of the profile, with the code that their files have
abbrev pub AreRead : Sequence Loaded → Type 0
AreRead classes = AllByRecursion IsReadClass (classes_in classes)

-- these classes, and then what loading comes to
abbrev pub answer_behind : List LoadedClass → Answer (List LoadedClass) → Answer (List LoadedClass)
answer_behind front (loads rest) = loads (front ++ rest)
answer_behind front (refuses item sub cause) = refuses item sub cause
answer_behind front misses = misses

abbrev pub behind_classes : List LoadedClass → Loading (List LoadedClass) → Loading (List LoadedClass)
behind_classes front loading =
    record { asked = loading.asked; answer = answer_behind front loading.answer }

-- Loading came so far: it brought these classes, asked for their files, and goes on with the rest.
pub record CameSoFar (files : Read) (whole rest : Folder → Loading (List LoadedClass))
    (front : List LoadedClass) : Type 0 where
  pub faults : files.faults_after ≡ files.faults_before
  pub told : IfSome files.folder (λ folder. (names : List (List ℕ))
      × (files.asked_after ≡ files.asked_before ++ names)
      × (whole folder ≡ behind_names names (behind_classes front (rest folder))))

-- The item with that number was added, whatever the others are, or loading stops at it.
abbrev pub AddsItem : Result (Unit {0}) Stop → Read → ℕ → ManifestItem → Gathered → Gathered → Type 0
AddsItem result files number item before after =
    (others : List ManifestItem)
    → MatchResult result
    (λ done. (added : List LoadedClass)
    × (classes_in after.classes ≡ classes_in before.classes ++ added)
    × CameSoFar files (λ folder. load_items folder number before.bytes (item ∷ others))
    (λ folder. load_items folder (number + 1) after.bytes others) added)
    (λ stop. StopsAt files (λ folder. load_items folder number before.bytes (item ∷ others)) stop)

abbrev pub AddsClass : Result (Unit {0}) Stop → Read → ℕ → ClassItem → Gathered → Gathered → Type 0
AddsClass result files number item before after =
    AddsItem result files number (class_item item) before after
