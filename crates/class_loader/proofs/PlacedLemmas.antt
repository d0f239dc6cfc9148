-- Readings that ask for no file.
use Rattle.std.proofs.Common.{◌≡◌, ℕ, List, Option, Result, Ok, Err, ap, ◌∙◌}
use Rattle.jv_model.specs.ClassData.{ClassData}
use Rattle.jv_model.specs.Code.{Body}
use Rattle.jv_model.specs.LoadedClass.{LoadedClass}
use Rattle.jv_model.specs.Outside.{Folder}
use Rattle.jv_model.specs.Refusal.{Cause}
use Rattle.manifest_model.specs.Items.{ClassItem}
use Rattle.load_model.specs.Loading.{Loading, ◌>>=◌, answers, loads, placed, refuses, yields}
use Rattle.load_model.specs.LoadClasses.{where_named}
use Rattle.load_model.specs.Reads.{Read}
use Rattle.class_loader.specs.declared.stop.Stop.{Stop}
use Rattle.class_loader.specs.declared.stop.Stop.TheVariants as stops
use Rattle.class_loader.specs.Loads.{IsLoaded}
use Rattle.class_loader.specs.Placed.{IsPlaced}
use Rattle.class_loader.proofs.Loaders.{unread, loads_here, stops_here, starves_here}

-- a reading without a file is a loader that asks for none
pub placed_is_loaded : {T A : Type 0} (view : T → A) (result : Result T Stop) (files : Read)
    (loading : Folder → Loading A) (read : Loading A) → ((folder : Folder) → loading folder ≡ read)
    → IsPlaced view result read → IsLoaded view result (unread files) loading
placed_is_loaded view (Ok x) files loading read each is =
    loads_here files loading (view x) (λ folder. each folder ∙ is)
placed_is_loaded view (Err (stops.Refused item sub cause)) files loading read each is =
    stops_here files loading item sub cause (λ folder. each folder ∙ is)
placed_is_loaded view (Err stops.ReadFault) files loading read each is = absurd is
placed_is_loaded view (Err stops.NoMemory) files loading read each is = starves_here files loading

-- what a reading stops at, those that go on with it stop at too
pub stops_then : {T U A B : Type 0} (view : T → A) (shown : U → B) (first : Loading A) (next : A → Loading B)
    (stop : Stop) → IsPlaced view (Err stop) first → IsPlaced shown (Err stop) (first >>= next)
stops_then view shown first next (stops.Refused item sub cause) is = ap (λ loading. loading >>= next) is
stops_then view shown first next stops.ReadFault is = absurd is
stops_then view shown first next stops.NoMemory is = tt

-- where the code of a file is read, its name is looked at
pub code_found : (number : ℕ) (asked : ClassItem) (file : ClassData) (read : Result (List (Option (Body ℕ))) Cause)
    (class : LoadedClass)
    → (placed number 0 read >>= λ codes. yields (record { file = file; codes = codes })) ≡ yields class
    → (placed number 0 read >>= λ codes. answers (where_named asked (record { file = file; codes = codes })))
    ≡ answers (where_named asked class)
code_found number asked file (Ok codes) class is =
    let same : loads (record { file = file; codes = codes }) ≡ loads class = ap (λ loading. loading.answer) is in
    let found : record { file = file; codes = codes } ≡ class = cc in
    ap (λ class. answers (where_named asked class)) found
code_found number asked file (Err cause) class is =
    let same : refuses number 0 cause ≡ loads class = ap (λ loading. loading.answer) is in absurd cc
