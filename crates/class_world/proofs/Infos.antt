-- What a `World` says of a class by its number.
use Rattle.std.proofs.Common.{◌≡◌, ℕ, List, Some, slice_get, option_map, ap, ◌∙◌}
use Rattle.std.proofs.lemmas.Option.{slice_get-map}
use Rattle.world_model.specs.World as model
use Rattle.class_world.specs.declared.class_info.ClassInfo.{ClassInfo}
use Rattle.class_world.specs.World.{class_of_origin, names_of_infos, world_of_infos, IsInfo}

abbrev pub HasInfo : model.World → ℕ → ClassInfo → Type 0
HasInfo world k info = (class : model.Class) × (slice_get world.classes k ≡ Some class) × IsInfo world class info

pub info_at : (infos : List ClassInfo) (k : ℕ) (info : ClassInfo)
    → ((k : ℕ) (info : ClassInfo) → slice_get infos k ≡ Some info
    → IsInfo (world_of_infos infos) (class_of_origin (names_of_infos infos) info.origin) info)
    → slice_get infos k ≡ Some info → HasInfo (world_of_infos infos) k info
info_at infos k info each at =
    let class_of = λ (i : ClassInfo). class_of_origin (names_of_infos infos) i.origin in
    (class_of info, slice_get-map class_of infos k ∙ ap (option_map class_of) at, each k info at)
