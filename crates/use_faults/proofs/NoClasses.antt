-- A world of no classes.
use Rattle.std.proofs.Common.{◌≡◌, List, [], refl, subst, sym}
use Rattle.std.specs.List.{IsDistinct}
use Rattle.link_model.specs.SupertypeFaults.{with_above}
use Rattle.class_world.specs.World.{AreInfos, IsAcyclic, world_of_infos}
use Rattle.class_world.specs.declared.class_info.ClassInfo.{ClassInfo}

none_are : AreInfos []
unfolding IsDistinct
none_are = record { each_info = λ k info at. absurd cc; names_apart = tt }

none_above : IsAcyclic (world_of_infos [])
unfolding with_above
none_above name = refl

pub no_infos : (infos : List ClassInfo) → infos ≡ [] → AreInfos infos
no_infos infos none = subst AreInfos (sym none) none_are

pub no_cycle : (infos : List ClassInfo) → infos ≡ [] → IsAcyclic (world_of_infos infos)
no_cycle infos none = subst (λ (is : List ClassInfo). IsAcyclic (world_of_infos is)) (sym none) none_above
