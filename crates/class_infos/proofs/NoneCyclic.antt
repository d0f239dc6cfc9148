-- The first class of a program that is above itself, as classes are looked at by number.
use Rattle.std.proofs.Common.{◌≡◌, ℕ, ◌+◌, ◌<◌, ◌≤◌, Bool, true, false, cond, List, [], ◌∷◌, Option, Some, None, length, drop, slice_get, option_map, option_and_then, ap, sym, ◌∙◌, refl, if◌then◌else◌}
use Rattle.std.specs.Prelude.{filter}
use Rattle.std.proofs.lemmas.List.{length-map, at_drop_more, at_drop_all}
use Rattle.std.proofs.lemmas.Option.{slice_get-map, get_or_from_slice_get}
use Rattle.jv_model.specs.Partial.{or_else, first_of, fault_if}
use Rattle.jv_model.specs.Refusal.{Cause, cyclic}
use Rattle.world_model.specs.World as model
use Rattle.world_model.specs.World.{is_user, user_classes}
use Rattle.link_model.specs.SupertypeFaults.{is_cyclic, cycle_fault}
use Rattle.jv_types.specs.declared.boot.BootClass.{BootClass}
use Rattle.jv_types.specs.declared.loaded.Loaded.{Loaded}
use Rattle.jv_types.specs.declared.number.ClassNo.{ClassNo}
use Rattle.class_world.specs.declared.class_info.ClassInfo.{ClassInfo}
use Rattle.class_world.specs.declared.class_info.Origin.{Origin}
use Rattle.class_world.specs.declared.class_info.Origin.TheVariants.{Boot, Program}
use Rattle.class_world.specs.World.{class_of_origin, names_of_infos, world_of_infos, name_at, AreInfos}
use Rattle.class_world.proofs.Numbers.{name_at_place}
use Rattle.class_world.proofs.Places.{stands_inside}
use Rattle.class_infos.specs.Numbered.{user_fault, fault_at}

-- ---- the class of a number

module _ (infos : List ClassInfo) (k : ClassNo) (info : ClassInfo) (at : slice_get infos k.0 ≡ Some info) where
  abbrev world : model.World
  world = world_of_infos infos

  abbrev class : model.Class
  class = class_of_origin (names_of_infos infos) info.origin

  class_there : slice_get world.classes k.0 ≡ Some class
  class_there =
      slice_get-map (λ (i : ClassInfo). class_of_origin (names_of_infos infos) i.origin) infos k.0
      ∙ ap (option_map (λ (i : ClassInfo). class_of_origin (names_of_infos infos) i.origin)) at

  fault_is : fault_at world k.0 ≡ user_fault world class
  fault_is = ap (option_and_then (user_fault world)) class_there

  pub boot_has_none : (boot : BootClass) → info.origin ≡ Boot boot → None ≡ fault_at world k.0
  boot_has_none boot is = sym (fault_is ∙ ap (λ (o : Origin). user_fault world (class_of_origin (names_of_infos infos) o)) is)

  program_fault : (loaded : Loaded) → info.origin ≡ Program loaded → fault_at world k.0 ≡ cycle_fault world class
  program_fault loaded is =
      fault_is ∙ ap (λ (b : Bool). if b then cycle_fault world class else None)
      (ap (λ (o : Origin). is_user (class_of_origin (names_of_infos infos) o)) is)

  own_name : name_at world k ≡ class.name
  own_name = name_at_place world k.0 class class_there

  pub cyclic_is : (loaded : Loaded) → info.origin ≡ Program loaded → (AreInfos infos) → (test : Bool) → test ≡ is_cyclic world (name_at world k)
      → fault_if test (cyclic info.name.items) ≡ fault_at world k.0
  cyclic_is loaded is are test same =
      let fits = are.each_info k.0 info at in
      (λ i. fault_if ((same ∙ ap (is_cyclic world) own_name) i) (cyclic (fits.name i)))
      ∙ sym (program_fault loaded is)

-- ---- all classes in order

module _ (world : model.World) where
  only_users : (classes : List model.Class) → first_of (user_fault world) classes ≡ first_of (cycle_fault world) (filter is_user classes)
  only_users [] = refl
  only_users (class ∷ classes) = by (is_user class) (only_users classes)
    where
      by : (b : Bool) → first_of (user_fault world) classes ≡ first_of (cycle_fault world) (filter is_user classes)
          → or_else (if b then cycle_fault world class else None) (first_of (user_fault world) classes)
          ≡ first_of (cycle_fault world) (cond b (class ∷ filter is_user classes) (filter is_user classes))
      by true rest = ap (or_else (cycle_fault world class)) rest
      by false rest = rest

  -- what the classes that are left have, all have
  abbrev pub NoneCyclic : ℕ → Type 0
  NoneCyclic number = first_of (user_fault world) (drop number world.classes) ≡ first_of (cycle_fault world) (user_classes world)

  pub none_cyclic_yet : NoneCyclic 0
  none_cyclic_yet = only_users world.classes

  next_fault : (number : ℕ) → number < length world.classes → (class : model.Class) → slice_get world.classes number ≡ Some class
      → first_of (user_fault world) (drop number world.classes) ≡ or_else (fault_at world number) (first_of (user_fault world) (drop (number + 1) world.classes))
  next_fault number inside class at =
      at_drop_more (first_of (user_fault world)) world.classes number class inside
      ∙ ap (λ (o : Option Cause). or_else o (first_of (user_fault world) (drop (number + 1) world.classes)))
      (ap (user_fault world) (get_or_from_slice_get world.classes number class class at) ∙ sym (ap (option_and_then (user_fault world)) at))

  pub none_cyclic_here : (number : ℕ) → number < length world.classes → None ≡ fault_at world number → NoneCyclic number → NoneCyclic (number + 1)
  none_cyclic_here number inside none so_far =
      let there = stands_inside world.classes number inside in
      sym (next_fault number inside there.0 there.1
      ∙ ap (λ (o : Option Cause). or_else o (first_of (user_fault world) (drop (number + 1) world.classes))) (sym none)) ∙ so_far

  pub cyclic_here : (number : ℕ) (fault : Cause) → number < length world.classes → Some fault ≡ fault_at world number → NoneCyclic number
      → Some fault ≡ first_of (cycle_fault world) (user_classes world)
  cyclic_here number fault inside is so_far =
      let there = stands_inside world.classes number inside in
      sym (next_fault number inside there.0 there.1
      ∙ ap (λ (o : Option Cause). or_else o (first_of (user_fault world) (drop (number + 1) world.classes))) (sym is)) ∙ so_far

  pub none_cyclic_left : (number : ℕ) → length world.classes ≤ number → NoneCyclic number → None ≡ first_of (cycle_fault world) (user_classes world)
  none_cyclic_left number end so_far = sym (at_drop_all (first_of (user_fault world)) world.classes number end) ∙ so_far

pub class_count : (infos : List ClassInfo) → length (world_of_infos infos).classes ≡ length infos
class_count infos = length-map infos (λ (i : ClassInfo). class_of_origin (names_of_infos infos) i.origin)
