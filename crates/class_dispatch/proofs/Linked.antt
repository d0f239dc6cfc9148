-- A linked world has no name and no member twice.
use Rattle.std.proofs.Common.{◌≡◌, true, false, not, ◌&&◌, List, [], ◌∷◌, map, bytes_eq, sym, subst, ◌∙◌, refl}
use Rattle.std.specs.List.{list_all, AllByRecursion, IsDistinct}
use Rattle.std.proofs.lemmas.List.Folds.{list_all-append}
use Rattle.jv_model.specs.LoadedClass.{LoadedClass}
use Rattle.world_model.specs.World.{World, Class}
use Rattle.world_model.specs.BootTable.{boot_table}
use Rattle.link_model.specs.WorldOf.{class_of}
use Rattle.link_model.specs.ClassFaults.{has_twice, has_member_twice}
use Rattle.link_laws.specs.Above.{names_in}
use Rattle.link_laws.proofs.Theorems.{linked_program}
use Rattle.class_world.specs.World.{names_of, HaveMembersOnce}
use Rattle.class_dispatch.specs.Linked.{LinkedWorldsAreApart}

boot_members_once : list_all (λ (c : Class). not (has_member_twice c)) boot_table ≡ true
unfolding boot_table has_twice
boot_members_once = refl

read_members_once : (classes : List LoadedClass) → AllByRecursion (λ (l : LoadedClass). has_member_twice (class_of l) ≡ false) classes
    → list_all (λ (c : Class). not (has_member_twice c)) (map class_of classes) ≡ true
read_members_once [] once = refl
read_members_once (l ∷ classes) once =
    let rest = read_members_once classes once.1 in
    λ i. not (once.0 i) && rest i

distinct : (world : World) → IsDistinct bytes_eq (names_in world.classes) → IsDistinct bytes_eq (names_of world)
unfolding names_in
distinct world once = once

pub linked_apart : LinkedWorldsAreApart
linked_apart world linked =
    let is = linked_program linked.classes linked.main world linked.links in
    let own = read_members_once linked.classes is.members_once in (
      distinct world is.once,
      subst HaveMembersOnce (sym is.is)
          (list_all-append (λ (c : Class). not (has_member_twice c)) boot_table (map class_of linked.classes)
          ∙ (λ i. boot_members_once i && own i)),
    )
