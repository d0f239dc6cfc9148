-- What a program of which the passes so far found nothing wrong has in its world.
use Rattle.std.proofs.Common.{◌≡◌, ℕ, true, false, not, ◌&&◌, List, [], ◌∷◌, None, map, bytes_eq, IsTrue, inl, inr, ap, sym, subst, ◌∙◌, refl}
use Rattle.std.specs.List.{list_all, AllByRecursion, IsDistinct}
use Rattle.std.proofs.lemmas.Bool.{both_ways, false_from_ne_true}
use Rattle.std.proofs.lemmas.List.Folds.{list_all-append}
use Rattle.jv_model.specs.Partial.{first_of}
use Rattle.jv_model.specs.Refusal.{reserved}
use Rattle.jv_model.specs.LoadedClass.{LoadedClass}
use Rattle.world_model.specs.World.{Class, World, class_in, user_classes}
use Rattle.world_model.specs.BootNames.{is_reserved}
use Rattle.world_model.specs.BootTable.{boot_table}
use Rattle.link_model.specs.WorldOf.{class_of, name_of, world_of}
use Rattle.link_model.specs.ClassFaults.{reserved_fault, first_twice, has_twice, has_member_twice}
use Rattle.link_model.specs.SupertypeFaults.{cycle_fault, is_cyclic}
use Rattle.link_laws.specs.Above.{IsAbove, names_in}
use Rattle.link_laws.specs.Linked.{world_with}
use Rattle.link_laws.proofs.Above.{first_step, below_is_there}
use Rattle.link_laws.proofs.BootTable.{boot_table_is_base}
use Rattle.link_laws.proofs.Cycles.{is_cyclic_is_above_itself}
use Rattle.link_laws.proofs.LinkedWorlds.{fine_cycle}
use Rattle.link_laws.proofs.Lists.{all_weaker, all_of_map, passes_some, some_passes}
use Rattle.link_laws.proofs.Passes.{first_of_none, fault_if_none}
use Rattle.link_laws.proofs.Programs.{all_once, none_twice, users_are, found_where, boot_above}
use Rattle.class_world.specs.World.{names_of, IsAcyclic, HaveMembersOnce}

-- ---- names

-- names that aren't kept, each once, differ from those of the boot classes
pub names_apart : (loaded : List LoadedClass) → first_of reserved_fault (map class_of loaded) ≡ None → first_twice [] (map class_of loaded) ≡ None
    → IsDistinct bytes_eq (names_of (world_of boot_table loaded))
unfolding names_in
names_apart loaded free once =
    all_once boot_table (map class_of loaded) boot_table_is_base
    (all_weaker (λ (c : Class). reserved_fault c ≡ None) (λ (c : Class). is_reserved c.name ≡ false) (map class_of loaded)
    (λ c none. fault_if_none (is_reserved c.name) (reserved c.name) none) (first_of_none reserved_fault (map class_of loaded) free))
    (none_twice [] (map class_of loaded) once).distinct

-- ---- members

boot_members_once : IsTrue (list_all (λ (c : Class). not (has_member_twice c)) boot_table)
unfolding boot_table has_twice
boot_members_once = refl

all_once_each : (classes : List Class) → AllByRecursion (λ (c : Class). has_member_twice c ≡ false) classes → IsTrue (list_all (λ (c : Class). not (has_member_twice c)) classes)
all_once_each [] all = refl
all_once_each (class ∷ classes) all =
    let rest = all_once_each classes all.1 in
    λ i. not (all.0 i) && rest i

pub members_once : (loaded : List LoadedClass) → first_twice [] (map class_of loaded) ≡ None → HaveMembersOnce (world_of boot_table loaded)
members_once loaded once =
    let own = all_once_each (map class_of loaded) (none_twice [] (map class_of loaded) once).members in
    list_all-append (λ (c : Class). not (has_member_twice c)) boot_table (map class_of loaded)
    ∙ (λ i. boot_members_once i && own i)

-- ---- cycles

abbrev IsOff : World → LoadedClass → Type 0
IsOff world loaded = is_cyclic world (name_of loaded) ≡ false

not_above : (loaded : List LoadedClass) → AllByRecursion (IsOff (world_of boot_table loaded)) loaded → (name : List ℕ)
    → IsAbove (world_of boot_table loaded) name name → ⊥
not_above loaded off name above =
    let world = world_of boot_table loaded in
    let step = first_step world name name above in
    let found = passes_some (λ (c : Class). true) (class_in world name) (below_is_there world name step.0 step.1) in
    elim (found_where boot_table loaded (IsOff world) name found.0 off found.1) [
      | inl boot ↦
          boot_table_is_base.sound.acyclic name
          (boot_above boot_table loaded name name boot_table_is_base (some_passes (λ (c : Class). true) (class_in (world_with boot_table) name) found.0 boot refl) above)
      | inr user ↦
          both_ways _ (ap (is_cyclic world) (sym user.named) ∙ user.holds) ((is_cyclic_is_above_itself world name).1 above)
    ]

pub none_above_itself : (loaded : List LoadedClass)
    → first_of (cycle_fault (world_of boot_table loaded)) (user_classes (world_of boot_table loaded)) ≡ None → IsAcyclic (world_of boot_table loaded)
none_above_itself loaded none name =
    let world = world_of boot_table loaded in
    let each = all_of_map (λ (c : Class). cycle_fault world c ≡ None) class_of loaded
    (subst (AllByRecursion (λ (c : Class). cycle_fault world c ≡ None)) (users_are boot_table loaded boot_table_is_base) (first_of_none (cycle_fault world) (user_classes world) none)) in
    let off = all_weaker (λ (l : LoadedClass). cycle_fault world (class_of l) ≡ None) (IsOff world) loaded (λ l e. fine_cycle world l e) each in
    false_from_ne_true (is_cyclic world name) (λ cyclic. not_above loaded off name ((is_cyclic_is_above_itself world name).0 cyclic))
