-- The first fault of a program, from those that the passes find.
use Rattle.std.proofs.Common.{◌≡◌, ℕ, List, [], Option, Some, None, Ok, Err, map, ap, sym, ◌∙◌, refl}
use Rattle.jv_model.specs.Partial.{first_of, or_else}
use Rattle.jv_model.specs.Fallible.{unless}
use Rattle.jv_model.specs.Refusal.{Cause}
use Rattle.jv_model.specs.LoadedClass.{LoadedClass}
use Rattle.world_model.specs.World.{World, user_classes, loaded_classes}
use Rattle.world_model.specs.BootTable.{boot_table}
use Rattle.link_model.specs.WorldOf.{class_of, world_of}
use Rattle.link_model.specs.ClassFaults.{reserved_fault, first_twice, method_fault}
use Rattle.link_model.specs.DescriptorFaults.{descriptor_fault}
use Rattle.link_model.specs.SupertypeFaults.{cycle_fault, final_fault}
use Rattle.link_model.specs.UseFaults.{use_fault}
use Rattle.link_model.specs.Link.{classes_fault, main_fault, world_fault, linked}
use Rattle.link_laws.proofs.BootTable.{boot_table_is_base}
use Rattle.link_laws.proofs.Passes.{or_else_none, or_else_first, or_else_second}
use Rattle.link_laws.proofs.Programs.{users_are, loaded_are}
use Rattle.class_linker.specs.Linking.{own_fault, use_fault_of}

module _ (loaded : List LoadedClass) (main : List ℕ) where
  abbrev world : World
  world = world_of boot_table loaded

  -- the tests of classes by themselves, then cycles, then the rest
  in_parts : (reserved once descriptors methods cycles uses finals started : Option Cause)
      → or_else (or_else reserved (or_else once (or_else descriptors (or_else methods (or_else cycles (or_else uses finals)))))) started
      ≡ or_else (or_else reserved (or_else once (or_else descriptors methods))) (or_else cycles (or_else uses (or_else finals started)))
  in_parts (Some cause) once descriptors methods cycles uses finals started = refl
  in_parts None (Some cause) descriptors methods cycles uses finals started = refl
  in_parts None None (Some cause) methods cycles uses finals started = refl
  in_parts None None None (Some cause) cycles uses finals started = refl
  in_parts None None None None (Some cause) uses finals started = refl
  in_parts None None None None None (Some cause) finals started = refl
  in_parts None None None None None None finals started = refl

  same_own : or_else (first_of reserved_fault (user_classes world)) (or_else (first_twice [] (user_classes world))
      (or_else (first_of descriptor_fault (loaded_classes (user_classes world))) (first_of method_fault (user_classes world)))) ≡ own_fault loaded
  same_own =
      (λ i. or_else (first_of reserved_fault (users_are boot_table loaded boot_table_is_base i)) (or_else (first_twice [] (users_are boot_table loaded boot_table_is_base i))
      (or_else (first_of descriptor_fault (loaded_classes (users_are boot_table loaded boot_table_is_base i))) (first_of method_fault (users_are boot_table loaded boot_table_is_base i)))))
      ∙ ap (λ (l : List LoadedClass). or_else (first_of reserved_fault (map class_of loaded)) (or_else (first_twice [] (map class_of loaded))
      (or_else (first_of descriptor_fault l) (first_of method_fault (map class_of loaded))))) (loaded_are loaded)

  pub fault_is : world_fault world main
      ≡ or_else (own_fault loaded) (or_else (first_of (cycle_fault world) (user_classes world)) (use_fault_of world main))
  unfolding world_fault classes_fault
  fault_is =
      in_parts (first_of reserved_fault (user_classes world)) (first_twice [] (user_classes world)) (first_of descriptor_fault (loaded_classes (user_classes world)))
      (first_of method_fault (user_classes world)) (first_of (cycle_fault world) (user_classes world)) (first_of (use_fault world) (loaded_classes (user_classes world)))
      (first_of (final_fault world) (user_classes world)) (main_fault world main)
      ∙ ap (λ (own : Option Cause). or_else own (or_else (first_of (cycle_fault world) (user_classes world)) (use_fault_of world main))) same_own

  linked_is : (fault : Option Cause) → world_fault world main ≡ fault → linked boot_table loaded main ≡ unless fault world
  unfolding linked
  linked_is fault is = ap (λ (f : Option Cause). unless f world) is

  -- ---- which fault is told

  pub own_refused : (cause : Cause) → Some cause ≡ own_fault loaded → linked boot_table loaded main ≡ Err cause
  own_refused cause is = linked_is (Some cause) (fault_is ∙ or_else_first _ _ cause (sym is))

  pub cycle_refused : (cause : Cause) → None ≡ own_fault loaded → Some cause ≡ first_of (cycle_fault world) (user_classes world)
      → linked boot_table loaded main ≡ Err cause
  cycle_refused cause own is = linked_is (Some cause) (fault_is ∙ or_else_second _ _ (sym own) ∙ or_else_first _ _ cause (sym is))

  pub use_refused : (cause : Cause) → None ≡ own_fault loaded → None ≡ first_of (cycle_fault world) (user_classes world) → Some cause ≡ use_fault_of world main
      → linked boot_table loaded main ≡ Err cause
  use_refused cause own cycles is = linked_is (Some cause) (fault_is ∙ or_else_second _ _ (sym own) ∙ or_else_second _ _ (sym cycles) ∙ sym is)

  pub none_refused : None ≡ own_fault loaded → None ≡ first_of (cycle_fault world) (user_classes world) → None ≡ use_fault_of world main
      → linked boot_table loaded main ≡ Ok world
  none_refused own cycles uses = linked_is None (fault_is ∙ or_else_second _ _ (sym own) ∙ or_else_second _ _ (sym cycles) ∙ sym uses)

-- ---- what no own fault says

pub own_none : (loaded : List LoadedClass) → None ≡ own_fault loaded
    → (first_of reserved_fault (map class_of loaded) ≡ None) × (first_twice [] (map class_of loaded) ≡ None)
own_none loaded none =
    let free = or_else_none _ _ (sym none) in
    let once = or_else_none _ _ free.1 in
    (free.0, once.0)
