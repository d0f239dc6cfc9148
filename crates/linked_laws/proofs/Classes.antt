-- The classes of a linked world: boot classes, and those of a program, of which all that they use is there.
use Rattle.std.proofs.Common.{◌≡◌, ℕ, List, [], Some, None, sym, ap, subst, ◌∙◌, map}
use Rattle.std.specs.Prelude.{slice_get}
use Rattle.std.specs.List.{AllByRecursion}
use Rattle.jv_model.specs.LoadedClass.{LoadedClass}
use Rattle.world_model.specs.World.{Class, World, class_in, user_classes}
use Rattle.world_model.specs.BootTable.{boot_table}
use Rattle.link_model.specs.WorldOf.{class_of, name_of}
use Rattle.link_model.specs.ClassFaults.{reserved_fault, method_fault}
use Rattle.link_model.specs.DescriptorFaults.{descriptor_fault}
use Rattle.link_model.specs.SupertypeFaults.{final_fault}
use Rattle.link_laws.specs.FirstFault.{HasNoFault}
use Rattle.link_laws.specs.Linked.{UsesResolve, IsLinked}
use Rattle.link_laws.proofs.BootTable.{boot_table_is_base}
use Rattle.link_laws.proofs.Links.{linked_ok}
use Rattle.link_laws.proofs.Lists.{all_both, all_of_map, all_weaker}
use Rattle.link_laws.proofs.Programs.{users_are, loaded_are}
use Rattle.link_laws.proofs.Names.{same_text}
use Rattle.link_laws.proofs.Theorems.{linked_program}
use Rattle.linked_laws.specs.Worlds.{IsReadClass, IsLinkedWorld}
use Rattle.linked_laws.proofs.Lists.{all_at, all_append, all_to_map, found_holds, found_passes}

-- A class of the program: it was read, its name finds it, what it uses is there, and no test refuses it.
pub record IsOfProgram (world : World) (loaded : LoadedClass) : Type 0 where
  pub read : IsReadClass loaded
  pub found : class_in world (name_of loaded) ≡ Some (class_of loaded)
  pub uses : UsesResolve world loaded
  pub reserved : reserved_fault (class_of loaded) ≡ None
  pub descriptors : descriptor_fault loaded ≡ None
  pub methods : method_fault (class_of loaded) ≡ None
  pub finals : final_fault world (class_of loaded) ≡ None

both : {A : Type 0} (P Q : A → Type 0) (xs : List A) → AllByRecursion P xs → AllByRecursion Q xs → AllByRecursion (λ x. P x × Q x) xs
both P Q xs p q = all_both P Q (λ x. P x × Q x) xs (λ x a b. (a, b)) p q

-- a class that a name finds has it
pub found_named : (world : World) (name : List ℕ) (class : Class) → class_in world name ≡ Some class → class.name ≡ name
found_named world name class is = same_text class.name name (found_passes _ world.classes class is)

module _ (world : World) (linked : IsLinkedWorld world) where
  pub is_linked : IsLinked boot_table linked.classes linked.main world
  is_linked = linked_program linked.classes linked.main world linked.links

  none_faulty : HasNoFault world [] (map class_of linked.classes)
  none_faulty =
      subst (HasNoFault world [])
      (ap user_classes is_linked.is ∙ users_are boot_table linked.classes boot_table_is_base)
      (linked_ok boot_table linked.classes linked.main world linked.links).1

  -- the facts, two by two
  abbrev Read : LoadedClass → Type 0
  Read l = IsReadClass l × (class_in world (name_of l) ≡ Some (class_of l))

  abbrev Used : LoadedClass → Type 0
  Used l = UsesResolve world l × (reserved_fault (class_of l) ≡ None)

  abbrev Tested : LoadedClass → Type 0
  Tested l = (method_fault (class_of l) ≡ None) × (final_fault world (class_of l) ≡ None)

  abbrev Described : LoadedClass → Type 0
  Described l = (descriptor_fault l ≡ None) × Tested l

  of_each : (l : LoadedClass) → (Read l × Used l) × Described l → IsOfProgram world l
  of_each l p = record {
    read = p.0.0.0;
    found = p.0.0.1;
    uses = p.0.1.0;
    reserved = p.0.1.1;
    descriptors = p.1.0;
    methods = p.1.1.0;
    finals = p.1.1.1;
  }

  pub of_program : AllByRecursion (IsOfProgram world) linked.classes
  of_program =
      all_weaker (λ l. (Read l × Used l) × Described l) (IsOfProgram world) linked.classes of_each
      (both (λ l. Read l × Used l) Described linked.classes
      (both Read Used linked.classes
      (both IsReadClass (λ l. class_in world (name_of l) ≡ Some (class_of l)) linked.classes linked.read is_linked.found)
      (both (UsesResolve world) (λ l. reserved_fault (class_of l) ≡ None) linked.classes is_linked.uses
      (all_of_map (λ c. reserved_fault c ≡ None) class_of linked.classes none_faulty.reserved)))
      (both (λ l. descriptor_fault l ≡ None) Tested linked.classes
      (subst (λ (x : List LoadedClass). AllByRecursion (λ l. descriptor_fault l ≡ None) x) (loaded_are linked.classes) none_faulty.descriptors)
      (both (λ l. method_fault (class_of l) ≡ None) (λ l. final_fault world (class_of l) ≡ None) linked.classes
      (all_of_map (λ c. method_fault c ≡ None) class_of linked.classes none_faulty.methods)
      (all_of_map (λ c. final_fault world c ≡ None) class_of linked.classes none_faulty.finals))))

  -- what holds of boot classes and of the program's holds of all
  pub each_class : (P : Class → Type 0) → AllByRecursion P boot_table → ((l : LoadedClass) → IsOfProgram world l → P (class_of l)) → AllByRecursion P world.classes
  each_class P boot user =
      subst (λ (w : World). AllByRecursion P w.classes) (sym is_linked.is)
      (all_append P boot_table (map class_of linked.classes) boot
      (all_to_map P class_of linked.classes
      (all_both (IsOfProgram world) (IsOfProgram world) (λ l. P (class_of l)) linked.classes (λ l is other. user l is) of_program of_program)))

  -- so it does of the class with a number, and of the one that a name finds
  pub class_at : (P : Class → Type 0) → AllByRecursion P boot_table → ((l : LoadedClass) → IsOfProgram world l → P (class_of l))
      → (n : ℕ) (class : Class) → slice_get world.classes n ≡ Some class → P class
  class_at P boot user n class is = all_at P world.classes n class (each_class P boot user) is

  pub class_found : (P : Class → Type 0) → AllByRecursion P boot_table → ((l : LoadedClass) → IsOfProgram world l → P (class_of l))
      → (name : List ℕ) (class : Class) → class_in world name ≡ Some class → (class.name ≡ name) × P class
  class_found P boot user name class is =
      let found = found_holds P _ world.classes class (each_class P boot user) is in
      (same_text class.name name found.0, found.1)
