-- How the classes of a linked world are ordered.
use Rattle.std.proofs.Common.{◌≡◌, ℕ, Bool, true, false, cond, List, [], ◌∷◌, ◌++◌, Option, Some, None, refl, sym, ap, subst, ◌∙◌, inl, inr}
use Rattle.std.specs.Prelude.{IsTrue, ◌&&◌, ◌||◌, not, option_to_list, flat_map, bytes_eq}
use Rattle.std.specs.List.{AllByRecursion, list_all, list_any}
use Rattle.std.proofs.lemmas.Bool.{and_parts, or_cases, or_left}
use Rattle.jv_model.specs.Partial.{passes}
use Rattle.jv_model.specs.LoadedClass.{LoadedClass}
use Rattle.world_model.specs.World.{Class, World, class_in, is_interface, has_flag, acc_interface}
use Rattle.world_model.specs.BootNames.{java_object}
use Rattle.world_model.specs.BootTable.{boot_table}
use Rattle.world_model.specs.Supertypes.{superclass_of, interfaces_of}
use Rattle.code_model.specs.Names.{class_name_at}
use Rattle.link_model.specs.WorldOf.{class_of, world_of}
use Rattle.link_model.specs.Uses.{Used, used, as_interface, uses_of}
use Rattle.link_model.specs.UseFaults.{is_class_where, fits_superclass, resolves}
use Rattle.link_model.specs.SupertypeFaults.{direct_supertypes}
use Rattle.link_laws.specs.Above.{has}
use Rattle.link_laws.specs.Linked.{UsesResolve}
use Rattle.link_laws.proofs.Lists.{all_of_map, all_weaker, passes_some}
use Rattle.link_laws.proofs.Names.{same_text, has_append, has_cases}
use Rattle.typing_model.specs.Assignable.{names_interface}
use Rattle.frame_laws.specs.Worlds.{IsOrderly}
use Rattle.linked_laws.specs.Worlds.{IsLinkedWorld}
use Rattle.linked_laws.proofs.Classes.{found_named, is_linked, class_found}
use Rattle.linked_laws.proofs.Lists.{all_pass, all_to_map}
use Rattle.linked_laws.proofs.Types.{interfaces_in}

-- What stands above a class: its interfaces are interfaces, and above an interface is Object.
pub record StandsBelow (world : World) (class : Class) : Type 0 where
  pub interfaces : AllByRecursion (λ name. names_interface world name ≡ true) class.interfaces
  pub superclass : is_interface class ≡ true → AllByRecursion (λ name. bytes_eq name java_object ≡ true) (option_to_list class.superclass)

-- ---- boot classes

abbrev stands_below : World → Class → Bool
stands_below world class =
    list_all (names_interface world) class.interfaces
    && (not (is_interface class) || list_all (λ name. bytes_eq name java_object) (option_to_list class.superclass))

boot_below : (classes : List LoadedClass) → list_all (stands_below (world_of boot_table classes)) boot_table ≡ true
unfolding boot_table
boot_below classes = refl

implied : (test other : Bool) → IsTrue (not test || other) → test ≡ true → IsTrue other
implied true other h is = h
implied false other h is = absurd cc

is_below : (world : World) (class : Class) → stands_below world class ≡ true → StandsBelow world class
is_below world class h =
    let upper = list_all (λ name. bytes_eq name java_object) (option_to_list class.superclass) in
    let parts = and_parts (list_all (names_interface world) class.interfaces) (not (is_interface class) || upper) h in
    record {
      interfaces = all_pass (names_interface world) class.interfaces parts.0;
      superclass = λ is. all_pass (λ name. bytes_eq name java_object) (option_to_list class.superclass) (implied (is_interface class) upper parts.1 is);
    }

-- ---- classes of a program

abbrev Resolves : World → LoadedClass → Used → Type 0
Resolves world loaded u = IsTrue (resolves world loaded.file u.index u.use_as)

-- a test that is passed where something is there
pub any_there : {A : Type 0} (test : A → Bool) (o : Option A) → passes test o ≡ true → list_any test (option_to_list o) ≡ true
any_there test None h = absurd cc
any_there test (Some x) h = or_left (test x) false h

interface_fits : (world : World) (loaded : LoadedClass) (index : ℕ) → IsTrue (resolves world loaded.file index as_interface)
    → names_interface world (class_name_at loaded.file.pool index) ≡ true
unfolding resolves
interface_fits world loaded index h = any_there is_interface (class_in world (class_name_at loaded.file.pool index)) h

superclass_fits : (world : World) (loaded : LoadedClass) → UsesResolve world loaded
    → is_class_where world (fits_superclass loaded.file) (class_name_at loaded.file.pool loaded.file.super_class) ≡ true
unfolding uses_of resolves
superclass_fits world loaded uses = uses.0

program_below : (world : World) (loaded : LoadedClass) → UsesResolve world loaded → StandsBelow world (class_of loaded)
program_below world loaded uses =
    let pool = loaded.file.pool in
    record {
      interfaces = all_to_map (λ name. names_interface world name ≡ true) (class_name_at pool) loaded.file.interfaces
          (all_weaker _ _ loaded.file.interfaces (interface_fits world loaded)
          (all_of_map (Resolves world loaded) (used as_interface) loaded.file.interfaces (interfaces_in (Resolves world loaded) loaded uses)));
      superclass = λ is.
          (let name = class_name_at pool loaded.file.super_class in
          let found = passes_some (fits_superclass loaded.file) (class_in world name) (superclass_fits world loaded uses) in
          (ap (λ n. bytes_eq n java_object) (sym (found_named world name found.0 found.1)) ∙ fits found.0 is found.2, tt));
    }
  where
    fits : (class : Class) → has_flag acc_interface loaded.file.flags ≡ true → IsTrue (fits_superclass loaded.file class) → bytes_eq class.name java_object ≡ true
    fits class is h = sym (ap (λ (b : Bool). cond b (bytes_eq class.name java_object) (not (is_interface class))) is) ∙ h

-- ---- linked worlds

-- nothing is above java/lang/Object
boot_topmost : (classes : List LoadedClass) → direct_supertypes (world_of boot_table classes) java_object ≡ []
unfolding boot_table
boot_topmost classes = refl

-- what holds of each of a class's names holds of one that is found among them
of_found : (P : List ℕ → Type 0) (names : Class → List (List ℕ)) (o : Option Class) (class : Class) (name : List ℕ) → o ≡ Some class
    → AllByRecursion P (names class) → IsTrue (has (flat_map names (option_to_list o)) name) → P name
of_found P names o class name is all h = in_all (names class) all (left (names class) (subst (λ (x : Option Class). IsTrue (has (flat_map names (option_to_list x)) name)) is h))
  where
    in_all : (ns : List (List ℕ)) → AllByRecursion P ns → IsTrue (has ns name) → P name
    in_all [] all h = absurd cc
    in_all (n ∷ ns) all h = elim (has_cases n name ns h) [ inl same ↦ subst P (sym same) all.0 | inr other ↦ in_all ns all.1 other ]

    left : (ns : List (List ℕ)) → IsTrue (has (ns ++ []) name) → IsTrue (has ns name)
    left ns h = elim (has_append ns [] name h) [ inl own ↦ own | inr none ↦ absurd cc ]

module _ (world : World) (linked : IsLinkedWorld world) where
  boot_all : AllByRecursion (StandsBelow world) boot_table
  boot_all =
      subst (λ (w : World). AllByRecursion (StandsBelow w) boot_table) (sym (is_linked world linked).is)
      (all_weaker _ _ boot_table (is_below (world_of boot_table linked.classes))
      (all_pass (stands_below (world_of boot_table linked.classes)) boot_table (boot_below linked.classes)))

  pub below_found : (name : List ℕ) (class : Class) → class_in world name ≡ Some class → StandsBelow world class
  below_found name class is =
      (class_found world linked (StandsBelow world) boot_all (λ l p. program_below world l p.uses) name class is).1

  -- the class that an interface is of
  interface_found : (name : List ℕ) → names_interface world name ≡ true → (class : Class) × (class_in world name ≡ Some class) × (is_interface class ≡ true)
  interface_found name h = by (class_in world name) refl
    where
      by : (o : Option Class) → class_in world name ≡ o → (class : Class) × (class_in world name ≡ Some class) × (is_interface class ≡ true)
      by None is = absurd (let fails = sym (ap (λ x. list_any is_interface (option_to_list x)) is) ∙ h in cc)
      by (Some class) is =
          let any = sym (ap (λ x. list_any is_interface (option_to_list x)) is) ∙ h in
          (class, is, elim (or_cases (is_interface class) false any) [ inl own ↦ own | inr none ↦ absurd cc ])

  pub world_is_orderly : IsOrderly world
  world_is_orderly = record {
    sound = (is_linked world linked).sound;
    topmost = λ above step.
        (let none = ap (λ (w : World). direct_supertypes w java_object) (is_linked world linked).is ∙ boot_topmost linked.classes in
        let fails : IsTrue (has [] above) = subst (λ (x : List (List ℕ)). IsTrue (has x above)) none step in cc);
    above_interface = λ name above is step.
        (let found = interface_found name is in
        let below = below_found name found.0 found.1 in
        elim (has_append (superclass_of world name) (interfaces_of world name) above step) [
          | inl upper ↦ inl (of_found (λ n. n ≡ java_object) (λ c. option_to_list c.superclass) (class_in world name) found.0 above found.1
              (all_weaker _ _ (option_to_list found.0.superclass) (λ n same. same_text n java_object same) (below.superclass found.2)) upper)
          | inr own ↦ inr (of_found (λ n. names_interface world n ≡ true) (λ c. c.interfaces) (class_in world name) found.0 above found.1 below.interfaces own)
        ]);
  }

  -- the interfaces of a class are interfaces
  pub interface_above : (name above : List ℕ) → IsTrue (has (interfaces_of world name) above) → names_interface world above ≡ true
  interface_above name above own = by (class_in world name) refl
    where
      by : (o : Option Class) → class_in world name ≡ o → names_interface world above ≡ true
      by None is = absurd (let none : IsTrue (has [] above) = rw is at own in cc)
      by (Some class) is =
          of_found (λ n. names_interface world n ≡ true) (λ c. c.interfaces) (class_in world name) class above is (below_found name class is).interfaces own
