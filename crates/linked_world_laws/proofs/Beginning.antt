-- Main and the initializers of the program's classes can be begun.
use Rattle.std.proofs.Common.{◌≡◌, ℕ, Bool, true, false, cond, List, [], ◌∷◌, ◌++◌, Option, Some, None, refl, sym, ap, subst, ◌∙◌, map}
use Rattle.std.specs.Prelude.{◌&&◌, ◌||◌, bytes_eq, codes, is_some, is_none, option_and_then, flat_map, option_to_list}
use Rattle.std.specs.List.{list_all}
use Rattle.std.proofs.lemmas.Bool.{or_left}
use Rattle.std.proofs.lemmas.List.Folds.{list_all-append}
use Rattle.jv_model.specs.Partial.{passes}
use Rattle.jv_model.specs.Operand.{MemberReference}
use Rattle.jv_model.specs.LoadedClass.{LoadedClass}
use Rattle.world_model.specs.World.{World, Class, Method, class_in, user_classes, declared_method, is_static_method}
use Rattle.world_model.specs.BootTable.{boot_table}
use Rattle.world_model.specs.Members.{method_named}
use Rattle.link_model.specs.WorldOf.{class_of, name_of}
use Rattle.link_laws.proofs.BootTable.{boot_table_is_base}
use Rattle.link_laws.proofs.Lists.{all_weaker, passes_some}
use Rattle.link_laws.proofs.Names.{text_same}
use Rattle.link_laws.proofs.Programs.{users_are}
use Rattle.machine_model.specs.Conforms.{can_begin}
use Rattle.machine_model.specs.Start.{initializer_of, main_of}
use Rattle.frame_laws.proofs.Outcome.{both}
use Rattle.linked_laws.proofs.Classes.{IsOfProgram, is_linked, of_program, class_found}
use Rattle.linked_laws.proofs.Lists.{all_pass, all_to_map, found_holds}
use Rattle.linked_world_laws.specs.Laws.{FirstMethodsCanBegin}
use Rattle.linked_world_laws.proofs.Items.{all_flat, all_by}
use Rattle.linked_world_laws.proofs.MethodKinds.{IsProgramMethod, program_methods}
use Rattle.linked_world_laws.proofs.Selecting.{named_is, own_declared}

abbrev program_arguments : List ℕ
program_arguments = codes "([Ljava/lang/String;)V"

-- a static method with code can begin
begins : (world : World) (m : MemberReference) (class : Class) (method : Method) → class_in world m.class ≡ Some class → declared_method m.name m.descriptor class ≡ Some method
    → (bytes_eq m.descriptor (codes "()V") || bytes_eq m.descriptor program_arguments) ≡ true
    → is_static_method method ≡ true → is_some method.code ≡ true → can_begin world m ≡ true
begins world m class method there declared takes static coded =
    let named : method_named world m ≡ Some method = ap (option_and_then (declared_method m.name m.descriptor)) there ∙ declared in
    both _ _ takes (ap (λ (o : Option Method). passes (λ (x : Method). is_static_method x && is_some x.code) o) named ∙ both (is_static_method method) (is_some method.code) static coded)

-- ---- initializers

module _ (world : World) (l : LoadedClass) (is : IsOfProgram world l) where
  static_coded : (m : MemberReference) (method : Method) → declared_method m.name m.descriptor (class_of l) ≡ Some method → is_static_method method ≡ true
      → is_some method.code ≡ true
  static_coded m method declared static =
      (found_holds IsProgramMethod _ (class_of l).methods method (program_methods l is.read is.methods) declared).1.static_has_code static

  initializers_begin : list_all (can_begin world) (initializer_of (class_of l)) ≡ true
  initializers_begin = by (declared_method (codes "<clinit>") (codes "()V") (class_of l)) refl
    where
      initializer : MemberReference
      initializer = record { class = name_of l; name = codes "<clinit>"; descriptor = codes "()V" }

      of : (method : Method) → declared_method (codes "<clinit>") (codes "()V") (class_of l) ≡ Some method → (static : Bool) → is_static_method method ≡ static
          → list_all (can_begin world) (cond static (record { class = name_of l; name = method.name; descriptor = method.descriptor } ∷ []) [] ++ []) ≡ true
      of method declared false kind = refl
      of method declared true kind =
          let named = named_is (record { class = name_of l; name = codes "<clinit>"; descriptor = codes "()V" }) (class_of l) method declared in
          both _ true
          (begins world (record { class = name_of l; name = method.name; descriptor = method.descriptor }) (class_of l) method is.found
          (own_declared (record { class = name_of l; name = codes "<clinit>"; descriptor = codes "()V" }) (class_of l) method declared)
          (or_left _ (bytes_eq method.descriptor program_arguments) (text_same method.descriptor (codes "()V") named.descriptor))
          kind (static_coded (record { class = name_of l; name = codes "<clinit>"; descriptor = codes "()V" }) method declared kind)) refl

      by : (o : Option Method) → declared_method (codes "<clinit>") (codes "()V") (class_of l) ≡ o
          → list_all (can_begin world) (flat_map (λ (m : Method). cond (is_static_method m) (record { class = name_of l; name = m.name; descriptor = m.descriptor } ∷ []) []) (option_to_list o)) ≡ true
      by None declared = refl
      by (Some method) declared = of method declared (is_static_method method) refl

-- ---- main

abbrev HasCodedMain : Class → Type 0
HasCodedMain class = (method : Method) → declared_method (codes "main") program_arguments class ≡ Some method → is_static_method method ≡ true → is_some method.code ≡ true

boot_mains : list_all (λ (c : Class). is_none (declared_method (codes "main") program_arguments c)) boot_table ≡ true
unfolding boot_table
boot_mains = refl

no_main : (class : Class) → is_none (declared_method (codes "main") program_arguments class) ≡ true → HasCodedMain class
no_main class none method declared static = absurd (let fails = sym (ap is_none declared) ∙ none in cc)

pub first_methods_can_begin : FirstMethodsCanBegin
first_methods_can_begin program linked same =
    let world = program.world in
    let can = can_begin world in
    let users : user_classes world ≡ map class_of linked.classes = ap user_classes (is_linked world linked).is ∙ users_are boot_table linked.classes boot_table_is_base in
    let each = all_flat can initializer_of (map class_of linked.classes)
    (all_by (λ c. list_all can (initializer_of c)) (map class_of linked.classes)
    (all_to_map (λ c. list_all can (initializer_of c) ≡ true) class_of linked.classes (all_weaker _ _ linked.classes (initializers_begin world) (of_program world linked)))) in
    let there = (is_linked world linked).main_there in
    let method = passes_some is_static_method (declared_method (codes "main") program_arguments there.0) there.2 in
    let coded = (class_found world linked HasCodedMain (all_weaker _ HasCodedMain boot_table no_main (all_pass (λ (c : Class). is_none (declared_method (codes "main") program_arguments c)) boot_table boot_mains))
    (λ l is m declared static. static_coded world l is (main_of linked.main) m declared static) linked.main there.0 there.1).1 in
    let main : can (main_of linked.main) ≡ true =
    begins world (main_of linked.main) there.0 method.0 there.1 method.1 refl method.2 (coded method.0 method.1 method.2) in
    list_all-append can (flat_map initializer_of (user_classes world)) (main_of program.main ∷ [])
    ∙ both _ _ (ap (λ (cs : List Class). list_all can (flat_map initializer_of cs)) users ∙ each)
    (both _ true (subst (λ (n : List ℕ). can (main_of n) ≡ true) same main) refl)
