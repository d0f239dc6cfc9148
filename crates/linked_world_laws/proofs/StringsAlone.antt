-- Nothing stands for a String but Strings, and the fields of objects have types.
use Rattle.std.proofs.Common.{◌≡◌, ℕ, Bool, true, false, cond, List, [], ◌∷◌, ◌++◌, Option, Some, None, refl, sym, ap, subst, ◌∙◌, inl, inr, map}
use Rattle.std.specs.Prelude.{IsTrue, ◌||◌, not, bytes_eq, is_some, filter, reverse, flat_map, option_to_list}
use Rattle.std.specs.Bool.{beq}
use Rattle.std.specs.List.{AllByRecursion, list_all, list_any}
use Rattle.std.proofs.lemmas.Bool.{or_cases, or_parts, both_ways, not-true}
use Rattle.std.proofs.lemmas.List.Folds.{list_any-append}
use Rattle.jv_model.specs.Partial.{passes}
use Rattle.jv_model.specs.Refusal.{final_override}
use Rattle.jv_model.specs.Descriptors.{FieldType, class_type, array_of}
use Rattle.jv_model.specs.Operand.{MemberReference}
use Rattle.jv_model.specs.LoadedClass.{LoadedClass}
use Rattle.world_model.specs.World.{Field, World, Class, class_in, is_static_field}
use Rattle.world_model.specs.BootNames.{java_string}
use Rattle.world_model.specs.BootTable.{boot_table}
use Rattle.world_model.specs.Layout.{declared, layout}
use Rattle.world_model.specs.Members.{field_of}
use Rattle.world_model.specs.Supertypes.{superclass_of, interfaces_of, chain, is_sub}
use Rattle.code_model.specs.Names.{class_name_at}
use Rattle.code_model.specs.TypeReading.{field_type_of}
use Rattle.link_model.specs.WorldOf.{class_of, name_of, world_of}
use Rattle.link_model.specs.SupertypeFaults.{is_final_class, overrides_final, breaks_final}
use Rattle.link_model.specs.UseFaults.{is_type_there}
use Rattle.link_laws.specs.Above.{has, IsDirectly, IsAbove, directly, further}
use Rattle.link_laws.proofs.Above.{below_is_there}
use Rattle.link_laws.proofs.Lists.{all_weaker, passes_some}
use Rattle.link_laws.proofs.Names.{same_text, has_append}
use Rattle.link_laws.proofs.Orders.{sub_is_above}
use Rattle.link_laws.proofs.Passes.{fault_if_none}
use Rattle.typing_model.specs.Assignable.{names_interface}
use Rattle.typing_model.specs.VerificationType.{is_same_field_type}
use Rattle.machine_model.specs.TypedValues.{may_stand}
use Rattle.frame_laws.proofs.Outcome.{both}
use Rattle.linked_laws.specs.Worlds.{IsLinkedWorld}
use Rattle.linked_laws.proofs.Classes.{IsOfProgram, is_linked, class_found}
use Rattle.linked_laws.proofs.Lists.{all_pass}
use Rattle.linked_laws.proofs.Types.{is_field_there, types_found}
use Rattle.linked_world_laws.specs.Laws.{StringsStandAlone, FieldsHaveTypes}
use Rattle.linked_world_laws.proofs.Items.{all_flat}
use Rattle.linked_world_laws.proofs.Orders.{interface_above}

-- ---- Strings

-- no class is directly below String
abbrev IsNoString : Class → Type 0
IsNoString class = list_any (bytes_eq java_string) (option_to_list class.superclass) ≡ false

boot_no_string : list_all (λ (c : Class). not (list_any (bytes_eq java_string) (option_to_list c.superclass))) boot_table ≡ true
unfolding boot_table
boot_no_string = refl

string_is_final : (classes : List LoadedClass)
    → (is_final_class (world_of boot_table classes) java_string ≡ true) × (names_interface (world_of boot_table classes) java_string ≡ false)
unfolding boot_table
string_is_final classes = (refl, refl)

program_no_string : (world : World) → is_final_class world java_string ≡ true → (l : LoadedClass) → IsOfProgram world l → IsNoString (class_of l)
program_no_string world final l is =
    let name = class_name_at l.file.pool l.file.super_class in
    let parts = or_parts (is_final_class world name) (list_any (overrides_final world name) (class_of l).methods) (fault_if_none (breaks_final world (class_of l) name) (final_override (name_of l)) is.finals) in
    by name (bytes_eq java_string name) refl parts.0
  where
    by : (name : List ℕ) (b : Bool) → bytes_eq java_string name ≡ b → is_final_class world name ≡ false → (bytes_eq java_string name || false) ≡ false
    by name false same other = ap (λ (b : Bool). b || false) same
    by name true same other = absurd (both_ways _ other (ap (is_final_class world) (sym (same_text java_string name same)) ∙ final))

module _ (world : World) (linked : IsLinkedWorld world) where
  facts : (is_final_class world java_string ≡ true) × (names_interface world java_string ≡ false)
  facts =
      subst (λ (w : World). (is_final_class w java_string ≡ true) × (names_interface w java_string ≡ false)) (sym (is_linked world linked).is)
      (string_is_final linked.classes)

  none_directly : (below : List ℕ) → IsDirectly world below java_string → ⊥
  none_directly below step =
      let class = passes_some _ (class_in world below) (below_is_there world below java_string step) in
      let own = (class_found world linked IsNoString
      (all_weaker _ IsNoString boot_table (λ c h. not-true _ h) (all_pass (λ (c : Class). not (list_any (bytes_eq java_string) (option_to_list c.superclass))) boot_table boot_no_string))
      (program_no_string world facts.0) below class.0 class.1).1 in
      elim (has_append (superclass_of world below) (interfaces_of world below) java_string step) [
        | inl upper ↦
            let names : superclass_of world below ≡ option_to_list class.0.superclass ++ [] =
            ap (λ (o : Option Class). flat_map (λ (c : Class). option_to_list c.superclass) (option_to_list o)) class.1 in
            let none = list_any-append (bytes_eq java_string) (option_to_list class.0.superclass) [] ∙ ap (λ (b : Bool). b || false) own in
            both_ways _ none (subst (λ (x : List (List ℕ)). IsTrue (has x java_string)) names upper)
        | inr mine ↦ both_ways _ facts.1 (interface_above world linked below java_string mine)
      ]

  none_below : (below : List ℕ) → IsAbove world below java_string → ⊥
  none_below below (directly _ _ step) = none_directly below step
  none_below below (further _ between _ step more) = none_below between more

  pub string_alone : (own : FieldType) → may_stand world own (class_type java_string) ≡ true → own ≡ class_type java_string
  unfolding may_stand is_same_field_type
  string_alone (class_type name) stands = elim (or_cases (bytes_eq name java_string || names_interface world java_string) (is_sub world name java_string) stands) [
    | inl less ↦ elim (or_cases (bytes_eq name java_string) (names_interface world java_string) less) [
      | inl same ↦ ap class_type (same_text name java_string same)
      | inr own ↦ absurd (both_ways _ facts.1 own)
    ]
    | inr sub ↦ elim (sub_is_above world name java_string sub) [ inl same ↦ ap class_type (sym same) | inr up ↦ absurd (none_below name up) ]
  ]
  string_alone (array_of component) stands = absurd (both_ways _ facts.1 stands)
  string_alone other stands = absurd cc

pub strings_stand_alone : StringsStandAlone
strings_stand_alone = string_alone

-- ---- fields of objects

-- the fields of a class have descriptors
declared_have : (world : World) (class : Class) (fields : List Field) → AllByRecursion (λ (f : Field). is_field_there world f.descriptor ≡ true) fields
    → list_all (λ (f : MemberReference). is_some (field_type_of f.descriptor)) (map (field_of class) (filter (λ (f : Field). beq (is_static_field f) false) fields)) ≡ true
declared_have world class [] all = refl
declared_have world class (f ∷ fields) all = by (beq (is_static_field f) false) (declared_have world class fields all.1)
  where
    there : (o : Option FieldType) → passes (is_type_there world) o ≡ true → is_some o ≡ true
    there None h = absurd cc
    there (Some type) h = refl

    by : (b : Bool) → list_all (λ (m : MemberReference). is_some (field_type_of m.descriptor)) (map (field_of class) (filter (λ (g : Field). beq (is_static_field g) false) fields)) ≡ true
        → list_all (λ (m : MemberReference). is_some (field_type_of m.descriptor)) (map (field_of class) (cond b (f ∷ filter (λ (g : Field). beq (is_static_field g) false) fields) (filter (λ (g : Field). beq (is_static_field g) false) fields))) ≡ true
    by true rest = both (is_some (field_type_of f.descriptor)) _ (there (field_type_of f.descriptor) all.0) rest
    by false rest = rest

pub fields_have_types : FieldsHaveTypes
unfolding layout
fields_have_types world linked name =
    let test = λ (f : MemberReference). is_some (field_type_of f.descriptor) in
    all_flat test (declared false) (flat_map (λ n. option_to_list (class_in world n)) (reverse (chain world name)))
    (all_flat (λ c. list_all test (declared false c)) (λ n. option_to_list (class_in world n)) (reverse (chain world name))
    (all_names (λ n. list_all (λ c. list_all test (declared false c)) (option_to_list (class_in world n))) (reverse (chain world name)) (λ n. each n (class_in world n) refl)))
  where
    all_names : (test : List ℕ → Bool) (names : List (List ℕ)) → ((n : List ℕ) → test n ≡ true) → list_all test names ≡ true
    all_names test [] every = refl
    all_names test (n ∷ names) every = both (test n) (list_all test names) (every n) (all_names test names every)

    each : (n : List ℕ) (o : Option Class) → class_in world n ≡ o
        → list_all (λ c. list_all (λ (f : MemberReference). is_some (field_type_of f.descriptor)) (declared false c)) (option_to_list o) ≡ true
    each n None is = refl
    each n (Some class) is = both _ true (declared_have world class class.fields (types_found world linked n class is).fields) refl
