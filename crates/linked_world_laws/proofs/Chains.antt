-- Classes that stand for others are below them, and have their fields.
use Rattle.std.proofs.Common.{◌≡◌, ℕ, zero, suc, Bool, true, false, List, [], ◌∷◌, Option, Some, refl, sym, ap, subst, ◌∙◌, inl, inr, length}
use Rattle.std.specs.Prelude.{IsTrue, ◌⊎◌, ◌||◌, bytes_eq, flat_map, option_to_list}
use Rattle.std.specs.List.{list_any}
use Rattle.std.proofs.lemmas.Bool.{or_cases, or_left, both_ways, false_from_ne_true}
use Rattle.std.proofs.lemmas.List.Folds.{list_any-append}
use Rattle.jv_model.specs.Operand.{MemberReference}
use Rattle.jv_model.specs.LoadedClass.{LoadedClass}
use Rattle.world_model.specs.World.{World, Class, class_in}
use Rattle.world_model.specs.BootNames.{java_object, java_string}
use Rattle.world_model.specs.BootTable.{boot_table}
use Rattle.world_model.specs.Supertypes.{superclass_of, interfaces_of, chain_within, chain, is_sub}
use Rattle.world_model.specs.Layout.{declared}
use Rattle.world_model.specs.Members.{same_member}
use Rattle.link_model.specs.WorldOf.{world_of}
use Rattle.link_model.specs.SupertypeFaults.{direct_supertypes}
use Rattle.link_laws.specs.Above.{has, is_there, IsAbove, IsAtOrAbove, IsWithin}
use Rattle.link_laws.proofs.Above.{above_above, first_step, classes_are_enough}
use Rattle.link_laws.proofs.Fuel.{within_superclass}
use Rattle.link_laws.proofs.Lists.{passes_some, some_passes}
use Rattle.link_laws.proofs.Names.{same_text, text_same, has_head, has_tail, has_append, from_has}
use Rattle.link_laws.proofs.Orders.{sub_is_above}
use Rattle.typing_model.specs.Assignable.{class_assignable, names_interface}
use Rattle.machine_model.specs.TypedValues.{may_stand}
use Rattle.frame_laws.proofs.Ordered.{above_is_sub, has_orders}
use Rattle.machine_laws.specs.Runnable.{PlaceUse}
use Rattle.linked_laws.specs.Worlds.{IsLinkedWorld}
use Rattle.linked_laws.proofs.Classes.{is_linked}
use Rattle.linked_world_laws.proofs.Layouts.{has_place, layout_has}
use Rattle.linked_world_laws.proofs.Orders.{world_is_orderly, interface_above}

-- A class that is no interface, and not java/lang/Object.
pub record IsPlain (world : World) (name : List ℕ) : Type 0 where
  pub no_interface : names_interface world name ≡ false
  pub no_object : bytes_eq name java_object ≡ false

-- what is at or above a class that something is above is above that
pub up_to : (world : World) (a b c : List ℕ) → IsAtOrAbove world a b → IsAtOrAbove world b c → IsAtOrAbove world a c
up_to world a b c (inl same) next = subst (λ (x : List ℕ). IsAtOrAbove world x c) same next
up_to world a b c (inr up) (inl same) = inr (subst (λ (x : List ℕ). IsAbove world a x) (sym same) up)
up_to world a b c (inr up) (inr next) = inr (above_above world a b c up next)

string_below_object : (classes : List LoadedClass) → direct_supertypes (world_of boot_table classes) java_string ≡ java_object ∷ []
unfolding boot_table
string_below_object classes = refl

string_has_none : (classes : List LoadedClass) (field : MemberReference)
    → list_any (same_member field) (flat_map (declared false) (option_to_list (class_in (world_of boot_table classes) java_string))) ≡ false
unfolding boot_table
string_has_none classes field = refl

module _ (world : World) (linked : IsLinkedWorld world) where
  -- above an interface is no plain class
  pub no_plain_above : (name above : List ℕ) → names_interface world name ≡ true → IsAtOrAbove world name above → IsPlain world above → ⊥
  no_plain_above name above is (inl same) plain = both_ways _ plain.no_interface (ap (names_interface world) same ∙ is)
  no_plain_above name above is (inr up) plain =
      let orders = has_orders world (world_is_orderly world linked) in
      let sub = above_is_sub world (world_is_orderly world linked) name above up in
      elim (or_cases (bytes_eq above java_object) (names_interface world above) (orders.above_interface name above is sub)) [
        | inl same ↦ both_ways _ plain.no_object same
        | inr own ↦ both_ways _ plain.no_interface own
      ]

  -- a plain class above another is on the way upwards from superclass to superclass
  above_on_chain : (most : ℕ) (name above : List ℕ) → IsWithin world most name → IsAtOrAbove world name above → IsPlain world above
      → IsTrue (has (chain_within most world name) above)
  unfolding chain_within
  above_on_chain zero name above within way plain = absurd within
  above_on_chain (suc most) name above within (inl same) plain =
      subst (λ (x : List ℕ). IsTrue (has (name ∷ flat_map (chain_within most world) (superclass_of world name)) x)) (sym same) (has_head name _)
  above_on_chain (suc most) name above within (inr up) plain =
      let step = first_step world name above up in
      elim (has_append (superclass_of world name) (interfaces_of world name) step.0 step.1) [
        | inl upper ↦ has_tail name above (flat_map (chain_within most world) (superclass_of world name))
            (from_has (chain_within most world) (superclass_of world name) step.0 above upper
            (above_on_chain most step.0 above (within_superclass most world name step.0 within upper) step.2 plain))
        | inr own ↦ absurd (no_plain_above step.0 above (interface_above world linked name step.0 own) step.2 plain)
      ]

  on_chain : (name above : List ℕ) → IsTrue (is_there world name) → IsAtOrAbove world name above → IsPlain world above → IsTrue (has (chain world name) above)
  on_chain name above there way plain =
      above_on_chain (length world.classes) name above (classes_are_enough world name (is_linked world linked).sound there) way plain

  -- what may stand for a plain class is of a class at or below it
  pub class_below : (name class : List ℕ) → IsPlain world class → (bytes_eq class java_object || class_assignable world name class) ≡ true → IsAtOrAbove world name class
  class_below name class plain h = elim (or_cases (bytes_eq class java_object) (class_assignable world name class) h) [
    | inl same ↦ absurd (both_ways _ plain.no_object same)
    | inr goes ↦ elim (or_cases (bytes_eq name class || names_interface world class) (is_sub world name class) goes) [
      | inl less ↦ elim (or_cases (bytes_eq name class) (names_interface world class) less) [
        | inl same ↦ inl (sym (same_text name class same))
        | inr own ↦ absurd (both_ways _ plain.no_interface own)
      ]
      | inr sub ↦ sub_is_above world name class sub
    ]
  ]

  -- Above a String is java/lang/Object alone.
  pub above_string : (above : List ℕ) → IsAtOrAbove world java_string above → (above ≡ java_string) ⊎ (above ≡ java_object)
  above_string above (inl same) = inl same
  above_string above (inr up) =
      let step = first_step world java_string above up in
      let names = ap (λ (w : World). direct_supertypes w java_string) (is_linked world linked).is ∙ string_below_object linked.classes in
      let upper : IsTrue (has (java_object ∷ []) step.0) = subst (λ (x : List (List ℕ)). IsTrue (has x step.0)) names step.1 in
      inr (object_above above (subst (λ (x : List ℕ). IsAtOrAbove world x above) (only upper) step.2))
    where
      only : {n : List ℕ} → IsTrue (has (java_object ∷ []) n) → n ≡ java_object
      only {n} h = elim (or_cases (bytes_eq n java_object) false h) [ inl same ↦ same_text n java_object same | inr none ↦ absurd cc ]

      object_above : (n : List ℕ) → IsAtOrAbove world java_object n → n ≡ java_object
      object_above n (inl same) = same
      object_above n (inr more) = let next = first_step world java_object n more in absurd ((world_is_orderly world linked).topmost next.0 next.1)

  -- A String has no field.
  no_string_field : (name owner : List ℕ) (class : Class) (field : MemberReference) → IsAtOrAbove world name owner → IsPlain world owner
      → class_in world owner ≡ Some class → list_any (same_member field) (declared false class) ≡ true → bytes_eq name java_string ≡ false
  no_string_field name owner class field way plain is among =
      false_from_ne_true (bytes_eq name java_string) (λ same.
      elim (above_string owner (subst (λ (n : List ℕ). IsAtOrAbove world n owner) (same_text name java_string same) way)) [
        | inl own ↦
            let here : class_in (world_of boot_table linked.classes) java_string ≡ Some class =
            ap (λ (w : World). class_in w java_string) (sym (is_linked world linked).is) ∙ ap (class_in world) (sym own) ∙ is in
            let fields = ap (λ (o : Option Class). list_any (same_member field) (flat_map (declared false) (option_to_list o))) (sym here) ∙ string_has_none linked.classes field in
            both_ways _ fields (list_any-append (same_member field) (declared false class) [] ∙ or_left _ false among)
        | inr own ↦ both_ways _ plain.no_object (text_same owner java_object own)
      ])

  -- What a plain class declares is in the objects of each class below it.
  pub place_use : (class owner : List ℕ) (declaring : Class) (field : MemberReference) → IsPlain world class → IsAtOrAbove world class owner → IsPlain world owner
      → class_in world owner ≡ Some declaring → list_any (same_member field) (declared false declaring) ≡ true → PlaceUse world class field
  unfolding may_stand
  place_use class owner declaring field plain above own is among = record {
    objects = λ name present may.
        (let way = up_to world name class owner (class_below name class plain may) above in
        let found = passes_some _ (class_in world name) present in
        let there = some_passes (λ (c : Class). true) (class_in world name) found.0 found.1 refl in
        has_place world name field (no_string_field name owner declaring field way own is among)
        (layout_has world name owner declaring field (on_chain name owner there way own) is among));
    no_arrays = λ component. neither (bytes_eq class java_object) (names_interface world class) plain.no_object plain.no_interface;
  }
    where
      neither : (a b : Bool) → a ≡ false → b ≡ false → (a || b) ≡ false
      neither false b p q = q
      neither true b p q = absurd cc
