-- A way upwards that comes to a class goes on as the class's own.
use Rattle.std.proofs.Common.{◌≡◌, ℕ, zero, suc, Bool, true, false, List, [], ◌∷◌, ◌++◌, Option, Some, None, length, refl, sym, ap, subst, ◌∙◌, inl, inr, arith}
use Rattle.std.specs.Prelude.{IsTrue, ◌⊎◌, ◌||◌, ◌&&◌, if◌then◌else◌, bytes_eq, map, filter, slice_get, reverse, flat_map, option_to_list}
use Rattle.std.specs.List.{list_any}
use Rattle.std.specs.Bool.{beq}
use Rattle.std.proofs.lemmas.Bool.{or_cases, or_left, or_right, cases_lt, both_ways, false_from_ne_true, and_parts}
use Rattle.std.proofs.lemmas.List.{append-nil, reverse-append}
use Rattle.std.proofs.lemmas.List.Concat.{flat_map-append}
use Rattle.std.proofs.lemmas.List.Folds.{list_any-append}
use Rattle.jv_model.specs.Operand.{MemberReference}
use Rattle.world_model.specs.World.{World, Class, Field, class_in, is_static_field}
use Rattle.world_model.specs.Supertypes.{superclass_of, chain_within, chain}
use Rattle.world_model.specs.Layout.{declared, layout}
use Rattle.world_model.specs.Members.{same_member, field_of}
use Rattle.link_laws.specs.Above.{has, is_there, IsSound, IsWithin, IsAtOrAbove}
use Rattle.link_laws.proofs.Above.{classes_are_enough, first_step, below_is_there}
use Rattle.link_laws.proofs.Fuel.{same_chain, within_superclass}
use Rattle.link_laws.proofs.Lists.{some_passes}
use Rattle.link_laws.proofs.Names.{same_text, has_head, has_tail, has_cases}
use Rattle.link_laws.proofs.Orders.{chain_above}
use Rattle.linked_laws.proofs.Classes.{found_named}
use Rattle.look_up_cache.proofs.Last.{any_reverse}

-- Names of which the first that is another one begins what is left.
pub record IsSplit (names : List (List ℕ)) (above : List ℕ) (rest : List (List ℕ)) : Type 0 where
  pub front : List (List ℕ)
  pub are : names ≡ front ++ rest
  pub before : has front above ≡ false

-- a class has no superclass or one
superclass_cases : (world : World) (name : List ℕ) → (superclass_of world name ≡ []) ⊎ ((upper : List ℕ) × (superclass_of world name ≡ upper ∷ []))
superclass_cases world name = of (class_in world name)
  where
    of_class : (superclass : Option (List ℕ)) → (option_to_list superclass ++ [] ≡ []) ⊎ ((upper : List ℕ) × (option_to_list superclass ++ [] ≡ upper ∷ []))
    of_class None = inl refl
    of_class (Some upper) = inr (upper, refl)

    of : (class : Option Class)
        → (flat_map (λ (c : Class). option_to_list c.superclass) (option_to_list class) ≡ [])
        ⊎ ((upper : List ℕ) × (flat_map (λ (c : Class). option_to_list c.superclass) (option_to_list class) ≡ upper ∷ []))
    of None = inl refl
    of (Some class) = of_class class.superclass

-- more fuel than a way upwards needs changes nothing, nor does less, where it's enough
same_ways : (world : World) (most : ℕ) (name : List ℕ) → IsWithin world most name → IsWithin world (length world.classes) name
    → chain_within most world name ≡ chain world name
same_ways world most name within enough = elim (cases_lt most (length world.classes)) [
  | inl less ↦ sym (same_chain most (length world.classes) world name within (omega arith))
  | inr more ↦ same_chain (length world.classes) most world name enough more
]

-- what is to be shown of less fuel
abbrev Splits : World → ℕ → List ℕ → Type 0
Splits world most above = (upper : List ℕ) → IsWithin world most upper → IsTrue (has (chain_within most world upper) above)
    → IsSplit (chain_within most world upper) above (chain world above)

pub chain_split : (world : World) (most : ℕ) (name above : List ℕ) → IsWithin world most name → IsWithin world (length world.classes) above
    → IsTrue (has (chain_within most world name) above) → IsSplit (chain_within most world name) above (chain world above)
unfolding chain_within
chain_split world zero name above within enough on = absurd within
chain_split world (suc most) name above within enough on =
    by (λ upper inside up. chain_split world most upper above inside enough up) (bytes_eq above name) refl
  where
    further : Splits world most above → bytes_eq above name ≡ false → (upper : List ℕ) → superclass_of world name ≡ upper ∷ []
        → IsTrue (has (chain_within most world upper) above)
        → IsSplit (name ∷ flat_map (chain_within most world) (superclass_of world name)) above (chain world above)
    further again other upper is up =
        let direct : IsTrue (has (superclass_of world name) upper) = subst (λ (names : List (List ℕ)). IsTrue (has names upper)) (sym is) (has_head upper []) in
        let split = again upper (within_superclass most world name upper within direct) up in
        record {
          front = name ∷ split.front;
          are = ap (λ (names : List (List ℕ)). name ∷ flat_map (chain_within most world) names) is
              ∙ ap (λ (names : List (List ℕ)). name ∷ names) (append-nil (chain_within most world upper) ∙ split.are);
          before = (λ i. other i || split.before i);
        }

    by : Splits world most above → (b : Bool) → bytes_eq above name ≡ b → IsSplit (name ∷ flat_map (chain_within most world) (superclass_of world name)) above (chain world above)
    by again true same =
        let is : above ≡ name = same_text above name same in
        record {
          front = [];
          are = same_ways world (suc most) name within (subst (λ (n : List ℕ). IsWithin world (length world.classes) n) is enough) ∙ ap (chain world) (sym is);
          before = refl;
        }
    by again false other = elim (or_cases (bytes_eq above name) (has (flat_map (chain_within most world) (superclass_of world name)) above) on) [
      | inl same ↦ absurd (both_ways (bytes_eq above name) other same)
      | inr up ↦ elim (superclass_cases world name) [
        | inl none ↦ absurd (both_ways _ refl (sym (ap (λ (names : List (List ℕ)). has (flat_map (chain_within most world) names) above) none) ∙ up))
        | inr one ↦ further again other one.0 one.1
            (sym (ap (λ (names : List (List ℕ)). has names above) (append-nil (chain_within most world one.0)))
            ∙ sym (ap (λ (names : List (List ℕ)). has (flat_map (chain_within most world) names) above) one.1) ∙ up)
      ]
    ]

-- a way upwards begins with its class
begins : (world : World) (name : List ℕ) (count : ℕ) → length world.classes ≡ suc count → IsTrue (has (chain world name) name)
unfolding chain_within
begins world name count some =
    subst (λ (n : ℕ). IsTrue (has (chain_within n world name) name)) (sym some)
    (has_head name (flat_map (chain_within count world) (superclass_of world name)))

-- ---- layouts

abbrev pub classes_of : World → List (List ℕ) → List Class
classes_of world names = flat_map (λ name. option_to_list (class_in world name)) names

-- the layout of a class begins with that of each class above it
pub layout_split : (world : World) (class above : List ℕ) (split : IsSplit (chain world class) above (chain world above))
    → layout world class ≡ layout world above ++ flat_map (declared false) (classes_of world (reverse split.front))
unfolding layout
layout_split world class above split =
    let names : reverse (chain world class) ≡ reverse (chain world above) ++ reverse split.front = ap reverse split.are ∙ reverse-append split.front (chain world above) in
    ap (λ (names : List (List ℕ)). flat_map (declared false) (classes_of world names)) names
    ∙ ap (flat_map (declared false)) (flat_map-append (λ name. option_to_list (class_in world name)) (reverse (chain world above)) (reverse split.front))
    ∙ flat_map-append (declared false) (classes_of world (reverse (chain world above))) (classes_of world (reverse split.front))

-- a field is among those of a class that pass a test
pub record IsOwn (test : Field → Bool) (class : Class) (fields : List Field) (field : MemberReference) : Type 0 where
  pub index : ℕ
  pub member : Field
  pub at : slice_get fields index ≡ Some member
  pub passes : test member ≡ true
  pub same : same_member field (field_of class member) ≡ true

own_later : (test : Field → Bool) (class : Class) (first : Field) (fields : List Field) (field : MemberReference)
    → IsOwn test class fields field → IsOwn test class (first ∷ fields) field
own_later test class first fields field own =
    record { index = suc own.index; member = own.member; at = own.at; passes = own.passes; same = own.same }

pub among_own : (test : Field → Bool) (class : Class) (fields : List Field) (field : MemberReference)
    → list_any (same_member field) (map (field_of class) (filter test fields)) ≡ true → IsOwn test class fields field
among_own test class [] field h = absurd cc
among_own test class (f ∷ fields) field h = by (λ rest. own_later test class f fields field (among_own test class fields field rest)) (test f) refl h
  where
    by : (list_any (same_member field) (map (field_of class) (filter test fields)) ≡ true → IsOwn test class (f ∷ fields) field)
        → (b : Bool) → test f ≡ b
        → list_any (same_member field) (map (field_of class) (if b then f ∷ filter test fields else filter test fields)) ≡ true
        → IsOwn test class (f ∷ fields) field
    by later false fails h = later h
    by later true passes h = elim (or_cases (same_member field (field_of class f)) (list_any (same_member field) (map (field_of class) (filter test fields))) h) [
      | inl here ↦ record { index = 0; member = f; at = refl; passes = passes; same = here }
      | inr there ↦ later there
    ]

pub own_among : (test : Field → Bool) (class : Class) (fields : List Field) (field : MemberReference) → IsOwn test class fields field
    → list_any (same_member field) (map (field_of class) (filter test fields)) ≡ true
own_among test class fields field own = go fields own.index own.at
  where
    go : (fields : List Field) (k : ℕ) → slice_get fields k ≡ Some own.member
        → list_any (same_member field) (map (field_of class) (filter test fields)) ≡ true
    go [] k at = absurd cc
    go (f ∷ fields) zero at =
        let is : f ≡ own.member = cc in
        ap (λ (b : Bool). list_any (same_member field) (map (field_of class) (if b then f ∷ filter test fields else filter test fields))) (ap test is ∙ own.passes)
        ∙ or_left (same_member field (field_of class f)) (list_any (same_member field) (map (field_of class) (filter test fields)))
        (ap (λ (g : Field). same_member field (field_of class g)) is ∙ own.same)
    go (f ∷ fields) (suc k) at = by (test f) (go fields k at)
      where
        by : (b : Bool) → list_any (same_member field) (map (field_of class) (filter test fields)) ≡ true
            → list_any (same_member field) (map (field_of class) (if b then f ∷ filter test fields else filter test fields)) ≡ true
        by false rest = rest
        by true rest = or_right (same_member field (field_of class f)) (list_any (same_member field) (map (field_of class) (filter test fields))) rest

-- an instance field, as the layout has it
abbrev pub is_of_objects : Field → Bool
is_of_objects f = beq (is_static_field f) false

module _ (world : World) (field : MemberReference) where
  -- The field's class is among the names, is there, and declares it for its objects.
  pub record IsOf (names : List (List ℕ)) : Type 0 where
    pub among : IsTrue (has names field.class)
    pub class : Class
    pub at : class_in world field.class ≡ Some class
    pub own : IsOwn is_of_objects class class.fields field

  pub is_of_there : (names : List (List ℕ)) → IsOf names → IsTrue (is_there world field.class)
  is_of_there names of = some_passes (λ (c : Class). true) (class_in world field.class) of.class of.at refl

  class_of_own : (test : Field → Bool) (class : Class) (fields : List Field) → IsOwn test class fields field → field.class ≡ class.name
  class_of_own test class fields own =
      same_text field.class class.name (and_parts (bytes_eq field.name own.member.name && bytes_eq field.descriptor own.member.descriptor) (bytes_eq field.class class.name) own.same).1

  from_class : (class : Option Class) (name : List ℕ) (names : List (List ℕ)) → class_in world name ≡ class
      → list_any (same_member field) (flat_map (declared false) (option_to_list class)) ≡ true → IsOf (name ∷ names)
  from_class None name names at h = absurd cc
  from_class (Some class) name names at h =
      let own = among_own is_of_objects class class.fields field (sym (ap (list_any (same_member field)) (append-nil (declared false class))) ∙ h) in
      let is : field.class ≡ name = class_of_own is_of_objects class class.fields own ∙ found_named world name class at in
      record {
        among = subst (λ (n : List ℕ). IsTrue (has (name ∷ names) n)) (sym is) (has_head name names);
        class = class;
        at = ap (class_in world) is ∙ at;
        own = own;
      }

  -- what some classes declare is of one of them
  pub from_classes : (names : List (List ℕ)) → list_any (same_member field) (flat_map (declared false) (classes_of world names)) ≡ true → IsOf names
  from_classes [] h = absurd cc
  from_classes (name ∷ names) h =
      let apart = sym (ap (list_any (same_member field)) (flat_map-append (declared false) (option_to_list (class_in world name)) (classes_of world names))
      ∙ list_any-append (same_member field) (flat_map (declared false) (option_to_list (class_in world name))) (flat_map (declared false) (classes_of world names))) ∙ h in
      elim (or_cases _ _ apart) [
        | inl here ↦ from_class (class_in world name) name names refl here
        | inr further ↦ let rest = from_classes names further in record { among = has_tail name field.class names rest.among; class = rest.class; at = rest.at; own = rest.own }
      ]

  has_reverse : (names : List (List ℕ)) (n : List ℕ) → has (reverse names) n ≡ has names n
  has_reverse names n = any_reverse (bytes_eq n) names

  -- a field in a layout is of a class on the way upwards
  pub from_layout : (class : List ℕ) → list_any (same_member field) (layout world class) ≡ true → IsOf (chain world class)
  unfolding layout
  from_layout class h =
      let found = from_classes (reverse (chain world class)) h in
      record { among = sym (has_reverse (chain world class) field.class) ∙ found.among; class = found.class; at = found.at; own = found.own }

  -- what comes before the class of a field on the way upwards has another class's fields
  pub none_before : (class : List ℕ) (split : IsSplit (chain world class) field.class (chain world field.class))
      → list_any (same_member field) (flat_map (declared false) (classes_of world (reverse split.front))) ≡ false
  none_before class split =
      false_from_ne_true _ (λ h. both_ways (has split.front field.class) split.before
      (sym (has_reverse split.front field.class) ∙ (from_classes (reverse split.front) h).among))

  pub split_at : IsSound world → (class : List ℕ) → IsOf (chain world class) → IsSplit (chain world class) field.class (chain world field.class)
  split_at sound class of =
      chain_split world (length world.classes) class field.class (classes_are_enough world class sound (there (chain_above (length world.classes) world class field.class of.among)))
      (classes_are_enough world field.class sound (is_of_there (chain world class) of)) of.among
    where
      there : IsAtOrAbove world class field.class → IsTrue (is_there world class)
      there (inl same) = subst (λ (n : List ℕ). IsTrue (is_there world n)) same (is_of_there (chain world class) of)
      there (inr up) = let step = first_step world class field.class up in below_is_there world class step.0 step.1

  -- what a class of some names declares for its objects is in what these classes declare
  pub in_classes : (names : List (List ℕ)) (class : Class) → IsTrue (has names field.class) → class_in world field.class ≡ Some class
      → IsOwn is_of_objects class class.fields field → list_any (same_member field) (flat_map (declared false) (classes_of world names)) ≡ true
  in_classes [] class on at own = absurd cc
  in_classes (name ∷ names) class on at own =
      ap (list_any (same_member field)) (flat_map-append (declared false) (option_to_list (class_in world name)) (classes_of world names))
      ∙ list_any-append (same_member field) (flat_map (declared false) (option_to_list (class_in world name))) (flat_map (declared false) (classes_of world names))
      ∙ (elim (has_cases name field.class names on) [
        | inl same ↦ or_left _ (list_any (same_member field) (flat_map (declared false) (classes_of world names)))
            (ap (λ (o : Option Class). list_any (same_member field) (flat_map (declared false) (option_to_list o))) (ap (class_in world) (sym same) ∙ at)
            ∙ ap (list_any (same_member field)) (append-nil (declared false class))
            ∙ own_among is_of_objects class class.fields field own)
        | inr other ↦ or_right (list_any (same_member field) (flat_map (declared false) (option_to_list (class_in world name)))) _ (in_classes names class other at own)
      ])

  -- so it's in the layout of the class
  pub in_layout : (class : Class) (count : ℕ) → length world.classes ≡ suc count → class_in world field.class ≡ Some class
      → IsOwn is_of_objects class class.fields field → list_any (same_member field) (layout world field.class) ≡ true
  unfolding layout
  in_layout class count some at own =
      in_classes (reverse (chain world field.class)) class
      (has_reverse (chain world field.class) field.class ∙ begins world field.class count some) at own
