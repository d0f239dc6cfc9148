-- The types above a class, by number and by name.
use Rattle.std.proofs.Common.{◌≡◌, ℕ, suc, ◌<◌, ◌==◌, Bool, true, false, ◌&&◌, List, [], ◌∷◌, ◌++◌, Option, Some, None, length, map, position, slice_get, get_or, nat_lt, bytes_eq, option_map, option_and_then, option_to_list, is_some, flat_map, IsTrue, inl, inr, ap, sym, subst, ◌∙◌, refl, arith}
use Rattle.std.specs.List.{list_any, list_all, cons_option, IsDistinct}
use Rattle.std.proofs.lemmas.Cmp.{nat_list_eq_equiv}
use Rattle.std.proofs.lemmas.Bool.{false≢true, or_cases, or_left, or_right}
use Rattle.std.proofs.lemmas.Bool.Decides.{Decides-eqb}
use Rattle.std.proofs.lemmas.List.{length-map, append-nil, map-append}
use Rattle.std.proofs.lemmas.List.Elements.{filter_map-append}
use Rattle.std.proofs.lemmas.List.Folds.{list_any_at}
use Rattle.std.proofs.lemmas.Option.{slice_get-map, get_or_from_slice_get}
use Rattle.class_names.proofs.Lists.{list_any-map}
use Rattle.class_graph.specs.Graph.{children_at, is_in, are_inside, IsGraph, Reaches, here, further, IsPreorder}
use Rattle.class_graph.proofs.Sets.{in_none, in_head, in_tail, in_cons}
use Rattle.class_graph.proofs.Walks.{inside_of}
use Rattle.link_laws.specs.Above.{has, is_there, IsDirectly, IsAbove, directly, further as goes_on, IsAtOrAbove}
use Rattle.link_laws.proofs.Names.{has_append, has_left, has_right}
use Rattle.link_laws.proofs.Above.{first_step, below_is_there, directly_above, above_above}
use Rattle.link_laws.proofs.Cycles.{is_cyclic_is_above_itself}
use Rattle.link_model.specs.SupertypeFaults.{is_cyclic}
use Rattle.world_model.specs.World as model
use Rattle.world_model.specs.World.{class_in}
use Rattle.world_model.specs.Supertypes.{superclass_of, interfaces_of}
use Rattle.jv_types.specs.declared.number.ClassNo.{ClassNo}
use Rattle.class_world.specs.declared.class_info.ClassInfo.{ClassInfo}
use Rattle.class_world.specs.World.{class_of_origin, names_of_infos, world_of_infos, names_of, name_at, number_of, numbers_of, AreInfos, supertypes_of}
use Rattle.class_world.proofs.Places.{some-position, stands_inside, text_at_place, bytes_eq-places}
use Rattle.class_world.proofs.Numbers.{number, name_of, class_in-position, list_any-numbers}
use Rattle.class_world.proofs.LookUps.{numbers_inside}

-- the numbers without their type
abbrev pub plain : List ClassNo → List ℕ
plain classes = map (λ (c : ClassNo). c.0) classes

some_from_test : {A : Type 0} (o : Option A) → is_some o ≡ true → (x : A) × (o ≡ Some x)
some_from_test None h = absurd (false≢true h)
some_from_test (Some x) h = (x, refl)

-- a text is found at its own place
pub own_place : (texts : List (List ℕ)) → IsDistinct bytes_eq texts → (k : ℕ) → k < length texts
    → position (bytes_eq (get_or texts k [])) texts ≡ Some k
own_place texts distinct k inside =
    let text = get_or texts k [] in
    let found = some_from_test (position (bytes_eq text) texts)
    (some-position (bytes_eq text) texts ∙ list_any_at (bytes_eq text) texts k [] inside (nat_list_eq_equiv.refl text)) in
    let at = text_at_place texts text found.0 found.1 in
    let same = sym (bytes_eq-places texts distinct k found.0 inside at.0) ∙ ap (bytes_eq text) (sym at.1) ∙ nat_list_eq_equiv.refl text in
    found.1 ∙ ap (λ (n : ℕ). Some n) (sym ((Decides-eqb k found.0).0 same))

numbers-option : (world : model.World) (name : Option (List ℕ))
    → numbers_of world (option_to_list name) ≡ option_to_list (option_and_then (number_of world) name)
numbers-option world None = refl
numbers-option world (Some name) = by (number_of world name)
  where
    by : (o : Option ClassNo) → cons_option o [] ≡ option_to_list o
    by None = refl
    by (Some c) = refl

pub list_all-map : {A B : Type 0} (p : B → Bool) (f : A → B) (xs : List A) → list_all p (map f xs) ≡ list_all (λ x. p (f x)) xs
list_all-map p f [] = refl
list_all-map p f (x ∷ xs) = λ i. p (f x) && list_all-map p f xs i

pub list_all-from_get_or : {A : Type 0} (p : A → Bool) (xs : List A) (d : A) → ((i : ℕ) → i < length xs → p (get_or xs i d) ≡ true)
    → IsTrue (list_all p xs)
list_all-from_get_or p [] d each = refl
list_all-from_get_or p (x ∷ xs) d each =
    let first = each 0 (omega arith) in
    let rest = list_all-from_get_or p xs d (λ i inside. each (suc i) (omega arith)) in
    λ i. first i && rest i

same_tests : (a b : Bool) → (a ≡ true → b ≡ true) → (b ≡ true → a ≡ true) → a ≡ b
same_tests true b to from = sym (to refl)
same_tests false true to from = from refl
same_tests false false to from = refl

any_in : (p : ℕ → Bool) (xs : List ℕ) → list_any p xs ≡ true → (z : ℕ) × IsTrue (is_in xs z) × IsTrue (p z)
any_in p [] found = absurd (false≢true found)
any_in p (x ∷ xs) found = elim (or_cases (p x) (list_any p xs) found) [
  | inl first ↦ (x, in_head x xs, first)
  | inr rest ↦ let at = any_in p xs rest in (at.0, in_tail x xs at.0 at.1, at.2)
]

in_any : (p : ℕ → Bool) (xs : List ℕ) (z : ℕ) → IsTrue (is_in xs z) → IsTrue (p z) → list_any p xs ≡ true
in_any p [] z there passes = absurd (in_none z there)
in_any p (x ∷ xs) z there passes = elim (in_cons x xs z there) [
  | inl same ↦ or_left (p x) (list_any p xs) (subst (λ (n : ℕ). IsTrue (p n)) same passes)
  | inr rest ↦ or_right (p x) (list_any p xs) (in_any p xs z rest passes)
]

module _ (world : model.World) (distinct : IsDistinct bytes_eq (names_of world)) where
  count : (k : ℕ) → k < length world.classes → k < length (names_of world)
  count k inside = omega (arith, inside, length-map world.classes name_of)

  -- the class of a number has its name
  pub class_in-number : (k : ClassNo) → k.0 < length world.classes → class_in world (name_at world k) ≡ slice_get world.classes k.0
  class_in-number k inside =
      class_in-position world (name_at world k)
      ∙ ap (option_and_then (slice_get world.classes)) (own_place (names_of world) distinct k.0 (count k.0 inside))

  -- a class that is there has a number
  pub number_there : (name : List ℕ) → IsTrue (is_there world name)
      → (k : ClassNo) × (k.0 < length world.classes) × (name ≡ name_at world k)
  number_there name there = by (position (bytes_eq name) (names_of world)) refl (class_in-position world name)
    where
      by : (o : Option ℕ) → position (bytes_eq name) (names_of world) ≡ o
          → class_in world name ≡ option_and_then (slice_get world.classes) (position (bytes_eq name) (names_of world))
          → (k : ClassNo) × (k.0 < length world.classes) × (name ≡ name_at world k)
      by None is found =
          let absent = found ∙ ap (option_and_then (slice_get world.classes)) is in
          absurd (false≢true (rw absent at there))
      by (Some k) is found =
          let at = text_at_place (names_of world) name k is in
          (number k, omega (arith, at.0, length-map world.classes name_of), at.1)

  module _ (graph : List (List ℕ))
      (rows : (k : ClassNo) → k.0 < length world.classes → children_at graph k.0
      ≡ plain (numbers_of world (interfaces_of world (name_at world k) ++ superclass_of world (name_at world k)))) where
    -- a step upwards by number
    in_rows : (k j : ClassNo) → k.0 < length world.classes → j.0 < length world.classes
        → is_in (children_at graph k.0) j.0
        ≡ has (interfaces_of world (name_at world k) ++ superclass_of world (name_at world k)) (name_at world j)
    in_rows k j k_in j_in =
        let names = interfaces_of world (name_at world k) ++ superclass_of world (name_at world k) in
        ap (λ (l : List ℕ). is_in l j.0) (rows k k_in)
        ∙ list_any-map (λ n. j.0 == n) (λ (c : ClassNo). c.0) (numbers_of world names)
        ∙ sym (list_any-numbers world distinct j j_in names)

    pub step_by_name : (k j : ClassNo) → k.0 < length world.classes → j.0 < length world.classes
        → IsTrue (is_in (children_at graph k.0) j.0) → IsDirectly world (name_at world k) (name_at world j)
    step_by_name k j k_in j_in step =
        let below = name_at world k in
        elim (has_append (interfaces_of world below) (superclass_of world below) (name_at world j) (sym (in_rows k j k_in j_in) ∙ step)) [
          | inl interface ↦ has_right (superclass_of world below) (interfaces_of world below) (name_at world j) interface
          | inr superclass ↦ has_left (superclass_of world below) (interfaces_of world below) (name_at world j) superclass
        ]

    pub step_by_number : (k j : ClassNo) → k.0 < length world.classes → j.0 < length world.classes
        → IsDirectly world (name_at world k) (name_at world j) → IsTrue (is_in (children_at graph k.0) j.0)
    step_by_number k j k_in j_in step =
        let below = name_at world k in
        in_rows k j k_in j_in ∙ (elim (has_append (superclass_of world below) (interfaces_of world below) (name_at world j) step) [
          | inl superclass ↦ has_right (interfaces_of world below) (superclass_of world below) (name_at world j) superclass
          | inr interface ↦ has_left (interfaces_of world below) (superclass_of world below) (name_at world j) interface
        ])

    child_inside : (k : ClassNo) → k.0 < length world.classes → (j : ℕ) → IsTrue (is_in (children_at graph k.0) j) → j < length world.classes
    child_inside k k_in j step =
        let names = interfaces_of world (name_at world k) ++ superclass_of world (name_at world k) in
        inside_of (length world.classes) (plain (numbers_of world names)) j
        (list_all-map (λ n. nat_lt n (length world.classes)) (λ (c : ClassNo). c.0) (numbers_of world names) ∙ numbers_inside world names)
        (subst (λ (l : List ℕ). IsTrue (is_in l j)) (rows k k_in) step)

    -- what is reached by number is at or above by name
    reached_is_above : (k z : ℕ) → Reaches graph k z → k < length world.classes
        → IsAtOrAbove world (name_at world (number k)) (name_at world (number z))
    reached_is_above k z (here _) k_in = inl refl
    reached_is_above k z (further _ next _ step rest) k_in =
        let next_in = child_inside (number k) k_in next step in
        inr (directly_above world (name_at world (number k)) (name_at world (number next)) (name_at world (number z))
        (step_by_name (number k) (number next) k_in next_in step) (reached_is_above next z rest next_in))

    -- the last step of a way upwards, which goes through nodes that are closed upwards
    last_step : (nodes : List ℕ)
        → ((node child : ℕ) → IsTrue (is_in nodes node) → IsTrue (is_in (children_at graph node) child) → IsTrue (is_in nodes child))
        → (j : ClassNo) → j.0 < length world.classes → (below above : List ℕ) → IsAbove world below above → above ≡ name_at world j
        → (k : ClassNo) → k.0 < length world.classes → below ≡ name_at world k → IsTrue (is_in nodes k.0)
        → (z : ℕ) × IsTrue (is_in nodes z) × IsTrue (is_in (children_at graph z) j.0)
    last_step nodes closed j j_in below above (directly _ _ step) is_above k k_in is_below there = (
      k.0,
      there,
      step_by_number k j k_in j_in
          (subst (λ (n : List ℕ). IsDirectly world n (name_at world j)) is_below (subst (λ (n : List ℕ). IsDirectly world below n) is_above step)),
    )
    last_step nodes closed j j_in below above (goes_on _ between _ step rest) is_above k k_in is_below there =
        let up = first_step world between above rest in
        let m = number_there between (below_is_there world between up.0 up.1) in
        let by_number = step_by_number k m.0 k_in m.1
        (subst (λ (n : List ℕ). IsDirectly world n (name_at world m.0)) is_below (subst (λ (n : List ℕ). IsDirectly world below n) m.2 step)) in
        last_step nodes closed j j_in between above rest is_above m.0 m.1 m.2 (closed k.0 m.0.0 there by_number)

    -- a class is above itself exactly where it's a child of a node that it reaches
    pub cyclic_by_number : (k : ClassNo) → k.0 < length world.classes → (nodes : List ℕ) → IsPreorder graph k.0 nodes
        → length graph ≡ length world.classes
        → list_any (λ node. is_in (children_at graph node) k.0) nodes ≡ is_cyclic world (name_at world k)
    cyclic_by_number k k_in nodes walk sizes =
        let name = name_at world k in
        same_tests (list_any (λ node. is_in (children_at graph node) k.0) nodes) (is_cyclic world name)
        (λ found.
        let at = any_in (λ node. is_in (children_at graph node) k.0) nodes found in
        let z_in : at.0 < length world.classes = subst (λ (n : ℕ). at.0 < n) sizes (inside_of (length graph) nodes at.0 walk.inside at.1) in
        let step = step_by_name (number at.0) k z_in k_in at.2 in
        (is_cyclic_is_above_itself world name).1
        (elim (reached_is_above k.0 at.0 (walk.reached at.0 at.1) k_in) [
          | inl same ↦ directly name name (subst (λ (n : List ℕ). IsDirectly world n name) same step)
          | inr above ↦ above_above world name (name_at world (number at.0)) name above (directly (name_at world (number at.0)) name step)
        ]))
        (λ cyclic.
        let found = last_step nodes walk.closed k k_in name name ((is_cyclic_is_above_itself world name).0 cyclic) refl k k_in refl walk.begins in
        in_any (λ node. is_in (children_at graph node) k.0) nodes found.0 found.1 found.2)

-- ---- rows of the supertypes

module _ (infos : List ClassInfo) (are : AreInfos infos) where
  -- the rows of all classes are those of their names
  pub rows_of_infos : (k : ClassNo) → k.0 < length (world_of_infos infos).classes
      → children_at (map supertypes_of infos) k.0
      ≡ plain (numbers_of (world_of_infos infos) (interfaces_of (world_of_infos infos) (name_at (world_of_infos infos) k) ++ superclass_of (world_of_infos infos) (name_at (world_of_infos infos) k)))
  rows_of_infos k inside =
      let world = world_of_infos infos in
      let class_of = λ (i : ClassInfo). class_of_origin (names_of_infos infos) i.origin in
      let here : k.0 < length infos = omega (arith, inside, length-map infos class_of) in
      let info = stands_inside infos k.0 here in
      let class = class_of info.0 in
      let is = are.each_info k.0 info.0 info.1 in
      let at = slice_get-map class_of infos k.0 ∙ ap (option_map class_of) info.1 in
      let found = class_in-number world are.names_apart k inside ∙ at in
      let own = numbers_of world class.interfaces in
      let above = option_to_list (option_and_then (number_of world) class.superclass) in
      get_or_from_slice_get (map supertypes_of infos) k.0 (supertypes_of info.0) []
      (slice_get-map supertypes_of infos k.0 ∙ ap (option_map supertypes_of) info.1)
      ∙ ap (λ (l : List ClassNo). plain l ++ plain (option_to_list info.0.superclass)) is.interfaces
      ∙ ap (λ (o : Option ClassNo). plain own ++ plain (option_to_list o)) is.superclass
      ∙ sym (map-append (λ (c : ClassNo). c.0) own above)
      ∙ ap (λ (l : List ClassNo). plain (own ++ l)) (sym (numbers-option world class.superclass))
      ∙ ap plain (sym (filter_map-append (number_of world) class.interfaces (option_to_list class.superclass)))
      ∙ ap (λ (l : List (List ℕ)). plain (numbers_of world (l ++ option_to_list class.superclass))) (sym (append-nil class.interfaces))
      ∙ ap (λ (l : List (List ℕ)). plain (numbers_of world ((class.interfaces ++ []) ++ l))) (sym (append-nil (option_to_list class.superclass)))
      ∙ ap (λ (o : Option model.Class). plain (numbers_of world
      (flat_map (λ (c : model.Class). c.interfaces) (option_to_list o) ++ flat_map (λ (c : model.Class). option_to_list c.superclass) (option_to_list o)))) (sym found)

  pub is_graph_of_infos : IsGraph (map supertypes_of infos)
  is_graph_of_infos =
      let world = world_of_infos infos in
      let class_of = λ (i : ClassInfo). class_of_origin (names_of_infos infos) i.origin in
      let count = length (map supertypes_of infos) in
      list_all-from_get_or (are_inside count) (map supertypes_of infos) []
      (λ i inside.
      let here : i < length world.classes = omega (arith, inside, length-map infos class_of, length-map infos supertypes_of) in
      let names = interfaces_of world (name_at world (number i)) ++ superclass_of world (name_at world (number i)) in
      let sizes : length world.classes ≡ count = omega (arith, length-map infos class_of, length-map infos supertypes_of) in
      subst (λ (l : List ℕ). IsTrue (are_inside count l)) (sym (rows_of_infos (number i) here))
      (list_all-map (λ n. nat_lt n count) (λ (c : ClassNo). c.0) (numbers_of world names)
      ∙ subst (λ (n : ℕ). IsTrue (list_all (λ (c : ClassNo). nat_lt c.0 n) (numbers_of world names))) sizes (numbers_inside world names)))

  -- a class of those is cyclic exactly where it's a child of a node that it reaches
  pub cyclic_of_infos : (k : ClassNo) → k.0 < length infos → (nodes : List ℕ) → IsPreorder (map supertypes_of infos) k.0 nodes
      → list_any (λ node. is_in (children_at (map supertypes_of infos) node) k.0) nodes ≡ is_cyclic (world_of_infos infos) (name_at (world_of_infos infos) k)
  cyclic_of_infos k inside nodes walk =
      let world = world_of_infos infos in
      let class_of = λ (i : ClassInfo). class_of_origin (names_of_infos infos) i.origin in
      cyclic_by_number world are.names_apart (map supertypes_of infos) rows_of_infos k
      (omega (arith, inside, length-map infos class_of)) nodes walk
      (length-map infos supertypes_of ∙ sym (length-map infos class_of))
