-- A walk upwards meets classes in the order in which fields are looked for.
use Rattle.std.proofs.Common.{◌≡◌, ℕ, zero, suc, ◌<◌, ◌≤◌, ◌==◌, Bool, true, false, ◌||◌, if◌then◌else◌, List, [], ◌∷◌, ◌++◌, Option, Some, None, length, map, filter, position, slice_get, bytes_eq, option_map, option_and_then, option_to_list, flat_map, IsTrue, inl, inr, ap, sym, subst, ◌∙◌, refl, true≢false, arith}
use Rattle.std.specs.List.{cons_option, IsDistinct}
use Rattle.std.proofs.lemmas.Grind.{flat_map-append}
use Rattle.std.proofs.lemmas.List.{length-map, length-append, map-append}
use Rattle.std.proofs.lemmas.List.Elements.{filter_map-append}
use Rattle.std.proofs.lemmas.List.Folds.{list_any-append}
use Rattle.std.proofs.lemmas.Slice.Eq.{bytes_eq-Decides}
use Rattle.class_graph.specs.Graph.{children_at, is_in, once, IsUnfolding, IsPreorder}
use Rattle.class_graph.proofs.Sets.{in_none, in_cons}
use Rattle.link_laws.specs.Above.{has, is_there, IsDirectly, IsAbove}
use Rattle.link_laws.proofs.Names.{has_head, has_tail, has_append, has_left, has_right}
use Rattle.link_laws.proofs.Searches.{EndsWithin, classes_end}
use Rattle.world_model.specs.World as model
use Rattle.world_model.specs.World.{class_in}
use Rattle.world_model.specs.Supertypes.{superclass_of, interfaces_of, each_once, field_order_within, field_order}
use Rattle.jv_types.specs.declared.number.ClassNo.{ClassNo}
use Rattle.link_laws.proofs.Cycles.{is_cyclic_is_above_itself}
use Rattle.class_world.specs.declared.class_info.ClassInfo.{ClassInfo}
use Rattle.class_world.specs.World.{class_of_origin, names_of_infos, world_of_infos, names_of, name_at, number_of, numbers_of, AreInfos, IsAcyclic, supertypes_of}
use Rattle.class_world.proofs.Places.{stands_inside, text_at_place, bytes_eq-places}
use Rattle.class_world.proofs.Numbers.{number, name_of, class_in-position}
use Rattle.class_world.proofs.Upwards.{plain, own_place, rows_of_infos}

-- ---- unfoldings that list every node

-- what a child unfolds to is a part
pub shorter : (unfold_of : ℕ → List ℕ) (nodes : List ℕ) (child : ℕ) → IsTrue (is_in nodes child)
    → length (unfold_of child) ≤ length (flat_map unfold_of nodes)
shorter unfold_of [] child h = absurd (in_none child h)
shorter unfold_of (node ∷ nodes) child h =
    let sizes = length-append (unfold_of node) (flat_map unfold_of nodes) in
    elim (in_cons node nodes child h) [
      | inl same ↦ let equal = ap (λ (n : ℕ). length (unfold_of n)) same in omega (arith, sizes, equal)
      | inr rest ↦ let less = shorter unfold_of nodes child rest in omega (arith, sizes, less)
    ]

pub keeps_all : (nodes : List ℕ) → filter (λ _. true) nodes ≡ nodes
keeps_all [] = refl
keeps_all (node ∷ nodes) = ap (λ (l : List ℕ). node ∷ l) (keeps_all nodes)

-- where each node unfolds to itself and then what its children do, a walk lists what its start unfolds to
pub walk_lists : (graph : List (List ℕ)) (unfold_of : ℕ → List ℕ)
    → ((node : ℕ) → node < length graph → unfold_of node ≡ node ∷ flat_map unfold_of (children_at graph node))
    → (start : ℕ) (nodes : List ℕ) → IsPreorder graph start nodes → nodes ≡ once [] (unfold_of start)
walk_lists graph unfold_of own start nodes walk =
    let is : IsUnfolding graph (λ _. true) unfold_of (λ (n : ℕ). length (unfold_of n)) = record {
      unfolds = own;
      falls = λ node child inside step.
          let less = shorter unfold_of (children_at graph node) child step in
          let whole = ap (λ (l : List ℕ). length l) (own node inside) in
          omega (arith, less, whole);
    } in
    sym (keeps_all nodes) ∙ walk.ordered (λ _. true) unfold_of (λ (n : ℕ). length (unfold_of n)) is

module _ (world : model.World) (distinct : IsDistinct bytes_eq (names_of world)) where
  -- ---- each once, by name and by number

  -- the names that were seen, of those that are there, are those of the numbers
  abbrev AreSeen : List (List ℕ) → List ℕ → Type 0
  AreSeen seen numbers = (name : List ℕ) (k : ℕ) → position (bytes_eq name) (names_of world) ≡ Some k → has seen name ≡ is_in numbers k

  missing_stays : (seen : List (List ℕ)) (numbers : List ℕ) (name : List ℕ) → position (bytes_eq name) (names_of world) ≡ None
      → AreSeen seen numbers → AreSeen (name ∷ seen) numbers
  missing_stays seen numbers name absent same m k found = by (bytes_eq m name) refl
    where
      by : (b : Bool) → bytes_eq m name ≡ b → (bytes_eq m name || has seen m) ≡ is_in numbers k
      by false differs = ap (λ (b : Bool). b || has seen m) differs ∙ same m k found
      by true equal =
          let is_name : m ≡ name = (bytes_eq-Decides m name).0 equal in
          let none : Some k ≡ None = sym found ∙ ap (λ (n : List ℕ). position (bytes_eq n) (names_of world)) is_name ∙ absent in
          absurd cc

  or_last : (a b : Bool) → (a || b) ≡ (b || (a || false))
  or_last true true = refl
  or_last true false = refl
  or_last false true = refl
  or_last false false = refl

  found_joins : (seen : List (List ℕ)) (numbers : List ℕ) (name : List ℕ) (n : ℕ) → position (bytes_eq name) (names_of world) ≡ Some n
      → AreSeen seen numbers → AreSeen (name ∷ seen) (numbers ++ n ∷ [])
  found_joins seen numbers name n found same m k found_m =
      let at = text_at_place (names_of world) name n found in
      let at_m = text_at_place (names_of world) m k found_m in
      let equal : bytes_eq m name ≡ (k == n) =
      (λ i. bytes_eq (at_m.1 i) (at.1 i)) ∙ bytes_eq-places (names_of world) distinct k n at_m.0 at.0 in
      (λ i. equal i || same m k found_m i) ∙ or_last (k == n) (is_in numbers k)
      ∙ sym (list_any-append (λ j. k == j) numbers (n ∷ []))

  pub once-numbers : (names seen : List (List ℕ)) (numbers : List ℕ) → AreSeen seen numbers
      → plain (numbers_of world (each_once seen names)) ≡ once numbers (plain (numbers_of world names))
  unfolding each_once once
  once-numbers [] seen numbers same = refl
  once-numbers (name ∷ names) seen numbers same =
      by (position (bytes_eq name) (names_of world)) refl (λ s ns h. once-numbers names s ns h)
    where
      by : (o : Option ℕ) → position (bytes_eq name) (names_of world) ≡ o
          → ((s : List (List ℕ)) (ns : List ℕ) → AreSeen s ns → plain (numbers_of world (each_once s names)) ≡ once ns (plain (numbers_of world names)))
          → plain (numbers_of world (if has seen name then each_once seen names else name ∷ each_once (name ∷ seen) names))
          ≡ once numbers (plain (cons_option (option_map number (position (bytes_eq name) (names_of world))) (numbers_of world names)))
      by None is rest = missing (has seen name) ∙ sym (ap (λ (o : Option ℕ). once numbers (plain (cons_option (option_map number o) (numbers_of world names)))) is)
        where
          missing : (b : Bool) → plain (numbers_of world (if b then each_once seen names else name ∷ each_once (name ∷ seen) names))
              ≡ once numbers (plain (numbers_of world names))
          missing true = rest seen numbers same
          missing false =
              ap (λ (o : Option ℕ). plain (cons_option (option_map number o) (numbers_of world (each_once (name ∷ seen) names)))) is
              ∙ rest (name ∷ seen) numbers (missing_stays seen numbers name is same)
      by (Some n) is rest =
          ap (λ (b : Bool). plain (numbers_of world (if b then each_once seen names else name ∷ each_once (name ∷ seen) names))) (same name n is)
          ∙ found (is_in numbers n)
          ∙ sym (ap (λ (o : Option ℕ). once numbers (plain (cons_option (option_map number o) (numbers_of world names)))) is)
        where
          found : (b : Bool) → plain (numbers_of world (if b then each_once seen names else name ∷ each_once (name ∷ seen) names))
              ≡ (if b then once numbers (plain (numbers_of world names)) else n ∷ once (numbers ++ n ∷ []) (plain (numbers_of world names)))
          found true = rest seen numbers same
          found false =
              ap (λ (o : Option ℕ). plain (cons_option (option_map number o) (numbers_of world (each_once (name ∷ seen) names)))) is
              ∙ ap (λ (l : List ℕ). n ∷ l) (rest (name ∷ seen) (numbers ++ n ∷ []) (found_joins seen numbers name n is same))

  -- ---- what doesn't hang on the fuel

  pub no_class : (name : List ℕ) → position (bytes_eq name) (names_of world) ≡ None → class_in world name ≡ None
  no_class name absent = class_in-position world name ∙ ap (option_and_then (slice_get world.classes)) absent

  -- a name without a class leads nowhere
  missing_order : (fuel : ℕ) (name : List ℕ) → position (bytes_eq name) (names_of world) ≡ None
      → numbers_of world (field_order_within fuel world name) ≡ []
  unfolding field_order_within
  missing_order zero name absent = refl
  missing_order (suc fuel) name absent =
      ap (λ (o : Option model.Class). numbers_of world (name ∷ flat_map (field_order_within fuel world) (flat_map (λ (c : model.Class). c.interfaces) (option_to_list o))
      ++ flat_map (field_order_within fuel world) (flat_map (λ (c : model.Class). option_to_list c.superclass) (option_to_list o)))) (no_class name absent)
      ∙ ap (λ (o : Option ℕ). cons_option (option_map number o) []) absent

  pub not_there : (name : List ℕ) → is_there world name ≡ false → position (bytes_eq name) (names_of world) ≡ None
  not_there name absent = by (position (bytes_eq name) (names_of world)) refl
    where
      by : (o : Option ℕ) → position (bytes_eq name) (names_of world) ≡ o → position (bytes_eq name) (names_of world) ≡ None
      by None is = is
      by (Some k) is =
          let at = text_at_place (names_of world) name k is in
          let here : k < length world.classes = omega (arith, at.0, length-map world.classes name_of) in
          let class = stands_inside world.classes k here in
          let found = class_in-position world name ∙ ap (option_and_then (slice_get world.classes)) is ∙ class.1 in
          absurd (true≢false (rw found at absent))

  pub leads_alike : (one other : List ℕ → List (List ℕ)) (names : List (List ℕ))
      → ((name : List ℕ) → IsTrue (has names name) → numbers_of world (one name) ≡ numbers_of world (other name))
      → numbers_of world (flat_map one names) ≡ numbers_of world (flat_map other names)
  leads_alike one other [] alike = refl
  leads_alike one other (name ∷ names) alike =
      filter_map-append (number_of world) (one name) (flat_map one names)
      ∙ (let first = alike name (has_head name names) in
      let rest = leads_alike one other names (λ m h. alike m (has_tail name m names h)) in
      λ i. first i ++ rest i)
      ∙ sym (filter_map-append (number_of world) (other name) (flat_map other names))

  swapped : (name m : List ℕ) → IsTrue (has (interfaces_of world name ++ superclass_of world name) m) → IsDirectly world name m
  swapped name m h = elim (has_append (interfaces_of world name) (superclass_of world name) m h) [
    | inl interface ↦ has_right (superclass_of world name) (interfaces_of world name) m interface
    | inr superclass ↦ has_left (superclass_of world name) (interfaces_of world name) m superclass
  ]

  more_fuel : (most fuel : ℕ) (name : List ℕ) → EndsWithin world most name → most ≤ fuel
      → numbers_of world (field_order_within fuel world name) ≡ numbers_of world (field_order_within most world name)
  unfolding field_order_within
  more_fuel zero fuel name ends enough = missing_order fuel name (not_there name ends)
  more_fuel (suc most) zero name ends enough = absurd (omega (arith, enough))
  more_fuel (suc most) (suc fuel) name ends enough =
      let above = interfaces_of world name ++ superclass_of world name in
      let step = λ (m : List ℕ) (h : IsTrue (has above m)). more_fuel most fuel m (ends m (swapped name m h)) (omega (arith, enough)) in
      ap (λ (l : List (List ℕ)). numbers_of world (name ∷ l)) (sym (flat_map-append (field_order_within fuel world) (interfaces_of world name) (superclass_of world name)))
      ∙ ap (cons_option (number_of world name)) (leads_alike (field_order_within fuel world) (field_order_within most world) above step)
      ∙ ap (λ (l : List (List ℕ)). numbers_of world (name ∷ l)) (flat_map-append (field_order_within most world) (interfaces_of world name) (superclass_of world name))

  -- ---- what a class unfolds to

  abbrev all_of : List ℕ → List (List ℕ)
  all_of name = field_order_within (length world.classes) world name

  abbrev unfolding_of : ℕ → List ℕ
  unfolding_of k = plain (numbers_of world (all_of (name_at world (number k))))

  -- what a name leads to, by its number
  abbrev pub lead_of : (List ℕ → List (List ℕ)) → ℕ → List ℕ
  lead_of lead k = plain (numbers_of world (lead (name_at world (number k))))

  -- the lists to which names lead are those to which their numbers lead
  module _ (lead : List ℕ → List (List ℕ))
      (missing : (name : List ℕ) → position (bytes_eq name) (names_of world) ≡ None → numbers_of world (lead name) ≡ []) where
    numbers_lead : (names : List (List ℕ)) → numbers_of world (flat_map lead names)
        ≡ flat_map (λ (c : ClassNo). numbers_of world (lead (name_at world c))) (numbers_of world names)
    numbers_lead [] = refl
    numbers_lead (name ∷ names) =
        filter_map-append (number_of world) (lead name) (flat_map lead names)
        ∙ by (position (bytes_eq name) (names_of world)) refl (numbers_lead names)
      where
        by : (o : Option ℕ) → position (bytes_eq name) (names_of world) ≡ o
            → numbers_of world (flat_map lead names) ≡ flat_map (λ (c : ClassNo). numbers_of world (lead (name_at world c))) (numbers_of world names)
            → numbers_of world (lead name) ++ numbers_of world (flat_map lead names)
            ≡ flat_map (λ (c : ClassNo). numbers_of world (lead (name_at world c))) (cons_option (option_map number (position (bytes_eq name) (names_of world))) (numbers_of world names))
        by None is rest =
            ap (λ (l : List ClassNo). l ++ numbers_of world (flat_map lead names)) (missing name is)
            ∙ rest
            ∙ sym (ap (λ (o : Option ℕ). flat_map (λ (c : ClassNo). numbers_of world (lead (name_at world c))) (cons_option (option_map number o) (numbers_of world names))) is)
        by (Some k) is rest =
            let at = text_at_place (names_of world) name k is in
            ap (λ (n : List ℕ). numbers_of world (lead n) ++ numbers_of world (flat_map lead names)) at.1
            ∙ ap (λ (l : List ClassNo). numbers_of world (lead (name_at world (number k))) ++ l) rest
            ∙ sym (ap (λ (o : Option ℕ). flat_map (λ (c : ClassNo). numbers_of world (lead (name_at world c))) (cons_option (option_map number o) (numbers_of world names))) is)

    plain_leads : (classes : List ClassNo) → plain (flat_map (λ (c : ClassNo). numbers_of world (lead (name_at world c))) classes)
        ≡ flat_map (lead_of lead) (plain classes)
    plain_leads [] = refl
    plain_leads (c ∷ classes) =
        map-append (λ (k : ClassNo). k.0) (numbers_of world (lead (name_at world c)))
        (flat_map (λ (c : ClassNo). numbers_of world (lead (name_at world c))) classes)
        ∙ ap (λ (l : List ℕ). plain (numbers_of world (lead (name_at world c))) ++ l) (plain_leads classes)

    pub leads_by_number : (names : List (List ℕ))
        → plain (numbers_of world (flat_map lead names)) ≡ flat_map (lead_of lead) (plain (numbers_of world names))
    leads_by_number names = ap plain (numbers_lead names) ∙ plain_leads (numbers_of world names)

  module _ (acyclic : (n : List ℕ) → IsAbove world n n → ⊥) where
    unfolds_by : (most : ℕ) → length world.classes ≡ suc most → (k : ClassNo) → k.0 < length world.classes
        → unfolding_of k.0
        ≡ k.0 ∷ flat_map unfolding_of (plain (numbers_of world (interfaces_of world (name_at world k) ++ superclass_of world (name_at world k))))
    unfolding field_order_within
    unfolds_by most is k inside =
        let name = name_at world k in
        let above = interfaces_of world name ++ superclass_of world name in
        let ends = subst (λ (n : ℕ). EndsWithin world n name) is (classes_end world name acyclic) in
        let here : k.0 < length (names_of world) = omega (arith, inside, length-map world.classes name_of) in
        ap (λ (n : ℕ). plain (numbers_of world (field_order_within n world name))) is
        ∙ ap (λ (o : Option ℕ). plain (cons_option (option_map number o) (numbers_of world
        (flat_map (field_order_within most world) (interfaces_of world name) ++ flat_map (field_order_within most world) (superclass_of world name)))))
        (own_place (names_of world) distinct k.0 here)
        ∙ ap (λ (l : List (List ℕ)). k.0 ∷ plain (numbers_of world l))
        (sym (flat_map-append (field_order_within most world) (interfaces_of world name) (superclass_of world name)))
        ∙ ap (λ (l : List ClassNo). k.0 ∷ plain l)
        (leads_alike (field_order_within most world) all_of above
        (λ m h. sym (more_fuel most (length world.classes) m (ends m (swapped name m h)) (omega (arith, is)))))
        ∙ ap (λ (l : List ℕ). k.0 ∷ l) (leads_by_number all_of (missing_order (length world.classes)) above)

    unfolds : (k : ClassNo) → k.0 < length world.classes
        → unfolding_of k.0
        ≡ k.0 ∷ flat_map unfolding_of (plain (numbers_of world (interfaces_of world (name_at world k) ++ superclass_of world (name_at world k))))
    unfolds k inside = by (length world.classes) refl
      where
        by : (n : ℕ) → length world.classes ≡ n → unfolding_of k.0
            ≡ k.0 ∷ flat_map unfolding_of (plain (numbers_of world (interfaces_of world (name_at world k) ++ superclass_of world (name_at world k))))
        by zero is = absurd (omega (arith, inside, is))
        by (suc most) is = unfolds_by most is k inside

    -- A walk from a class lists its field order.
    pub walk_is_field_order : (graph : List (List ℕ)) → length graph ≡ length world.classes
        → ((k : ClassNo) → k.0 < length world.classes → children_at graph k.0
        ≡ plain (numbers_of world (interfaces_of world (name_at world k) ++ superclass_of world (name_at world k))))
        → (k : ClassNo) (nodes : List ℕ) → IsPreorder graph k.0 nodes → nodes ≡ plain (numbers_of world (field_order world (name_at world k)))
    walk_is_field_order graph sizes rows k nodes walk =
        let own : (node : ℕ) → node < length graph → unfolding_of node ≡ node ∷ flat_map unfolding_of (children_at graph node) =
        λ node inside.
        let here : node < length world.classes = omega (arith, inside, sizes) in
        unfolds (number node) here ∙ ap (λ (l : List ℕ). node ∷ flat_map unfolding_of l) (sym (rows (number node) here)) in
        walk_lists graph unfolding_of own k.0 nodes walk
        ∙ sym (once-numbers (all_of (name_at world k)) [] [] (λ name j found. refl))

-- ---- of a list of classes

pub numbers_of_plain : (classes : List ClassNo) → map number (plain classes) ≡ classes
numbers_of_plain [] = refl
numbers_of_plain (c ∷ classes) = ap (λ (l : List ClassNo). c ∷ l) (numbers_of_plain classes)

pub field_order_of_infos : (infos : List ClassInfo) (are : AreInfos infos) → IsAcyclic (world_of_infos infos)
    → (k : ClassNo) (nodes : List ℕ) (order : List ClassNo) → IsPreorder (map supertypes_of infos) k.0 nodes → plain order ≡ nodes
    → order ≡ numbers_of (world_of_infos infos) (field_order (world_of_infos infos) (name_at (world_of_infos infos) k))
field_order_of_infos infos are acyclic k nodes order walk is =
    let world = world_of_infos infos in
    let class_of = λ (i : ClassInfo). class_of_origin (names_of_infos infos) i.origin in
    let expected = numbers_of world (field_order world (name_at world k)) in
    let same : plain order ≡ plain expected =
    is ∙ walk_is_field_order world are.names_apart
    (λ name above. true≢false (sym ((is_cyclic_is_above_itself world name).1 above) ∙ acyclic name))
    (map supertypes_of infos) (length-map infos supertypes_of ∙ sym (length-map infos class_of)) (rows_of_infos infos are) k nodes walk in
    sym (numbers_of_plain order) ∙ ap (map number) same ∙ numbers_of_plain expected
