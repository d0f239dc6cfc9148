-- A walk through interfaces, and the order in which methods are looked for.
use Rattle.std.proofs.Common.{◌≡◌, ℕ, zero, suc, ◌+◌, ◌-◌, ◌<◌, ◌≤◌, List, [], ◌∷◌, ◌++◌, Option, Some, None, length, map, position, slice_get, get_or, drop, nat_lt, bytes_eq, option_map, option_and_then, option_to_list, flat_map, IsTrue, ap, sym, subst, ◌∙◌, refl, true≢false, append_assoc, below_more, arith}
use Rattle.std.specs.List.{cons_option, list_all, IsDistinct}
use Rattle.std.proofs.lemmas.Bool.Decides.{Decides-ltb}
use Rattle.std.proofs.lemmas.Grind.{flat_map-append}
use Rattle.std.proofs.lemmas.List.{length-map, length_push, map-append, append-nil, at_drop_more, ext_get_or}
use Rattle.std.proofs.Math.ListN.{get_or-append}
use Rattle.std.proofs.Math.Seq.{get_or-append_seam}
use Rattle.std.proofs.lemmas.List.Elements.{filter_map-append}
use Rattle.std.proofs.lemmas.Option.{slice_get-map, slice_get-get_or, get_or_from_slice_get}
use Rattle.class_graph.specs.Graph.{children_at, are_inside, IsGraph, once, IsPreorder}
use Rattle.class_graph.proofs.Passing.{and_left, and_right, list_all-get_or}
use Rattle.class_graph.proofs.Once.{once-walk}
use Rattle.link_laws.specs.Above.{has, IsAbove}
use Rattle.link_laws.proofs.Names.{has_left, has_right}
use Rattle.link_laws.proofs.Searches.{EndsWithin, classes_end}
use Rattle.link_laws.proofs.Cycles.{is_cyclic_is_above_itself}
use Rattle.world_model.specs.World as model
use Rattle.world_model.specs.World.{class_in}
use Rattle.world_model.specs.Supertypes.{superclass_of, interfaces_of, chain_within, chain, interfaces_within, method_order}
use Rattle.jv_types.specs.declared.number.ClassNo.{ClassNo}
use Rattle.class_world.specs.declared.class_info.ClassInfo.{ClassInfo}
use Rattle.class_world.specs.World.{class_of_origin, names_of_infos, world_of_infos, names_of, name_at, number_of, numbers_of, AreInfos, IsAcyclic, orders_of}
use Rattle.class_world.specs.Hierarchy.{interfaces_of as own_interfaces, interfaces_at, superclass_at, chain_from, inherited_by, AreInherited}
use Rattle.class_world.proofs.Places.{stands_inside, text_at_place}
use Rattle.class_world.proofs.Numbers.{number, name_of, name_at_place}
use Rattle.class_world.proofs.LookUps.{numbers_inside}
use Rattle.class_world.proofs.Upwards.{plain, own_place, class_in-number, list_all-map, list_all-from_get_or}
use Rattle.class_world.proofs.FieldOrders.{once-numbers, no_class, not_there, leads_alike, lead_of, leads_by_number, walk_lists, numbers_of_plain}

flat_map-flat_map : {A B C : Type 0} (f : B → List C) (g : A → List B) (xs : List A)
    → flat_map f (flat_map g xs) ≡ flat_map (λ x. flat_map f (g x)) xs
flat_map-flat_map f g [] = refl
flat_map-flat_map f g (x ∷ xs) =
    flat_map-append f (g x) (flat_map g xs) ∙ ap (λ l. flat_map f (g x) ++ l) (flat_map-flat_map f g xs)

-- functions that agree on what is inside lead to the same
flat_map-inside : {B : Type 0} (n : ℕ) (f g : ℕ → List B) (xs : List ℕ) → IsTrue (are_inside n xs)
    → ((k : ℕ) → k < n → f k ≡ g k) → flat_map f xs ≡ flat_map g xs
flat_map-inside n f g [] all agree = refl
flat_map-inside n f g (x ∷ xs) all agree =
    let first = agree x ((Decides-ltb x n).0 (and_left (nat_lt x n) (are_inside n xs) all)) in
    let rest = flat_map-inside n f g xs (and_right (nat_lt x n) (are_inside n xs) all) agree in
    λ i. first i ++ rest i

module _ (world : model.World) (distinct : IsDistinct bytes_eq (names_of world)) where
  abbrev IsMissing : List ℕ → Type 0
  IsMissing name = position (bytes_eq name) (names_of world) ≡ None

  -- ---- the interfaces above a class, however far upwards

  missing_interfaces : (fuel : ℕ) (name : List ℕ) → IsMissing name → numbers_of world (interfaces_within fuel world name) ≡ []
  unfolding interfaces_within
  missing_interfaces zero name absent = refl
  missing_interfaces (suc fuel) name absent =
      ap (λ (o : Option model.Class). numbers_of world
      (flat_map (λ i. i ∷ interfaces_within fuel world i) (flat_map (λ (c : model.Class). c.interfaces) (option_to_list o))
      ++ flat_map (interfaces_within fuel world) (flat_map (λ (c : model.Class). option_to_list c.superclass) (option_to_list o))))
      (no_class world distinct name absent)

  more_interfaces : (most fuel : ℕ) (name : List ℕ) → EndsWithin world most name → most ≤ fuel
      → numbers_of world (interfaces_within fuel world name) ≡ numbers_of world (interfaces_within most world name)
  unfolding interfaces_within
  more_interfaces zero fuel name ends enough = missing_interfaces fuel name (not_there world distinct name ends)
  more_interfaces (suc most) zero name ends enough = absurd (omega (arith, enough))
  more_interfaces (suc most) (suc fuel) name ends enough =
      let step = λ (m : List ℕ) (h : IsTrue (has (interfaces_of world name) m)).
      ap (cons_option (number_of world m)) (more_interfaces most fuel m (ends m (has_right (superclass_of world name) (interfaces_of world name) m h)) (omega (arith, enough))) in
      let own = leads_alike world distinct (λ i. i ∷ interfaces_within fuel world i) (λ i. i ∷ interfaces_within most world i) (interfaces_of world name) step in
      let above = leads_alike world distinct (interfaces_within fuel world) (interfaces_within most world) (superclass_of world name)
      (λ m h. more_interfaces most fuel m (ends m (has_left (superclass_of world name) (interfaces_of world name) m h)) (omega (arith, enough))) in
      filter_map-append (number_of world) (flat_map (λ i. i ∷ interfaces_within fuel world i) (interfaces_of world name)) (flat_map (interfaces_within fuel world) (superclass_of world name))
      ∙ (λ i. own i ++ above i)
      ∙ sym (filter_map-append (number_of world) (flat_map (λ i. i ∷ interfaces_within most world i) (interfaces_of world name)) (flat_map (interfaces_within most world) (superclass_of world name)))

  -- ---- what a class has from its superclasses

  abbrev walk_of : List ℕ → List (List ℕ)
  walk_of name = name ∷ interfaces_within (length world.classes) world name

  missing_walk : (name : List ℕ) → IsMissing name → numbers_of world (walk_of name) ≡ []
  missing_walk name absent =
      ap (cons_option (number_of world name)) (missing_interfaces (length world.classes) name absent)
      ∙ ap (λ (o : Option ℕ). cons_option (option_map number o) []) absent

  abbrev inherited : ℕ → List ℕ → List (List ℕ)
  inherited fuel name = flat_map (interfaces_of world) (chain_within fuel world name)

  missing_own : (name : List ℕ) → IsMissing name → interfaces_of world name ≡ []
  missing_own name absent =
      ap (λ (o : Option model.Class). flat_map (λ (c : model.Class). c.interfaces) (option_to_list o)) (no_class world distinct name absent)

  missing_superclass : (name : List ℕ) → IsMissing name → superclass_of world name ≡ []
  missing_superclass name absent =
      ap (λ (o : Option model.Class). flat_map (λ (c : model.Class). option_to_list c.superclass) (option_to_list o)) (no_class world distinct name absent)

  missing_inherited : (fuel : ℕ) (name : List ℕ) → IsMissing name → inherited fuel name ≡ []
  unfolding chain_within
  missing_inherited zero name absent = refl
  missing_inherited (suc fuel) name absent =
      ap (λ (l : List (List ℕ)). flat_map (interfaces_of world) (name ∷ flat_map (chain_within fuel world) l)) (missing_superclass name absent)
      ∙ ap (λ (l : List (List ℕ)). l ++ []) (missing_own name absent)

  -- the interfaces above are those to which the ones that it and its superclasses name lead
  walks_inherited : (most fuel : ℕ) (name : List ℕ) → EndsWithin world most name → most ≤ fuel → most ≤ length world.classes
      → numbers_of world (interfaces_within (length world.classes) world name) ≡ numbers_of world (flat_map walk_of (inherited fuel name))
  unfolding interfaces_within chain_within
  walks_inherited zero fuel name ends enough few =
      let absent = not_there world distinct name ends in
      missing_interfaces (length world.classes) name absent
      ∙ sym (ap (λ (l : List (List ℕ)). numbers_of world (flat_map walk_of l)) (missing_inherited fuel name absent))
  walks_inherited (suc most) zero name ends enough few = absurd (omega (arith, enough))
  walks_inherited (suc most) (suc fuel) name ends enough few =
      let own = interfaces_of world name in
      let above = superclass_of world name in
      let one = λ (m : List ℕ) (h : IsTrue (has own m)). ends m (has_right above own m h) in
      let up = λ (m : List ℕ) (h : IsTrue (has above m)). ends m (has_left above own m h) in
      let first = leads_alike world distinct (λ i. i ∷ interfaces_within most world i) walk_of own
      (λ m h. ap (cons_option (number_of world m)) (sym (more_interfaces most (length world.classes) m (one m h) (omega (arith, few))))) in
      let rest = leads_alike world distinct (interfaces_within most world) (λ m. flat_map walk_of (inherited fuel m)) above
      (λ m h. sym (more_interfaces most (length world.classes) m (up m h) (omega (arith, few)))
      ∙ walks_inherited most fuel m (up m h) (omega (arith, enough)) (omega (arith, few))) in
      more_interfaces (suc most) (length world.classes) name ends few
      ∙ filter_map-append (number_of world) (flat_map (λ i. i ∷ interfaces_within most world i) own) (flat_map (interfaces_within most world) above)
      ∙ (λ i. first i ++ rest i)
      ∙ sym (filter_map-append (number_of world) (flat_map walk_of own) (flat_map (λ m. flat_map walk_of (inherited fuel m)) above))
      ∙ ap (λ (l : List (List ℕ)). numbers_of world (flat_map walk_of own ++ l)) (sym (flat_map-flat_map walk_of (inherited fuel) above))
      ∙ ap (λ (l : List (List ℕ)). numbers_of world (flat_map walk_of own ++ flat_map walk_of l)) (sym (flat_map-flat_map (interfaces_of world) (chain_within fuel world) above))
      ∙ ap (numbers_of world) (sym (flat_map-append walk_of own (flat_map (interfaces_of world) (flat_map (chain_within fuel world) above))))

  module _ (acyclic : (n : List ℕ) → IsAbove world n n → ⊥) (graph : List (List ℕ)) (sizes : length graph ≡ length world.classes)
      (rows : (k : ClassNo) → k.0 < length world.classes → children_at graph k.0
      ≡ plain (numbers_of world (inherited (length world.classes) (name_at world k)))) where
    unfolds : (node : ℕ) → node < length graph
        → lead_of world distinct walk_of node ≡ node ∷ flat_map (lead_of world distinct walk_of) (children_at graph node)
    unfolds node inside =
        let k = number node in
        let here : node < length world.classes = omega (arith, inside, sizes) in
        let there : node < length (names_of world) = omega (arith, here, length-map world.classes name_of) in
        let name = name_at world k in
        let all = length world.classes in
        ap (λ (o : Option ℕ). plain (cons_option (option_map number o) (numbers_of world (interfaces_within all world name)))) (own_place (names_of world) distinct node there)
        ∙ ap (λ (l : List ClassNo). node ∷ plain l) (walks_inherited all all name (classes_end world name acyclic) (omega arith) (omega arith))
        ∙ ap (λ (l : List ℕ). node ∷ l) (leads_by_number world distinct walk_of missing_walk (inherited all name))
        ∙ ap (λ (l : List ℕ). node ∷ flat_map (lead_of world distinct walk_of) l) (sym (rows k here))

    -- the chain of a class and then a walk through the interfaces of those in it list its method order
    pub walk_is_method_order : (k : ClassNo) → k.0 < length world.classes → (nodes rest : List ℕ) → IsPreorder graph k.0 nodes
        → plain (numbers_of world (chain world (name_at world k))) ≡ k.0 ∷ rest
        → once [] (plain (numbers_of world (chain world (name_at world k))) ++ nodes)
        ≡ plain (numbers_of world (method_order world (name_at world k)))
    walk_is_method_order k inside nodes rest walk begins =
        let name = name_at world k in
        let up = chain world name in
        let above = interfaces_within (length world.classes) world name in
        let there : k.0 < length (names_of world) = omega (arith, inside, length-map world.classes name_of) in
        ap (λ (l : List ℕ). once [] (plain (numbers_of world up) ++ l)) (walk_lists graph (lead_of world distinct walk_of) unfolds k.0 nodes walk)
        ∙ ap (λ (l : List ℕ). once [] (l ++ once [] (lead_of world distinct walk_of k.0))) begins
        ∙ ap (λ (o : Option ℕ). once [] (k.0 ∷ rest ++ once [] (plain (cons_option (option_map number o) (numbers_of world above))))) (own_place (names_of world) distinct k.0 there)
        ∙ once-walk k.0 rest (plain (numbers_of world above))
        ∙ ap (λ (l : List ℕ). once [] (l ++ plain (numbers_of world above))) (sym begins)
        ∙ ap (λ (l : List ℕ). once [] l) (sym (map-append (λ (c : ClassNo). c.0) (numbers_of world up) (numbers_of world above))
        ∙ ap plain (sym (filter_map-append (number_of world) up above)))
        ∙ sym (once-numbers world distinct (up ++ above) [] [] (λ n j found. refl))

-- ---- of a list of classes

chain_from-none : (fuel : ℕ) (infos : List ClassInfo) → chain_from fuel infos None ≡ []
unfolding chain_from
chain_from-none zero infos = refl
chain_from-none (suc fuel) infos = refl

-- ---- steps up a chain

info_at : (infos : List ClassInfo) (j : ℕ) (x : ClassInfo) → j < length infos → slice_get infos j ≡ Some (get_or infos j x)
info_at infos j x inside = slice_get-get_or infos j x inside

pub chain_begins : (infos : List ClassInfo) (next : Option ClassNo) (numbers : List ℕ) → numbers ≡ []
    → numbers ++ chain_from (length infos - 0) infos next ≡ chain_from (length infos) infos next
chain_begins infos next numbers none =
    let fuel : length infos - 0 ≡ length infos = omega arith in
    λ i. none i ++ chain_from (fuel i) infos next

module _ (infos : List ClassInfo) (whole : List ℕ) (counter : ℕ) (next : Option ClassNo) (numbers : List ℕ)
    (so_far : numbers ++ chain_from (length infos - counter) infos next ≡ whole) where
  pub chain_stops : next ≡ None → numbers ≡ whole
  chain_stops none =
      sym (append-nil numbers)
      ∙ sym (ap (λ (l : List ℕ). numbers ++ l) (ap (chain_from (length infos - counter) infos) none ∙ chain_from-none (length infos - counter) infos))
      ∙ so_far

  pub chain_ends : length infos ≤ counter → numbers ≡ whole
  unfolding chain_from
  chain_ends end =
      let none : length infos - counter ≡ 0 = omega (arith, end) in
      sym (append-nil numbers) ∙ sym (ap (λ (n : ℕ). numbers ++ chain_from n infos next) none) ∙ so_far

  pub chain_goes_on : (class : ClassNo) (x : ClassInfo) (more : List ℕ) → next ≡ Some class → counter < length infos
      → class.0 < length infos → more ≡ numbers ++ class.0 ∷ []
      → more ++ chain_from (length infos - (counter + 1)) infos (get_or infos class.0 x).superclass ≡ whole
  unfolding chain_from
  chain_goes_on class x more is some inside adds =
      let left = length infos - (counter + 1) in
      let fuel : length infos - counter ≡ suc left = omega (arith, some) in
      let above = ap (option_and_then (λ (i : ClassInfo). i.superclass)) (info_at infos class.0 x inside) in
      (λ i. adds i ++ chain_from left infos (sym above i))
      ∙ append_assoc numbers (class.0 ∷ []) (chain_from left infos (superclass_at infos class.0))
      ∙ sym (λ i. numbers ++ chain_from (fuel i) infos (is i))
      ∙ so_far

-- a row more
pub row_added : {L A : Type 0} (items : L → List A) (rows more : List L) (row : L) (count : ℕ) (wanted : ℕ → List A)
    → length (map items rows) ≡ count → ((k : ℕ) → k < count → get_or (map items rows) k [] ≡ wanted k)
    → more ≡ rows ++ row ∷ [] → items row ≡ wanted count
    → (length (map items more) ≡ count + 1) × ((k : ℕ) → k < count + 1 → get_or (map items more) k [] ≡ wanted k)
row_added {L} {A} items rows more row count wanted sizes each adds is =
    let all : map items more ≡ map items rows ++ items row ∷ [] = ap (map items) adds ∙ map-append items rows (row ∷ []) in (
      omega (arith, ap (λ (l : List (List A)). length l) all, length_push (map items rows) (items row)),
      below_more (λ k. get_or (map items more) k [] ≡ wanted k) count
          (λ k inside. ap (λ (l : List (List A)). get_or l k []) all ∙ get_or-append (map items rows) (items row ∷ []) [] k (omega (arith, sizes)) ∙ each k inside)
          (ap (λ (l : List (List A)). get_or l count []) all
          ∙ ap (λ (n : ℕ). get_or (map items rows ++ items row ∷ []) n []) (sym sizes)
          ∙ get_or-append_seam (map items rows) (items row) [] [] ∙ is),
    )

-- an order for each class
pub orders_are : {L : Type 0} (infos : List ClassInfo) (order : List ℕ → List (List ℕ)) (items : L → List ClassNo) (orders : List L) (count : ℕ)
    → count ≡ length infos → length (map items orders) ≡ count
    → ((k : ℕ) → k < count → get_or (map items orders) k [] ≡ numbers_of (world_of_infos infos) (order (name_at (world_of_infos infos) (number k))))
    → map items orders ≡ orders_of (world_of_infos infos) order
orders_are infos order items orders count whole sizes each =
    let world = world_of_infos infos in
    let class_of = λ (i : ClassInfo). class_of_origin (names_of_infos infos) i.origin in
    let one = λ (c : model.Class). numbers_of world (order c.name) in
    let all : length world.classes ≡ length infos = length-map infos class_of in
    ext_get_or [] (map items orders) (orders_of world order) (omega (arith, sizes, whole, all, length-map world.classes one))
    (λ k inside.
    let here : k < count = omega (arith, inside, sizes) in
    let class = stands_inside world.classes k (omega (arith, here, whole, all)) in
    each k here
    ∙ ap (λ (n : List ℕ). numbers_of world (order n)) (name_at_place world k class.0 class.1)
    ∙ sym (get_or_from_slice_get (orders_of world order) k (one class.0) [] (slice_get-map one world.classes k ∙ ap (option_map one) class.1)))

-- one class more has its interfaces added
pub interfaces_more : (infos : List ClassInfo) (numbers : List ℕ) (i : ℕ) (x : ClassInfo) (row more whole : List ℕ)
    → i < length numbers → IsTrue (are_inside (length infos) numbers) → x ≡ get_or infos (get_or numbers i 0) x
    → more ≡ row ++ own_interfaces x → row ++ flat_map (interfaces_at infos) (drop i numbers) ≡ whole
    → more ++ flat_map (interfaces_at infos) (drop (i + 1) numbers) ≡ whole
interfaces_more infos numbers i x row more whole inside all is adds so_far =
    let n = get_or numbers i 0 in
    let here = (Decides-ltb n (length infos)).0 (list_all-get_or (λ k. nat_lt k (length infos)) numbers i 0 all inside) in
    let rest = flat_map (interfaces_at infos) (drop (i + 1) numbers) in
    ap (λ (l : List ℕ). l ++ rest) adds
    ∙ append_assoc row (own_interfaces x) rest
    ∙ ap (λ (l : List ℕ). row ++ (l ++ rest))
    (sym (ap (λ (o : Option ClassInfo). flat_map own_interfaces (option_to_list o)) (info_at infos n x here ∙ ap (λ (y : ClassInfo). Some y) (sym is)) ∙ append-nil (own_interfaces x)))
    ∙ sym (at_drop_more (λ (l : List ℕ). row ++ flat_map (interfaces_at infos) l) numbers i 0 inside)
    ∙ so_far

module _ (infos : List ClassInfo) (are : AreInfos infos) where
  abbrev world : model.World
  world = world_of_infos infos

  class_at : (k : ClassNo) → k.0 < length world.classes → (info : ClassInfo) → slice_get infos k.0 ≡ Some info
      → class_in world (name_at world k) ≡ Some (class_of_origin (names_of_infos infos) info.origin)
  class_at k inside info at =
      let class_of = λ (i : ClassInfo). class_of_origin (names_of_infos infos) i.origin in
      class_in-number world are.names_apart k inside ∙ slice_get-map class_of infos k.0 ∙ ap (option_map class_of) at

  missing_chain : (fuel : ℕ) (name : List ℕ) → position (bytes_eq name) (names_of world) ≡ None → numbers_of world (chain_within fuel world name) ≡ []
  unfolding chain_within
  missing_chain zero name absent = refl
  missing_chain (suc fuel) name absent =
      ap (λ (l : List (List ℕ)). numbers_of world (name ∷ flat_map (chain_within fuel world) l)) (missing_superclass world are.names_apart name absent)
      ∙ ap (λ (o : Option ℕ). cons_option (option_map number o) []) absent

  -- the chain of a class by number
  pub chain_by_number : (fuel : ℕ) (k : ClassNo) → k.0 < length world.classes
      → chain_from fuel infos (Some k) ≡ plain (numbers_of world (chain_within fuel world (name_at world k)))
  unfolding chain_from chain_within
  chain_by_number zero k inside = refl
  chain_by_number (suc fuel) k inside =
      let class_of = λ (i : ClassInfo). class_of_origin (names_of_infos infos) i.origin in
      let name = name_at world k in
      let here : k.0 < length infos = omega (arith, inside, length-map infos class_of) in
      let info = stands_inside infos k.0 here in
      let there : k.0 < length (names_of world) = omega (arith, inside, length-map world.classes name_of) in
      let found = class_at k inside info.0 info.1 in
      ap (λ (o : Option ClassInfo). k.0 ∷ chain_from fuel infos (option_and_then (λ (i : ClassInfo). i.superclass) o)) info.1
      ∙ ap (λ (o : Option ClassNo). k.0 ∷ chain_from fuel infos o) (are.each_info k.0 info.0 info.1).superclass
      ∙ ap (λ (l : List ℕ). k.0 ∷ l) (by (class_of info.0).superclass (λ j j_in. chain_by_number fuel j j_in))
      ∙ ap (λ (o : Option model.Class). k.0 ∷ plain (numbers_of world (flat_map (chain_within fuel world) (flat_map (λ (c : model.Class). option_to_list c.superclass) (option_to_list o))))) (sym found)
      ∙ ap (λ (o : Option ℕ). plain (cons_option (option_map number o) (numbers_of world (flat_map (chain_within fuel world) (superclass_of world name))))) (sym (own_place (names_of world) are.names_apart k.0 there))
    where
      at_place : (name : List ℕ) (place : Option ℕ) → position (bytes_eq name) (names_of world) ≡ place
          → ((j : ClassNo) → j.0 < length world.classes
          → chain_from fuel infos (Some j) ≡ plain (numbers_of world (chain_within fuel world (name_at world j))))
          → chain_from fuel infos (option_map number place) ≡ plain (numbers_of world (chain_within fuel world name))
      at_place name None absent up = chain_from-none fuel infos ∙ sym (ap plain (missing_chain fuel name absent))
      at_place name (Some j) is up =
          let at = text_at_place (names_of world) name j is in
          up (number j) (omega (arith, at.0, length-map world.classes name_of))
          ∙ ap (λ (n : List ℕ). plain (numbers_of world (chain_within fuel world n))) (sym at.1)

      by : (superclass : Option (List ℕ))
          → ((j : ClassNo) → j.0 < length world.classes
          → chain_from fuel infos (Some j) ≡ plain (numbers_of world (chain_within fuel world (name_at world j))))
          → chain_from fuel infos (option_and_then (number_of world) superclass)
          ≡ plain (numbers_of world (flat_map (chain_within fuel world) (option_to_list superclass ++ [])))
      by None up = chain_from-none fuel infos
      by (Some name) up =
          at_place name (position (bytes_eq name) (names_of world)) refl up
          ∙ ap (λ (l : List (List ℕ)). plain (numbers_of world l)) (sym (append-nil (chain_within fuel world name)))

  number_inside : (superclass : Option (List ℕ)) (k : ClassNo) → option_and_then (number_of world) superclass ≡ Some k → k.0 < length infos
  number_inside None k is = absurd cc
  number_inside (Some name) k is = by (position (bytes_eq name) (names_of world)) refl is
    where
      class_of : ClassInfo → model.Class
      class_of i = class_of_origin (names_of_infos infos) i.origin

      by : (o : Option ℕ) → position (bytes_eq name) (names_of world) ≡ o → option_map number o ≡ Some k → k.0 < length infos
      by None at none = absurd cc
      by (Some n) at some =
          let same : number n ≡ k = cc in
          let inside = (text_at_place (names_of world) name n at).0 in
          subst (λ (c : ClassNo). c.0 < length infos) same (omega (arith, inside, length-map world.classes name_of, length-map infos class_of))

  pub superclass_inside : (j : ℕ) (x : ClassInfo) → j < length infos → (k : ClassNo) → (get_or infos j x).superclass ≡ Some k → k.0 < length infos
  superclass_inside j x inside k is =
      let info = get_or infos j x in
      number_inside (class_of_origin (names_of_infos infos) info.origin).superclass k
      (sym (are.each_info j info (info_at infos j x inside)).superclass ∙ is)

  pub chain_inside : (fuel : ℕ) (k : ClassNo) → k.0 < length infos → IsTrue (are_inside (length infos) (chain_from fuel infos (Some k)))
  chain_inside fuel k inside =
      let class_of = λ (i : ClassInfo). class_of_origin (names_of_infos infos) i.origin in
      let here : k.0 < length world.classes = omega (arith, inside, length-map infos class_of) in
      let names = chain_within fuel world (name_at world k) in
      subst (λ (l : List ℕ). IsTrue (are_inside (length infos) l)) (sym (chain_by_number fuel k here))
      (list_all-map (λ n. nat_lt n (length infos)) (λ (c : ClassNo). c.0) (numbers_of world names)
      ∙ subst (λ (n : ℕ). IsTrue (list_all (λ (c : ClassNo). nat_lt c.0 n) (numbers_of world names))) (length-map infos class_of) (numbers_inside world names))

  interfaces_by_number : (j : ℕ) → j < length infos → interfaces_at infos j ≡ lead_of world are.names_apart (interfaces_of world) j
  interfaces_by_number j inside =
      let class_of = λ (i : ClassInfo). class_of_origin (names_of_infos infos) i.origin in
      let here : j < length world.classes = omega (arith, inside, length-map infos class_of) in
      let info = stands_inside infos j inside in
      let found = class_at (number j) here info.0 info.1 in
      ap (λ (o : Option ClassInfo). flat_map own_interfaces (option_to_list o)) info.1
      ∙ append-nil (own_interfaces info.0)
      ∙ ap plain (are.each_info j info.0 info.1).interfaces
      ∙ ap (λ (l : List (List ℕ)). plain (numbers_of world l)) (sym (append-nil (class_of info.0).interfaces))
      ∙ ap (λ (o : Option model.Class). plain (numbers_of world (flat_map (λ (c : model.Class). c.interfaces) (option_to_list o)))) (sym found)

  -- a row of the graph by names
  inherited_by_name : (k : ClassNo) → k.0 < length infos
      → inherited_by infos k.0 ≡ plain (numbers_of world (flat_map (interfaces_of world) (chain_within (length world.classes) world (name_at world k))))
  inherited_by_name k inside =
      let class_of = λ (i : ClassInfo). class_of_origin (names_of_infos infos) i.origin in
      let here : k.0 < length world.classes = omega (arith, inside, length-map infos class_of) in
      flat_map-inside (length infos) (interfaces_at infos) (lead_of world are.names_apart (interfaces_of world))
      (chain_from (length infos) infos (Some k)) (chain_inside (length infos) k inside) interfaces_by_number
      ∙ ap (flat_map (lead_of world are.names_apart (interfaces_of world)))
      (ap (λ (n : ℕ). chain_from n infos (Some k)) (sym (length-map infos class_of)) ∙ chain_by_number (length world.classes) k here)
      ∙ sym (leads_by_number world are.names_apart (interfaces_of world)
      (λ name absent. ap (numbers_of world) (missing_own world are.names_apart name absent)) (chain_within (length world.classes) world (name_at world k)))

  pub method_order_of_infos : IsAcyclic world → (rows : List (List ℕ)) → AreInherited infos rows
      → (k : ClassNo) → k.0 < length infos → (nodes : List ℕ) (order : List ClassNo) → IsPreorder rows k.0 nodes
      → plain order ≡ once [] (chain_from (length infos) infos (Some k) ++ nodes)
      → order ≡ numbers_of world (method_order world (name_at world k))
  unfolding chain_from
  method_order_of_infos acyclic rows are_rows k inside nodes order walk is =
      let class_of = λ (i : ClassInfo). class_of_origin (names_of_infos infos) i.origin in
      let here : k.0 < length world.classes = omega (arith, inside, length-map infos class_of) in
      let expected = numbers_of world (method_order world (name_at world k)) in
      let up = ap (λ (n : ℕ). chain_from n infos (Some k)) (sym (length-map infos class_of)) ∙ chain_by_number (length world.classes) k here in
      let same : plain order ≡ plain expected =
      is ∙ ap (λ (l : List ℕ). once [] (l ++ nodes)) up
      ∙ walk_is_method_order world are.names_apart
      (λ name above. true≢false (sym ((is_cyclic_is_above_itself world name).1 above) ∙ acyclic name))
      rows (are_rows.count ∙ sym (length-map infos class_of))
      (λ j j_in. are_rows.each_row j.0 (omega (arith, j_in, length-map infos class_of)) ∙ inherited_by_name j (omega (arith, j_in, length-map infos class_of)))
      k here nodes (begins (length infos) inside).0 walk (sym up ∙ (begins (length infos) inside).1) in
      sym (numbers_of_plain order) ∙ ap (map number) same ∙ numbers_of_plain expected
    where
      begins : (n : ℕ) → k.0 < n → (rest : List ℕ) × (chain_from n infos (Some k) ≡ k.0 ∷ rest)
      begins zero none = absurd (omega (arith, none))
      begins (suc n) some = (chain_from n infos (superclass_at infos k.0), refl)

  pub inherited_is_graph : (rows : List (List ℕ)) → AreInherited infos rows → IsGraph rows
  inherited_is_graph rows are_rows =
      let class_of = λ (i : ClassInfo). class_of_origin (names_of_infos infos) i.origin in
      let sizes : length world.classes ≡ length rows = omega (arith, length-map infos class_of, are_rows.count) in
      list_all-from_get_or (are_inside (length rows)) rows []
      (λ j inside.
      let here : j < length infos = omega (arith, inside, are_rows.count) in
      let names = flat_map (interfaces_of world) (chain_within (length world.classes) world (name_at world (number j))) in
      subst (λ (l : List ℕ). IsTrue (are_inside (length rows) l)) (sym (are_rows.each_row j here ∙ inherited_by_name (number j) here))
      (list_all-map (λ n. nat_lt n (length rows)) (λ (c : ClassNo). c.0) (numbers_of world names)
      ∙ subst (λ (n : ℕ). IsTrue (list_all (λ (c : ClassNo). nat_lt c.0 n) (numbers_of world names))) sizes (numbers_inside world names)))
