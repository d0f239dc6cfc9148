-- A look-up by number finds what the definitions find by name.
use Rattle.std.proofs.Common.{◌≡◌, ℕ, ◌<◌, ◌≤◌, ◌==◌, Bool, true, false, ◌&&◌, ◌||◌, List, [], ◌∷◌, Option, Some, None, length, map, position, slice_get, get_or, nat_lt, bytes_eq, find, option_map, option_and_then, is_some, IsTrue, inl, inr, ap, sym, subst, ◌∙◌, refl, true≢false, arith}
use Rattle.std.specs.List.{list_any, list_all, cons_option, IsDistinct}
use Rattle.std.proofs.Math.ListN.{get_or-map}
use Rattle.std.proofs.lemmas.List.{length-map}
use Rattle.std.proofs.lemmas.Option.{slice_get-map, get_or_from_slice_get, slice_get_cases}
use Rattle.std.proofs.lemmas.Bool.Decides.{Decides-ltb}
use Rattle.class_names.specs.declared.signatures.Signature.{Signature}
use Rattle.class_names.specs.Distinct.{same_signature}
use Rattle.world_model.specs.World as model
use Rattle.world_model.specs.LookUp.{first_declared}
use Rattle.jv_types.specs.declared.number.ClassNo.{ClassNo}
use Rattle.class_world.specs.MemberTable.{Members, order_at, first_with}
use Rattle.class_world.specs.World.{names_of, name_at, numbers_of, spelled, is_spelled, signature_of, IsTable}
use Rattle.class_graph.proofs.Passing.{list_all-get_or}
use Rattle.class_world.proofs.Places.{some-position, slice_get-position, stands_inside, text_at_place, test_by_number, test_of_none}
use Rattle.class_world.proofs.Numbers.{first_declared-numbers, name_at_place}
use Rattle.class_world.proofs.Members.{IsTestOf, both, has_signature, position-signature, place_of, first_with-numbered, first_numbered-none, length-filter_map}

-- ---- tests of numbers

-- the number is that of the text, where it has one
abbrev is_number : Option ℕ → ℕ → Bool
is_number None k = false
is_number (Some n) k = n == k

number_test : (texts : List (List ℕ)) → IsDistinct bytes_eq texts → (text : List ℕ) (place : Option ℕ)
    → position (bytes_eq text) texts ≡ place → IsTestOf texts text (is_number place)
number_test texts distinct text None none =
    test_of_none texts text (sym (some-position (bytes_eq text) texts) ∙ ap (λ (o : Option ℕ). is_some o) none)
number_test texts distinct text (Some n) found = test_by_number texts distinct text n found

list_any-fails : {A : Type 0} (p : A → Bool) (xs : List A) → ((x : A) → p x ≡ false) → list_any p xs ≡ false
list_any-fails p [] fails = refl
list_any-fails p (x ∷ xs) fails = λ i. fails x i || list_any-fails p xs fails i

none_from_test : {A : Type 0} (o : Option A) → is_some o ≡ false → o ≡ None
none_from_test None none = refl
none_from_test (Some x) none = absurd (true≢false none)

position-fails : {A : Type 0} (p : A → Bool) (xs : List A) → ((x : A) → p x ≡ false) → position p xs ≡ None
position-fails p xs fails = none_from_test (position p xs) (some-position p xs ∙ list_any-fails p xs fails)

find-none : {A : Type 0} (o : Option ℕ) (f : ℕ → Option A) (found : Option A) → option_map f o ≡ option_map Some found
    → o ≡ None → found ≡ None
find-none o f None same none = refl
find-none o f (Some x) same none = cc (ap (option_map f) none)

pub inside_from_at : {A : Type 0} (xs : List A) (k : ℕ) (x : A) → slice_get xs k ≡ Some x → k < length xs
inside_from_at xs k x at = elim ((slice_get_cases xs k).1) [ inl w ↦ w.1 | inr w ↦ cc ]

-- ---- signatures

abbrev signature_at : Option ℕ → Option ℕ → Option Signature
signature_at name_place descriptor_place =
    option_and_then (λ n. option_map (λ d. record { name = n; descriptor = d }) descriptor_place) name_place

both-same : (name_place descriptor_place : Option ℕ) (signature : Signature) → signature_at name_place descriptor_place ≡ Some signature
    → both (is_number name_place) (is_number descriptor_place) ≡ same_signature signature
both-same None descriptor_place signature is = cc
both-same (Some n) None signature is = cc
both-same (Some n) (Some d) signature is =
    let same : record { name = n; descriptor = d } ≡ signature = cc in
    ap same_signature same

and-false : (b : Bool) → (b && false) ≡ false
and-false true = refl
and-false false = refl

both-none : (name_place descriptor_place : Option ℕ) → signature_at name_place descriptor_place ≡ None
    → (s : Signature) → both (is_number name_place) (is_number descriptor_place) s ≡ false
both-none None descriptor_place is s = refl
both-none (Some n) None is s = and-false (n == s.name)
both-none (Some n) (Some d) is s = cc

-- ---- orders

-- the numbers of names are those of classes
pub numbers_inside : (world : model.World) (names : List (List ℕ))
    → IsTrue (list_all (λ (c : ClassNo). nat_lt c.0 (length world.classes)) (numbers_of world names))
numbers_inside world [] = refl
numbers_inside world (name ∷ names) =
    by (position (bytes_eq name) (names_of world)) refl (numbers_inside world names)
  where
    by : (place : Option ℕ) → position (bytes_eq name) (names_of world) ≡ place
        → IsTrue (list_all (λ (c : ClassNo). nat_lt c.0 (length world.classes)) (numbers_of world names))
        → IsTrue (list_all (λ (c : ClassNo). nat_lt c.0 (length world.classes))
        (cons_option (option_map (λ n. record { 0 = n }) (position (bytes_eq name) (names_of world))) (numbers_of world names)))
    by None is rest =
        ap (λ (o : Option ℕ). list_all (λ (c : ClassNo). nat_lt c.0 (length world.classes)) (cons_option (option_map (λ n. record { 0 = n }) o) (numbers_of world names))) is
        ∙ rest
    by (Some k) is rest =
        let at = (text_at_place (names_of world) name k is).0 in
        let inside : k < length world.classes = omega (arith, length-map world.classes (λ (c : model.Class). c.name)) in
        ap (λ (o : Option ℕ). list_all (λ (c : ClassNo). nat_lt c.0 (length world.classes)) (cons_option (option_map (λ n. record { 0 = n }) o) (numbers_of world names))) is
        ∙ (λ i. (Decides-ltb k (length world.classes)).1 inside i && rest i)

module _ {M : Type 0} (world : model.World) (texts : List (List ℕ)) (distinct : IsDistinct bytes_eq texts)
    (order : List ℕ → List (List ℕ)) (sign : M → List ℕ × List ℕ) (members : model.Class → List M) (table : Members)
    (is_table : IsTable world texts order (λ (c : model.Class). map sign (members c)) table) where
  -- the order of a class, by numbers
  pub order_at-numbers : (class : ClassNo) → class.0 < length world.classes
      → order_at table class.0 ≡ numbers_of world (order (name_at world class))
  order_at-numbers class inside =
      let there = stands_inside world.classes class.0 inside in
      let numbers = λ (c : model.Class). numbers_of world (order c.name) in
      ap (λ (o : List (List ClassNo)). get_or o class.0 []) is_table.orders
      ∙ get_or_from_slice_get (map numbers world.classes) class.0 (numbers there.0) []
      (slice_get-map numbers world.classes class.0 ∙ ap (option_map numbers) there.1)
      ∙ ap (λ (n : List ℕ). numbers_of world (order n)) (sym (name_at_place world class.0 there.0 there.1))

  pub length-order_at : (class : ClassNo) → class.0 < length world.classes
      → length (order_at table class.0) ≤ length (order (name_at world class))
  length-order_at class inside =
      subst (λ (o : List ClassNo). length o ≤ length (order (name_at world class))) (sym (order_at-numbers class inside))
      (length-filter_map _ (order (name_at world class)))

  -- the signatures of a class are those of its members
  own_signatures : (k : ℕ) (class : model.Class) → slice_get world.classes k ≡ Some class
      → (map (spelled texts) (get_or table.declared k []) ≡ map sign (members class))
      × IsTrue (list_all (is_spelled texts) (get_or table.declared k []))
  own_signatures k class at =
      let signatures = λ (c : model.Class). map sign (members c) in
      let inside = inside_from_at world.classes k class at in
      let there : k < length table.declared =
      omega (arith, length-map table.declared (map (spelled texts)), length-map world.classes signatures, ap length is_table.declared) in (
        sym (get_or-map (map (spelled texts)) table.declared k [])
            ∙ ap (λ (o : List (List (List ℕ × List ℕ))). get_or o k []) is_table.declared
            ∙ get_or_from_slice_get (map signatures world.classes) k (map sign (members class)) []
            (slice_get-map signatures world.classes k ∙ ap (option_map signatures) at),
        list_all-get_or (list_all (is_spelled texts)) table.declared k [] is_table.within there,
      )

  module _ (name descriptor : List ℕ) (declared : model.Class → Option M)
      (declares : (k : ℕ) (class : model.Class) → slice_get world.classes k ≡ Some class
      → declared class ≡ find (λ (m : M). has_signature name descriptor (sign m)) (members class)) where
    -- the member that a class declares is at the place of its signature
    finds_own : (is_name is_descriptor : ℕ → Bool) → IsTestOf texts name is_name → IsTestOf texts descriptor is_descriptor
        → (k : ℕ) (class : model.Class) → slice_get world.classes k ≡ Some class
        → option_map (slice_get (members class)) (position (both is_name is_descriptor) (get_or table.declared k []))
        ≡ option_map Some (declared class)
    finds_own is_name is_descriptor name_test descriptor_test k class at =
        let own = own_signatures k class at in
        ap (option_map (slice_get (members class)))
        (position-signature texts name descriptor is_name is_descriptor name_test descriptor_test sign
        (get_or table.declared k []) (members class) own.1 own.0)
        ∙ slice_get-position (λ (m : M). has_signature name descriptor (sign m)) (members class)
        ∙ sym (ap (option_map Some) (declares k class at))

    pub finds_signature : (name_place descriptor_place : Option ℕ) (signature : Signature)
        → position (bytes_eq name) texts ≡ name_place → position (bytes_eq descriptor) texts ≡ descriptor_place
        → signature_at name_place descriptor_place ≡ Some signature
        → (k : ℕ) (class : model.Class) → slice_get world.classes k ≡ Some class
        → option_map (slice_get (members class)) (position (same_signature signature) (get_or table.declared k []))
        ≡ option_map Some (declared class)
    finds_signature name_place descriptor_place signature name_is descriptor_is is k class at =
        ap (λ (test : Signature → Bool). option_map (slice_get (members class)) (position test (get_or table.declared k [])))
        (sym (both-same name_place descriptor_place signature is))
        ∙ finds_own (is_number name_place) (is_number descriptor_place) (number_test texts distinct name name_place name_is)
        (number_test texts distinct descriptor descriptor_place descriptor_is) k class at

    -- the member that a class declares itself
    pub own_by_signature : (signature : Signature) → signature_of texts name descriptor ≡ Some signature
        → (k : ℕ) (class : model.Class) → slice_get world.classes k ≡ Some class
        → option_map (slice_get (members class)) (position (same_signature signature) (get_or table.declared k []))
        ≡ option_map Some (declared class)
    own_by_signature signature is =
        finds_signature (position (bytes_eq name) texts) (position (bytes_eq descriptor) texts) signature refl refl is

    -- what is found by number
    pub found_by_number : (signature : Signature) → signature_of texts name descriptor ≡ Some signature
        → (class : ClassNo) → class.0 < length world.classes
        → option_map (place_of members world.classes) (first_with table.declared signature (order_at table class.0))
        ≡ option_map Some (first_declared declared world (order (name_at world class)))
    found_by_number signature is class inside =
        ap (λ (o : List ClassNo). option_map (place_of members world.classes) (first_with table.declared signature o))
        (order_at-numbers class inside)
        ∙ first_with-numbered members declared world.classes table.declared signature
        (finds_signature (position (bytes_eq name) texts) (position (bytes_eq descriptor) texts) signature refl refl is)
        (numbers_of world (order (name_at world class))) (numbers_inside world (order (name_at world class)))
        ∙ sym (ap (option_map Some) (first_declared-numbers declared world (order (name_at world class))))

    -- where a text has no number, no class declares a member of it
    pub none_declared : signature_of texts name descriptor ≡ None → (k : ℕ) (class : model.Class) → slice_get world.classes k ≡ Some class
        → declared class ≡ None
    none_declared is k class at =
        let name_place = position (bytes_eq name) texts in
        let descriptor_place = position (bytes_eq descriptor) texts in
        find-none (position (both (is_number name_place) (is_number descriptor_place)) (get_or table.declared k []))
        (slice_get (members class)) (declared class)
        (finds_own (is_number name_place) (is_number descriptor_place) (number_test texts distinct name name_place refl)
        (number_test texts distinct descriptor descriptor_place refl) k class at)
        (position-fails (both (is_number name_place) (is_number descriptor_place)) (get_or table.declared k [])
        (both-none name_place descriptor_place is))

    -- where a text has no number, no member has it
    pub none_by_number : signature_of texts name descriptor ≡ None → (names : List (List ℕ))
        → first_declared declared world names ≡ None
    none_by_number is names =
        first_declared-numbers declared world names
        ∙ first_numbered-none declared world.classes (none_declared is) (numbers_of world names)
