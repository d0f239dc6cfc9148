-- Numbers against names: the members that a table finds are those of the definitions.
use Rattle.std.proofs.Common.{◌≡◌, ℕ, ◌<◌, ◌≤◌, Bool, true, ◌&&◌, List, [], ◌∷◌, Option, Some, None, length, map, position, slice_get, get_or, nat_lt, bytes_eq, option_map, option_and_then, IsTrue, ap, sym, ◌∙◌, refl, arith}
use Rattle.std.specs.List.{list_all, filter_map, cons_option}
use Rattle.std.proofs.lemmas.Bool.Decides.{Decides-ltb}
use Rattle.class_names.proofs.Lists.{position-map}
use Rattle.class_names.specs.declared.signatures.Signature.{Signature}
use Rattle.class_names.specs.Distinct.{same_signature}
use Rattle.world_model.specs.World as model
use Rattle.world_model.specs.LookUp.{Found, found_or}
use Rattle.jv_types.specs.declared.number.ClassNo.{ClassNo}
use Rattle.class_world.specs.MemberTable.{at_or, first_with}
use Rattle.class_world.specs.World.{spelled, is_spelled}
use Rattle.class_graph.proofs.Passing.{and_left, and_right}
use Rattle.class_world.proofs.Places.{stands_inside, position-congr}
use Rattle.class_world.proofs.Numbers.{found_at, first_numbered}

-- a number passes the test exactly where the text of that number is the text
abbrev pub IsTestOf : List (List ℕ) → List ℕ → (ℕ → Bool) → Type 0
IsTestOf texts text test = (k : ℕ) → k < length texts → test k ≡ bytes_eq (get_or texts k []) text

abbrev pub both : (ℕ → Bool) → (ℕ → Bool) → Signature → Bool
both name descriptor signature = name signature.name && descriptor signature.descriptor

abbrev pub has_signature : List ℕ → List ℕ → List ℕ × List ℕ → Bool
has_signature name descriptor signature = bytes_eq signature.0 name && bytes_eq signature.1 descriptor

module _ (texts : List (List ℕ)) (name descriptor : List ℕ) (is_name is_descriptor : ℕ → Bool)
    (name_test : IsTestOf texts name is_name) (descriptor_test : IsTestOf texts descriptor is_descriptor) where
  both_test : (s : Signature) → IsTrue (is_spelled texts s)
      → both is_name is_descriptor s ≡ has_signature name descriptor (spelled texts s)
  both_test s within =
      let name_in = (Decides-ltb s.name (length texts)).0 (and_left (nat_lt s.name (length texts)) (list_all (λ n. nat_lt n (length texts)) (s.descriptor ∷ [])) within) in
      let rest = and_right (nat_lt s.name (length texts)) (list_all (λ n. nat_lt n (length texts)) (s.descriptor ∷ [])) within in
      let descriptor_in = (Decides-ltb s.descriptor (length texts)).0 (and_left (nat_lt s.descriptor (length texts)) true rest) in
      λ i. name_test s.name name_in i && descriptor_test s.descriptor descriptor_in i

  -- the place of a signature is that of the member which has it
  pub position-signature : {M : Type 0} (signature_of : M → List ℕ × List ℕ) (own : List Signature) (members : List M)
      → IsTrue (list_all (is_spelled texts) own) → map (spelled texts) own ≡ map signature_of members
      → position (both is_name is_descriptor) own ≡ position (λ (m : M). has_signature name descriptor (signature_of m)) members
  position-signature {M} signature_of own members within same =
      position-congr (is_spelled texts) (both is_name is_descriptor) (λ (s : Signature). has_signature name descriptor (spelled texts s)) own within both_test
      ∙ sym (position-map (has_signature name descriptor) (spelled texts) own)
      ∙ ap (position (has_signature name descriptor)) same
      ∙ position-map (has_signature name descriptor) signature_of members

-- ---- a table finds what the definitions find

-- the member at a place, and the name of its class
abbrev pub place_of : {M : Type 0} → (model.Class → List M) → List model.Class → ClassNo × ℕ → Option (Found M)
place_of members classes place =
    option_and_then (λ (class : model.Class). option_map (λ m. record { class = class.name; member = m })
    (slice_get (members class) place.1)) (slice_get classes place.0.0)

module _ {M : Type 0} (members : model.Class → List M) (declared : model.Class → Option M) (classes : List model.Class)
    (tables : List (List Signature)) (signature : Signature)
    (own : (k : ℕ) (class : model.Class) → slice_get classes k ≡ Some class
    → option_map (slice_get (members class)) (position (same_signature signature) (get_or tables k [])) ≡ option_map Some (declared class)) where
  -- in one class
  one : (k : ClassNo) (class : model.Class) → slice_get classes k.0 ≡ Some class → (place : Option ℕ) (member : Option M)
      → option_map (slice_get (members class)) place ≡ option_map Some member
      → (rest : Option (ClassNo × ℕ)) (others : Option (Found M))
      → option_map (place_of members classes) rest ≡ option_map Some others
      → option_map (place_of members classes) (at_or k place rest) ≡ option_map Some (found_or class.name member others)
  one k class at None None same rest others agree = agree
  one k class at None (Some m) same rest others agree = cc
  one k class at (Some i) None same rest others agree = cc
  one k class at (Some i) (Some m) same rest others agree =
      let is_member : slice_get (members class) i ≡ Some m = cc in
      let found = λ (c : model.Class). option_map (λ m. record { class = c.name; member = m }) (slice_get (members c) i) in
      ap Some (ap (option_and_then found) at ∙ ap (option_map (λ m. record { class = class.name; member = m })) is_member)

  pub first_with-numbered : (order : List ClassNo) → IsTrue (list_all (λ (c : ClassNo). nat_lt c.0 (length classes)) order)
      → option_map (place_of members classes) (first_with tables signature order)
      ≡ option_map Some (first_numbered declared classes order)
  unfolding first_with first_numbered
  first_with-numbered [] within = refl
  first_with-numbered (k ∷ ks) within =
      let inside = (Decides-ltb k.0 (length classes)).0 (and_left (nat_lt k.0 (length classes)) (list_all (λ (c : ClassNo). nat_lt c.0 (length classes)) ks) within) in
      let there = stands_inside classes k.0 inside in
      let rest = first_with-numbered ks (and_right (nat_lt k.0 (length classes)) (list_all (λ (c : ClassNo). nat_lt c.0 (length classes)) ks) within) in
      one k there.0 there.1 (position (same_signature signature) (get_or tables k.0 [])) (declared there.0) (own k.0 there.0 there.1)
      (first_with tables signature ks) (first_numbered declared classes ks) rest
      ∙ sym (ap (λ (o : Option model.Class). option_map Some (found_at declared o (first_numbered declared classes ks))) there.1)

-- where no class declares it, none is found
pub first_numbered-none : {M : Type 0} (declared : model.Class → Option M) (classes : List model.Class)
    → ((k : ℕ) (class : model.Class) → slice_get classes k ≡ Some class → declared class ≡ None)
    → (order : List ClassNo) → first_numbered declared classes order ≡ None
unfolding first_numbered
first_numbered-none declared classes none [] = refl
first_numbered-none {M} declared classes none (k ∷ ks) = by (slice_get classes k.0) refl (first_numbered-none declared classes none ks)
  where
    by : (o : Option model.Class) → slice_get classes k.0 ≡ o → first_numbered declared classes ks ≡ None
        → found_at declared (slice_get classes k.0) (first_numbered declared classes ks) ≡ None
    by None is rest = ap (λ (o : Option model.Class). found_at declared o (first_numbered declared classes ks)) is ∙ rest
    by (Some class) is rest =
        ap (λ (o : Option model.Class). found_at declared o (first_numbered declared classes ks)) is
        ∙ ap (λ (o : Option M). found_or class.name o (first_numbered declared classes ks)) (none k.0 class is) ∙ rest

pub length-filter_map : {A B : Type 0} (f : A → Option B) (xs : List A) → length (filter_map f xs) ≤ length xs
length-filter_map f [] = omega arith
length-filter_map {A} {B} f (x ∷ xs) = by (f x) (length-filter_map f xs)
  where
    by : (o : Option B) → length (filter_map f xs) ≤ length xs → length (cons_option o (filter_map f xs)) ≤ length (x ∷ xs)
    by None rest = omega arith
    by (Some y) rest = omega arith
