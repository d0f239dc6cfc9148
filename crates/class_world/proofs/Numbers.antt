-- Numbers against names: where classes are looked for by number, those of the definitions are found.
use Rattle.std.proofs.Common.{◌≡◌, ℕ, ◌<◌, ◌==◌, ◌||◌, List, [], ◌∷◌, Option, Some, None, length, position, slice_get, get_or, bytes_eq, find, option_map, option_and_then, is_some, ap, sym, ◌∙◌, refl, arith}
use Rattle.std.specs.List.{list_any, cons_option, IsDistinct}
use Rattle.std.proofs.lemmas.List.{length-map}
use Rattle.std.proofs.lemmas.Option.{slice_get-map, get_or_from_slice_get}
use Rattle.class_names.proofs.Lists.{position-map}
use Rattle.world_model.specs.World as model
use Rattle.world_model.specs.World.{class_in}
use Rattle.world_model.specs.LookUp.{Found, member_in, found_or, first_declared}
use Rattle.jv_types.specs.declared.number.ClassNo.{ClassNo}
use Rattle.class_world.specs.World.{names_of, name_at, numbers_of}
use Rattle.class_world.proofs.Places.{find-position, some-position, fails_inside, bytes_eq-symm, text_at_place, bytes_eq-places}

abbrev pub name_of : model.Class → List ℕ
name_of class = class.name

abbrev pub number : ℕ → ClassNo
number n = record { 0 = n }

-- ---- the class of a name

-- it's at the place of its name
pub class_in-position : (world : model.World) (name : List ℕ)
    → class_in world name ≡ option_and_then (slice_get world.classes) (position (bytes_eq name) (names_of world))
class_in-position world name =
    (λ i. find (λ (c : model.Class). bytes_eq-symm c.name name i) world.classes)
    ∙ find-position (λ (c : model.Class). bytes_eq name c.name) world.classes
    ∙ ap (option_and_then (slice_get world.classes)) (sym (position-map (bytes_eq name) name_of world.classes))

-- the name at a class's place is its own
pub name_at_place : (world : model.World) (k : ℕ) (class : model.Class) → slice_get world.classes k ≡ Some class
    → get_or (names_of world) k [] ≡ class.name
name_at_place world k class at =
    get_or_from_slice_get (names_of world) k class.name [] (slice_get-map name_of world.classes k ∙ ap (option_map name_of) at)

-- ---- the first class that declares a member

abbrev pub found_at : {A : Type 0} → (model.Class → Option A) → Option model.Class → Option (Found A) → Option (Found A)
found_at declared None rest = rest
found_at declared (Some class) rest = found_or class.name (declared class) rest

-- the first of some classes, by number
unfoldable pub first_numbered : {A : Type 0} → (model.Class → Option A) → List model.Class → List ClassNo → Option (Found A)
first_numbered declared classes [] = None
first_numbered declared classes (k ∷ ks) = found_at declared (slice_get classes k.0) (first_numbered declared classes ks)

named_found : {A : Type 0} (declared : model.Class → Option A) (name : List ℕ) (o : Option model.Class) (rest : Option (Found A))
    → ((class : model.Class) → o ≡ Some class → class.name ≡ name)
    → found_or name (member_in declared o) rest ≡ found_at declared o rest
named_found declared name None rest named = refl
named_found declared name (Some class) rest named =
    ap (λ (n : List ℕ). found_or n (declared class) rest) (sym (named class refl))

pub first_declared-numbers : {A : Type 0} (declared : model.Class → Option A) (world : model.World) (names : List (List ℕ))
    → first_declared declared world names ≡ first_numbered declared world.classes (numbers_of world names)
unfolding first_declared first_numbered
first_declared-numbers declared world [] = refl
first_declared-numbers {A} declared world (name ∷ names) =
    by (position (bytes_eq name) (names_of world)) refl (first_declared-numbers declared world names)
  where
    by : (place : Option ℕ) → position (bytes_eq name) (names_of world) ≡ place
        → first_declared declared world names ≡ first_numbered declared world.classes (numbers_of world names)
        → found_or name (member_in declared (class_in world name)) (first_declared declared world names)
        ≡ first_numbered declared world.classes (cons_option (option_map number (position (bytes_eq name) (names_of world))) (numbers_of world names))
    by None is rest =
        let absent = class_in-position world name ∙ ap (option_and_then (slice_get world.classes)) is in
        ap (λ (o : Option model.Class). found_or name (member_in declared o) (first_declared declared world names)) absent
        ∙ rest
        ∙ sym (ap (λ (o : Option ℕ). first_numbered declared world.classes (cons_option (option_map number o) (numbers_of world names))) is)
    by (Some k) is rest =
        let present = class_in-position world name ∙ ap (option_and_then (slice_get world.classes)) is in
        ap (λ (o : Option model.Class). found_or name (member_in declared o) (first_declared declared world names)) present
        ∙ named_found declared name (slice_get world.classes k) (first_declared declared world names)
        (λ class at. sym (name_at_place world k class at) ∙ sym ((text_at_place (names_of world) name k is).1))
        ∙ ap (found_at declared (slice_get world.classes k)) rest
        ∙ sym (ap (λ (o : Option ℕ). first_numbered declared world.classes (cons_option (option_map number o) (numbers_of world names))) is)

-- ---- a class among others

pub list_any-numbers : (world : model.World) → IsDistinct bytes_eq (names_of world) → (class : ClassNo)
    → class.0 < length world.classes → (names : List (List ℕ))
    → list_any (bytes_eq (name_at world class)) names ≡ list_any (λ (c : ClassNo). class.0 == c.0) (numbers_of world names)
list_any-numbers world distinct class inside [] = refl
list_any-numbers world distinct class inside (name ∷ names) =
    by (position (bytes_eq name) (names_of world)) refl (list_any-numbers world distinct class inside names)
  where
    here : class.0 < length (names_of world)
    here = omega (arith, length-map world.classes name_of)

    by : (place : Option ℕ) → position (bytes_eq name) (names_of world) ≡ place
        → list_any (bytes_eq (name_at world class)) names ≡ list_any (λ (c : ClassNo). class.0 == c.0) (numbers_of world names)
        → (bytes_eq (name_at world class) name || list_any (bytes_eq (name_at world class)) names)
        ≡ list_any (λ (c : ClassNo). class.0 == c.0) (cons_option (option_map number (position (bytes_eq name) (names_of world))) (numbers_of world names))
    by None is rest =
        let absent = sym (some-position (bytes_eq name) (names_of world)) ∙ ap (λ (o : Option ℕ). is_some o) is in
        let differs = bytes_eq-symm (name_at world class) name ∙ fails_inside (bytes_eq name) (names_of world) class.0 [] absent here in
        (λ i. differs i || rest i)
        ∙ sym (ap (λ (o : Option ℕ). list_any (λ (c : ClassNo). class.0 == c.0) (cons_option (option_map number o) (numbers_of world names))) is)
    by (Some k) is rest =
        let at = text_at_place (names_of world) name k is in
        let same = ap (bytes_eq (name_at world class)) at.1 ∙ bytes_eq-places (names_of world) distinct class.0 k here at.0 in
        (λ i. same i || rest i)
        ∙ sym (ap (λ (o : Option ℕ). list_any (λ (c : ClassNo). class.0 == c.0) (cons_option (option_map number o) (numbers_of world names))) is)
