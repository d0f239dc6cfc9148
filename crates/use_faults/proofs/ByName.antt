-- Classes by their names and by their numbers.
use Rattle.std.proofs.Common.{◌≡◌, ℕ, ◌<◌, Bool, true, false, not, ◌&&◌, if◌then◌else◌, find, List, [], ◌∷◌, Option, Some, None, length, position, slice_get, bytes_eq, ap, sym, ◌∙◌, refl, arith}
use Rattle.std.specs.Prelude.{option_and_then}
use Rattle.std.proofs.lemmas.List.{length-map}
use Rattle.std.proofs.lemmas.Slice.Eq.{bytes_eq-Decides}
use Rattle.jv_model.specs.ClassData.{ClassData}
use Rattle.jv_model.specs.Partial.{passes}
use Rattle.world_model.specs.World.{Class, Method, World, class_in, declared_method, has_flag, acc_interface, is_interface}
use Rattle.world_model.specs.BootNames.{java_object}
use Rattle.link_model.specs.UseFaults.{is_class_where, fits_superclass}
use Rattle.jv_types.specs.declared.number.ClassNo.{ClassNo}
use Rattle.class_world.specs.World.{names_of, name_at, number_of, class_of_origin}
use Rattle.class_world.specs.declared.class_info.ClassInfo.{ClassInfo}
use Rattle.class_world.proofs.Infos.{HasInfo}
use Rattle.class_world.proofs.Numbers.{class_in-position}
use Rattle.class_world.proofs.Places.{text_at_place}

module _ (world : World) (name : List ℕ) where
  place_of : (class : ClassNo) → Some class ≡ number_of world name
      → position (bytes_eq name) (names_of world) ≡ Some class.0
  place_of class is = by (position (bytes_eq name) (names_of world)) refl
    where
      by : (place : Option ℕ) → position (bytes_eq name) (names_of world) ≡ place
          → position (bytes_eq name) (names_of world) ≡ Some class.0
      by None at = cc
      by (Some n) at = cc

  none_of : None ≡ number_of world name → position (bytes_eq name) (names_of world) ≡ None
  none_of is = by (position (bytes_eq name) (names_of world)) refl
    where
      by : (place : Option ℕ) → position (bytes_eq name) (names_of world) ≡ place
          → position (bytes_eq name) (names_of world) ≡ None
      by None at = at
      by (Some n) at = absurd cc

  pub place_inside : (class : ClassNo) → Some class ≡ number_of world name → class.0 < length world.classes
  place_inside class is =
      let at = (text_at_place (names_of world) name class.0 (place_of class is)).0 in
      omega (arith, at, length-map world.classes (λ (c : Class). c.name))

  -- the class of a name is that of its number
  pub class_at : (class : ClassNo) → Some class ≡ number_of world name
      → class_in world name ≡ slice_get world.classes class.0
  class_at class is =
      class_in-position world name ∙ ap (option_and_then (slice_get world.classes)) (place_of class is)

  pub no_class : None ≡ number_of world name → class_in world name ≡ None
  no_class is =
      class_in-position world name ∙ ap (option_and_then (slice_get world.classes)) (none_of is)

  pub name_is : (class : ClassNo) → Some class ≡ number_of world name → name_at world class ≡ name
  name_is class is = sym (text_at_place (names_of world) name class.0 (place_of class is)).1

  pub class_told : (class : ClassNo) (info : ClassInfo) → Some class ≡ number_of world name
      → HasInfo world class.0 info → Some (class_of_origin (names_of world) info.origin) ≡ class_in world name
  class_told class info is at = sym (class_at class is ∙ at.1 ∙ ap Some (sym at.2.origin))

-- ---- what is found

-- what is found passes
pub find_passes : {A : Type 0} (test : A → Bool) (items : List A) (x : A) → find test items ≡ Some x → test x ≡ true
find_passes test [] x is = absurd cc
find_passes test (y ∷ items) x is = by (test y) refl is (find_passes test items x)
  where
    by : (b : Bool) → test y ≡ b → (if b then Some y else find test items) ≡ Some x
        → (find test items ≡ Some x → test x ≡ true) → test x ≡ true
    by true here found rest = let same : y ≡ x = cc in ap test (sym same) ∙ here
    by false here found rest = rest found

-- a class that is found by a name has it
pub found_name : (world : World) (name : List ℕ) (class : Class) → class_in world name ≡ Some class → class.name ≡ name
found_name world name class is =
    (bytes_eq-Decides class.name name).0 (find_passes (λ (c : Class). bytes_eq c.name name) world.classes class is)

-- above an interface stands the class of all objects
pub object_above : (world : World) (file : ClassData) (name : List ℕ) (class : Class) → Some class ≡ class_in world name
    → has_flag acc_interface file.flags ≡ true
    → bytes_eq name java_object ≡ is_class_where world (fits_superclass file) name
object_above world file name class is flag =
    ap (λ (n : List ℕ). bytes_eq n java_object) (sym (found_name world name class (sym is)))
    ∙ ap (λ (b : Bool). if b then bytes_eq class.name java_object else not (is_interface class)) (sym flag)
    ∙ ap (passes (fits_superclass file)) is

-- a method that a class declares has the name
pub declared_name : (name descriptor : List ℕ) (class : Class) (method : Method)
    → declared_method name descriptor class ≡ Some method → method.name ≡ name
declared_name name descriptor class method is =
    (bytes_eq-Decides method.name name).0 (left (bytes_eq method.name name) (bytes_eq method.descriptor descriptor)
    (find_passes (λ (m : Method). bytes_eq m.name name && bytes_eq m.descriptor descriptor) class.methods method is))
  where
    left : (s t : Bool) → (s && t) ≡ true → s ≡ true
    left true t h = refl
    left false t h = h
