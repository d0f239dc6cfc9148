-- The class that declares a field that was found.
use Rattle.std.proofs.Common.{◌≡◌, ℕ, ◌<◌, ◌||◌, Bool, true, false, List, Option, Some, None, length, option_map, option_and_then, option_to_list, slice_get, bytes_eq, ap, sym, ◌∙◌, refl}
use Rattle.std.proofs.lemmas.Option.{slice_get_within}
use Rattle.std.specs.List.{list_any}
use Rattle.world_model.specs.World as model
use Rattle.world_model.specs.LookUp.{Found}
use Rattle.class_world.specs.declared.class_info.FieldPlace.{FieldPlace}
use Rattle.class_world.specs.World.{name_at, field_at}
use Rattle.class_world.proofs.Numbers.{name_at_place}

or_false : (b : Bool) → (b || false) ≡ b
or_false true = refl
or_false false = refl

-- It stands there, and its class is the one at its place.
pub record IsFoundAt (world : model.World) (place : FieldPlace) (found : Option (Found model.Field)) : Type 0 where
  pub field : Found model.Field
  pub is_field : found ≡ Some field
  pub inside : place.class.0 < length world.classes
  pub class_name : field.class ≡ name_at world place.class

module _ (world : model.World) (place : FieldPlace) where
  in_class : model.Class → Option (Found model.Field)
  in_class class = option_map (λ (f : model.Field). record { class = class.name; member = f }) (slice_get class.fields place.index)

  class_is : (class : model.Class) (member : Option model.Field) (field : Found model.Field)
      → option_map (λ (f : model.Field). record { class = class.name; member = f }) member ≡ Some field → class.name ≡ field.class
  class_is class None field is = absurd cc
  class_is class (Some f) field is = cc

  place-class : (class : Option model.Class) (field : Found model.Field) → slice_get world.classes place.class.0 ≡ class
      → option_and_then in_class class ≡ Some field
      → (place.class.0 < length world.classes) × (field.class ≡ name_at world place.class)
  unfolding in_class
  place-class None field at is = absurd cc
  place-class (Some class) field at is = (
    slice_get_within world.classes place.class.0 class at,
    sym (name_at_place world place.class.0 class at ∙ class_is class (slice_get class.fields place.index) field is),
  )

  pub found-at : (found : Option (Found model.Field)) → option_map (field_at world) (Some place) ≡ option_map Some found
      → IsFoundAt world place found
  unfolding in_class
  found-at None is = absurd cc
  found-at (Some field) is =
      let at : field_at world place ≡ Some field = cc in
      let parts = place-class (slice_get world.classes place.class.0) field refl at in
      record { field = field; is_field = refl; inside = parts.0; class_name = parts.1 }

pub own-field : (name : List ℕ) (found : Option (Found model.Field)) (field : Found model.Field) → found ≡ Some field
    → list_any (λ (f : Found model.Field). bytes_eq f.class name) (option_to_list found) ≡ bytes_eq field.class name
own-field name found field is =
    ap (λ (o : Option (Found model.Field)). list_any (λ (f : Found model.Field). bytes_eq f.class name) (option_to_list o)) is
    ∙ or_false (bytes_eq field.class name)
