-- Classes that are found by their names.
use Rattle.std.proofs.Common.{◌≡◌, ℕ, List, Option, Some, None, position, bytes_eq, ap, sym, ◌∙◌, refl}
use Rattle.world_model.specs.World.{World}
use Rattle.jv_types.specs.declared.number.ClassNo.{ClassNo}
use Rattle.class_world.specs.World.{names_of, number_of, name_at}
use Rattle.class_world.proofs.Places.{text_at_place}
use Rattle.type_rules.specs.Types.{IsKnown}

module _ (world : World) (name : List ℕ) (class : ClassNo) (found : number_of world name ≡ Some class) where
  place_is : position (bytes_eq name) (names_of world) ≡ Some class.0
  place_is = by (position (bytes_eq name) (names_of world)) refl
    where
      by : (place : Option ℕ) → position (bytes_eq name) (names_of world) ≡ place → position (bytes_eq name) (names_of world) ≡ Some class.0
      by None is = cc
      by (Some n) is = cc

  -- the class has that name
  pub found-name : name_at world class ≡ name
  found-name = sym ((text_at_place (names_of world) name class.0 place_is).1)

  pub found-known : IsKnown world class
  found-known = ap (number_of world) found-name ∙ found
