-- A class that is found by its name, by its number.
use Rattle.std.proofs.Common.{◌≡◌, ℕ, zero, suc, ◌<◌, ◌+◌, ◌==◌, Bool, true, false, ◌||◌, not, List, [], Option, Some, None, length, position, slice_get, bytes_eq, bit_and, option_and_then, option_to_list, ap, sym, ◌∙◌, refl, arith}
use Rattle.std.proofs.lemmas.List.{length-map}
use Rattle.std.specs.List.{list_any}
use Rattle.world_model.specs.World as model
use Rattle.world_model.specs.World.{class_in, is_interface, has_flag, acc_interface, acc_abstract, acc_final}
use Rattle.world_model.specs.Supertypes.{each_once, field_order_within, is_sub}
use Rattle.typing_model.specs.Assignable.{names_interface, class_assignable}
use Rattle.jv_types.specs.declared.number.ClassNo.{ClassNo}
use Rattle.jv_types.specs.declared.loaded.Loaded.{Loaded}
use Rattle.jv_types.specs.declared.boot.BootClass.{BootClass}
use Rattle.class_world.specs.World.{names_of, name_at, class_of_origin}
use Rattle.class_world.specs.declared.class_info.ClassInfo.{ClassInfo}
use Rattle.class_world.specs.declared.class_info.Origin.TheVariants.{Boot, Program}
use Rattle.jv_types.specs.Boot.{flag_if}
use Rattle.class_world.proofs.Places.{text_at_place, bytes_eq-symm}
use Rattle.class_world.proofs.Numbers.{class_in-position}
use Rattle.class_world.proofs.Infos.{HasInfo}
use Rattle.type_rules.specs.Types.{IsKnown}

module _ (world : model.World) (class : ClassNo) (known : IsKnown world class) where
  place_is : position (bytes_eq (name_at world class)) (names_of world) ≡ Some class.0
  place_is = by (position (bytes_eq (name_at world class)) (names_of world)) refl
    where
      by : (place : Option ℕ) → position (bytes_eq (name_at world class)) (names_of world) ≡ place
          → position (bytes_eq (name_at world class)) (names_of world) ≡ Some class.0
      by None is = cc
      by (Some n) is = cc

  -- it's there
  pub known-inside : class.0 < length world.classes
  known-inside =
      let at = (text_at_place (names_of world) (name_at world class) class.0 place_is).0 in
      omega (arith, at, length-map world.classes (λ (c : model.Class). c.name))

  -- its name finds it
  pub known-class_in : class_in world (name_at world class) ≡ slice_get world.classes class.0
  known-class_in =
      class_in-position world (name_at world class) ∙ ap (option_and_then (slice_get world.classes)) place_is

-- ---- interfaces

is_boot_interface : (a b : Bool) → has_flag acc_interface (flag_if a (acc_interface + acc_abstract) + flag_if b acc_final) ≡ a
is_boot_interface true true = refl
is_boot_interface true false = refl
is_boot_interface false true = refl
is_boot_interface false false = refl

module _ (world : model.World) (class : ClassNo) (known : IsKnown world class) (info : ClassInfo) (at : HasInfo world class.0 info) where
  names_interface-info : (is : Bool)
      → ((c : model.Class) → class_of_origin (names_of world) info.origin ≡ c → is_interface c ≡ is)
      → is ≡ names_interface world (name_at world class)
  names_interface-info is by_origin =
      sym (ap (λ (o : Option model.Class). list_any is_interface (option_to_list o)) (known-class_in world class known ∙ at.1)
      ∙ or_false (is_interface at.0) ∙ by_origin at.0 at.2.origin)
    where
      or_false : (b : Bool) → (b || false) ≡ b
      or_false true = refl
      or_false false = refl

  pub boot-names_interface : (boot : BootClass) → info.origin ≡ Boot boot
      → boot.is_interface ≡ names_interface world (name_at world class)
  boot-names_interface boot is =
      names_interface-info boot.is_interface
      (λ c origin. ap is_interface (sym origin ∙ ap (class_of_origin (names_of world)) is)
      ∙ is_boot_interface boot.is_interface boot.is_final)

  pub program-names_interface : (loaded : Loaded) → info.origin ≡ Program loaded
      → not (bit_and loaded.file.flags 0x200 == 0) ≡ names_interface world (name_at world class)
  program-names_interface loaded is =
      names_interface-info (not (bit_and loaded.file.flags 0x200 == 0))
      (λ c origin. ap is_interface (sym origin ∙ ap (class_of_origin (names_of world)) is))

-- ---- subtypes

-- a type is below itself
sub_itself : (world : model.World) (below above : List ℕ) → 0 < length world.classes → bytes_eq below above ≡ true
    → is_sub world below above ≡ true
unfolding each_once field_order_within
sub_itself world below above some same = by (length world.classes) some
  where
    by : (n : ℕ) → 0 < n → list_any (bytes_eq above) (each_once [] (field_order_within n world below)) ≡ true
    by zero some = absurd (omega arith)
    by (suc n) some = rw (bytes_eq-symm above below, same) refl

or_same : (same is_interface sub : Bool) → (same ≡ true → sub ≡ true) → (is_interface || sub) ≡ ((same || is_interface) || sub)
or_same false is_interface sub below = refl
or_same true true sub below = refl
or_same true false sub below = below refl

pub no_interface : (is is_interface sub found : Bool) → is ≡ is_interface → is ≡ false → sub ≡ found → sub ≡ (is_interface || found)
no_interface is is_interface sub found same fails sub_is = sub_is ∙ ap (λ (b : Bool). b || found) (sym fails ∙ same)

pub class_assignable-by_sub : (world : model.World) (from to : ClassNo) → IsKnown world from
    → (names_interface world (name_at world to) || is_sub world (name_at world from) (name_at world to))
    ≡ class_assignable world (name_at world from) (name_at world to)
class_assignable-by_sub world from to known =
    let inside = known-inside world from known in
    or_same (bytes_eq (name_at world from) (name_at world to)) (names_interface world (name_at world to))
    (is_sub world (name_at world from) (name_at world to)) (sub_itself world (name_at world from) (name_at world to) (omega (arith, inside)))
