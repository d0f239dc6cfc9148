-- What stands for a class, a field, a method or a literal while a program runs.
use Rattle.std.specs.Prelude.{◌≡◌, ℕ, List, true, false, Some, bytes_eq, position, slice_get, option_map, option_and_then}
use Rattle.world_model.specs.World.{World, Class, is_static_field}
use Rattle.jv_types.specs.declared.number.ClassNo.{ClassNo}
use Rattle.class_world.specs.World.{field_at, method_at}
use Rattle.class_versions.specs.Slots.{Slots, method_of}
use Rattle.look_up_cache.specs.Targets.{Target, a_class, a_field, a_method, a_literal, target_at}
use Rattle.look_up_cache.specs.Words.{word_of}
use Rattle.look_up_cache.specs.declared.slot.Slot.{Slot}
use Rattle.look_up_cache.specs.declared.slot.Slot.TheVariants as slot

-- The slot stands for the target in a world whose methods have these slots and whose literals have these texts.
abbrev pub IsSlotOf : World → Slots → List (List ℕ) → Target → Slot → Type 0
IsSlotOf world slots texts (a_class name) (slot.Class class) =
    option_map (λ (c : Class). c.name) (slice_get world.classes class.0) ≡ Some name
IsSlotOf world slots texts (a_field found) (slot.Field word) =
    (is_static_field found.member ≡ false) × (word_of world found ≡ Some word)
IsSlotOf world slots texts (a_field found) (slot.Static place) =
    (is_static_field found.member ≡ true) × (field_at world place ≡ Some found)
IsSlotOf world slots texts (a_method found) (slot.Method number) =
    option_and_then (method_at world) (method_of slots number) ≡ Some found
IsSlotOf world slots texts (a_literal units) (slot.Literal number) = position (bytes_eq units) texts ≡ Some number
IsSlotOf world slots texts target other = ⊥

-- The slot is what look-up by name gives for the entry at an index of the pool of a class.
pub record IsSlotAt (world : World) (slots : Slots) (texts : List (List ℕ)) (class : ClassNo) (index : ℕ) (slot : Slot) : Type 0 where
  pub target : Target
  pub named : target_at world class index ≡ Some target
  pub stands : IsSlotOf world slots texts target slot
