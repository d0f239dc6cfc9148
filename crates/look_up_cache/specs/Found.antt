-- What was found by number.
use Rattle.std.specs.Prelude.{ℕ, Option, Some, None, option_map, slice_get}
use Rattle.world_model.specs.World.{Class, World}
use Rattle.class_world.specs.World.{field_at, method_at}
use Rattle.class_world.specs.declared.class_info.FieldPlace.{FieldPlace}
use Rattle.class_versions.specs.Slots.{Slots, slot_of}
use Rattle.look_up_cache.specs.Targets.{Target, a_class, a_field, a_method}
use Rattle.look_up_cache.specs.Words.{Words, entry_at}
use Rattle.look_up_cache.specs.declared.by_name.Resolved.{Resolved}
use Rattle.look_up_cache.specs.declared.by_name.Resolved.TheVariants as found
use Rattle.look_up_cache.specs.declared.slot.Slot.{Slot}
use Rattle.look_up_cache.specs.declared.slot.Slot.TheVariants as slot

abbrev pub found_in : World → Resolved → Option Target
found_in world (found.Class class) = option_map (λ (c : Class). a_class c.name) (slice_get world.classes class.0)
found_in world (found.Field place) = option_map a_field (field_at world place)
found_in world (found.Method method) = option_map a_method (method_at world method)

-- ---- what stands for it

-- a field with its word, or a static one
abbrev pub slot_by : FieldPlace → Option ℕ → Slot
slot_by place None = slot.Static place
slot_by place (Some word) = slot.Field word

abbrev pub slot_in : Slots → Words → Resolved → Option Slot
slot_in slots words (found.Class class) = Some (slot.Class class)
slot_in slots words (found.Field place) = option_map (slot_by place) (entry_at words place)
slot_in slots words (found.Method method) = option_map (λ (n : ℕ). slot.Method n) (slot_of slots method)
