-- What a cache keeps.
use Rattle.std.specs.Prelude.{◌≡◌, ℕ, List, Option, Some, None, length, map, replicate, slice_get, slice_set, option_and_then}
use Rattle.world_model.specs.World.{World, Class}
use Rattle.machine_model.specs.Heap.{replace_at}
use Rattle.jv_types.specs.declared.number.ClassNo.{ClassNo}
use Rattle.class_versions.specs.Slots.{Slots}
use Rattle.look_up_cache.specs.Targets.{pool_in}
use Rattle.look_up_cache.specs.Words.{Words, AreWords}
use Rattle.look_up_cache.specs.Slots.{IsSlotAt}
use Rattle.look_up_cache.specs.declared.slot.Slot.{Slot}

-- For each class, by number, and each entry of its pool, what stands for what it leads to, where that was looked up.
abbrev pub Places : Type 0
Places = List (List (Option Slot))

-- What contracts see of a `Cache`.
pub record Kept : Type 0 where
  pub places : Places
  -- the places of fields in objects, which never change
  pub words : Words

-- the empty places for the entries of the pools of a world
abbrev pub places_in : World → Places
places_in world = map (λ (c : Class). replicate (length (pool_in c.loaded)) None) world.classes

-- there is a place
abbrev pub place_at : Places → ClassNo → ℕ → Option (Option Slot)
place_at places class index =
    option_and_then (λ (row : List (Option Slot)). slice_get row index) (slice_get places class.0)

-- what is kept at a place
abbrev pub kept_at : Kept → ClassNo → ℕ → Option Slot
kept_at kept class index = option_and_then (λ (place : Option Slot). place) (place_at kept.places class index)

-- with this kept there
abbrev pub with_place : ClassNo → ℕ → Slot → Places → Places
with_place class index slot places =
    replace_at (λ (row : List (Option Slot)). slice_set row index (Some slot)) places class.0

abbrev pub with_kept : ClassNo → ℕ → Slot → Kept → Kept
with_kept class index slot kept = record kept { places = with_place class index slot kept.places }

-- The cache is true of a world whose methods have these slots and whose literals have these texts.
pub record IsTrueOf (world : World) (slots : Slots) (texts : List (List ℕ)) (kept : Kept) : Type 0 where
  -- There is a place for each entry of the pool of each class.
  pub places : map (λ (row : List (Option Slot)). length row) kept.places
      ≡ map (λ (c : Class). length (pool_in c.loaded)) world.classes
  -- What is kept at a place is what look-up by name gives.
  pub each : (class : ClassNo) (index : ℕ) (slot : Slot) → kept_at kept class index ≡ Some slot
      → IsSlotAt world slots texts class index slot
  pub words : AreWords world kept.words

-- What was kept is kept.
abbrev pub StaysKept : Kept → Kept → Type 0
StaysKept old new = (class : ClassNo) (index : ℕ) (slot : Slot) → kept_at old class index ≡ Some slot
    → kept_at new class index ≡ Some slot
