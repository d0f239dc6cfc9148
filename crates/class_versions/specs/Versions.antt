-- The tables that stand for the classes of a world while it runs, and what they say of it.
use Rattle.std.specs.Prelude.{◌≡◌, ℕ, List, [], true, Option, None, Some, is_some, length, map, replicate, slice_get, option_map, option_and_then}
use Rattle.jv_model.specs.Operand.{MemberReference}
use Rattle.world_model.specs.World.{World, Class}
use Rattle.world_model.specs.Supertypes.{chain}
use Rattle.world_model.specs.Selection.{select_in}
use Rattle.jv_types.specs.declared.number.ClassNo.{ClassNo}
use Rattle.jv_types.specs.declared.number.MethodNo.{MethodNo}
use Rattle.jv_values.specs.Values.{value_of}
use Rattle.class_world.specs.World.{field_at, method_at}
use Rattle.class_layouts.specs.declared.layouts.ClassLayouts.{ClassLayouts}
use Rattle.class_layouts.specs.Layouts.{AreLayouts}
use Rattle.static_fields.specs.Statics.{Statics, Place, value_at, first_at}
use Rattle.class_methods.specs.Signatures.{called_at}
use Rattle.class_dispatch.specs.Dispatch.{Tables, selected_by}
use Rattle.code_marks.specs.Marks.{Rows, AreWorldMarks, ShowCodes}
use Rattle.literal_table.specs.Literals.{Literals, IsKept}
use Rattle.world_literals.specs.Literals.{literals_of, named_literals, have}
use Rattle.class_versions.specs.Slots.{Slots, AreSlots, method_of}

-- What contracts see of a `Versions`.
pub record VersionTables : Type 0 where
  -- the fields of each class in the order of its layout, and what they hold
  pub layouts : ClassLayouts
  -- a slot for each method
  pub slots : Slots
  -- for each class the method that a call selects, by the number of the call's name and descriptor
  pub dispatch : Tables
  -- the mark of the code of each method that has one
  pub marks : Rows
  -- the values of static fields
  pub statics : Statics
  -- the lock word of each class
  pub locks : List ℕ
  -- the literals and the interned strings
  pub literals : Literals

-- the method that a call of a slot's name and descriptor selects on an object of a class
abbrev pub selected_for : Slots → Tables → ClassNo → ℕ → Option MethodNo
selected_for slots dispatch class slot =
    option_and_then (λ signature. selected_by dispatch class signature) (slice_get slots.signatures slot)

abbrev pub selected_at : VersionTables → ClassNo → ℕ → Option MethodNo
selected_at tables class slot = selected_for tables.slots tables.dispatch class slot

-- For a slot whose method has the name and descriptor of a call, what the definitions select in the class and upwards.
abbrev pub SelectsBySlot : World → Slots → Tables → Type 0
SelectsBySlot world slots dispatch =
    (class : ClassNo) (c : Class) (m : MemberReference) (slot : ℕ) (method : MethodNo)
    → slice_get world.classes class.0 ≡ Some c → method_of slots slot ≡ Some method
    → called_at world method ≡ Some (m.name, m.descriptor)
    → option_map (method_at world) (selected_for slots dispatch class slot) ≡ option_map Some (select_in world m (chain world c.name))

-- Slots and dispatch of a world.
pub record AreCalls (world : World) (slots : Slots) (dispatch : Tables) : Type 0 where
  pub method_counts : slots.counts ≡ map (λ (c : Class). length c.methods) world.classes
  pub are_slots : AreSlots slots
  pub dispatch_count : length dispatch ≡ length world.classes
  pub selects : SelectsBySlot world slots dispatch

-- There is a value for each field, and for no other place.
abbrev pub HasStatics : World → Statics → Type 0
HasStatics world statics = (place : Place) → is_some (value_at statics place) ≡ is_some (field_at world place)

-- These are the tables of that world, whatever was put into static fields, locks and the places of strings since.
pub record AreVersions (world : World) (tables : VersionTables) : Type 0 where
  pub layouts : AreLayouts world tables.layouts
  pub method_counts : tables.slots.counts ≡ map (λ (c : Class). length c.methods) world.classes
  pub slots : AreSlots tables.slots
  pub dispatch_count : length tables.dispatch ≡ length world.classes
  pub selects : SelectsBySlot world tables.slots tables.dispatch
  pub marks : AreWorldMarks world tables.marks
  pub codes : ShowCodes world tables.marks
  pub statics : HasStatics world tables.statics
  pub locks : length tables.locks ≡ length world.classes
  pub texts : tables.literals.texts ≡ literals_of world
  pub named : have tables.literals.texts (named_literals world) ≡ true
  pub kept : IsKept tables.literals.texts tables.literals.addresses tables.literals.order

-- As a program starts: each field has its first value, no thread owns a class's monitor, and nothing is interned.
pub record IsStart (world : World) (tables : VersionTables) : Type 0 where
  pub values : (place : Place) → option_map value_of (value_at tables.statics place) ≡ first_at world place
  pub locks : tables.locks ≡ replicate (length world.classes) 0
  pub addresses : tables.literals.addresses ≡ replicate (length tables.literals.texts) None
  pub order : tables.literals.order ≡ []

-- What are the tables of a world stay so.
abbrev pub Keeps : VersionTables → VersionTables → Type 0
Keeps old new = (world : World) → AreVersions world old → AreVersions world new
