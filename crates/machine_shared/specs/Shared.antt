-- Which static fields, class monitors and interned strings of the definitions the machine has.
use Rattle.std.specs.Prelude.{◌≡◌, ℕ, suc, List, [], ◌∷◌, ◌++◌, if◌then◌else◌, Option, Some, None, IsTrue, map, flat_map, slice_get}
use Rattle.world_model.specs.World.{World, Class, Field, is_static_field}
use Rattle.world_model.specs.Members.{field_of}
use Rattle.machine_model.specs.Value.{id_in}
use Rattle.machine_model.specs.State.{Static, ClassMonitor, Interned}
use Rattle.heap_face.specs.declared.address.Addr.{Addr}
use Rattle.jv_values.specs.declared.value.Value.{Value}
use Rattle.jv_values.specs.Values.{value_of}
use Rattle.static_fields.specs.Statics.{Statics, value_at}
use Rattle.literal_table.specs.Literals.{Literals, address_at}
use Rattle.vm_monitors.specs.Words.{monitor_of_word}
use Rattle.heap_objects.specs.Ids.{Ids, are_live, static_by, interned_by}

-- ---- static fields, with addresses in place of ids

abbrev pub static_in : Class → Field → Option Value → List Static
static_in class field None = []
static_in class field (Some value) = record { field = field_of class field; value = value_of value } ∷ []

-- those of a class, of its fields from an index on
abbrev pub own_statics : Statics → ℕ → Class → ℕ → List Field → List Static
own_statics statics number class index [] = []
own_statics statics number class index (field ∷ fields) =
    (if is_static_field field
    then static_in class field (value_at statics (record { class = record { 0 = number }; index = index })) else [])
    ++ own_statics statics number class (suc index) fields

-- those of the classes from a number on
abbrev pub statics_from : Statics → ℕ → List Class → List Static
statics_from statics number [] = []
statics_from statics number (class ∷ classes) =
    own_statics statics number class 0 class.fields ++ statics_from statics (suc number) classes

abbrev pub statics_in : World → Statics → List Static
statics_in world statics = statics_from statics 0 world.classes

abbrev pub static_addresses : List Static → List ℕ
static_addresses fields = flat_map (λ (s : Static). id_in s.value) fields

pub record AreStatics (world : World) (ids : Ids) (statics : Statics) (fields : List Static) : Type 0 where
  pub same : map (static_by ids.id) (statics_in world statics) ≡ fields
  pub live : IsTrue (are_live ids (static_addresses (statics_in world statics)))

-- ---- class monitors

abbrev pub class_monitors_of : List Class → List ℕ → List ClassMonitor
class_monitors_of [] words = []
class_monitors_of (class ∷ classes) [] = []
class_monitors_of (class ∷ classes) (word ∷ words) =
    record { class = class.name; monitor = monitor_of_word word } ∷ class_monitors_of classes words

-- ---- interned strings, with addresses in place of ids

abbrev pub interned_row : Option (List ℕ) → Option Addr → List Interned
interned_row (Some units) (Some a) = record { units = units; id = a.0 } ∷ []
interned_row units address = []

-- the string of the literal with that number
abbrev pub interned_at : Literals → ℕ → List Interned
interned_at literals number = interned_row (slice_get literals.texts number) (address_at literals.addresses number)

abbrev pub interned_in : Literals → List Interned
interned_in literals = flat_map (interned_at literals) literals.order

abbrev pub interned_addresses : List Interned → List ℕ
interned_addresses rows = map (λ (row : Interned). row.id) rows

pub record AreInterned (ids : Ids) (literals : Literals) (interned : List Interned) : Type 0 where
  pub same : map (interned_by ids.id) (interned_in literals) ≡ interned
  pub live : IsTrue (are_live ids (interned_addresses (interned_in literals)))
