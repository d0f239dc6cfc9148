-- What holds of the static fields of the machine, whichever is read or written.
use Rattle.std.specs.Prelude.{◌≡◌, List, true, if◌then◌else◌, Some, IsTrue, is_some}
use Rattle.world_model.specs.World.{World, Field, is_static_field}
use Rattle.world_model.specs.LookUp.{Found}
use Rattle.machine_model.specs.Value.{id_in}
use Rattle.machine_model.specs.State.{Static, static_value, with_static}
use Rattle.class_world.specs.World.{field_at}
use Rattle.member_names.specs.Names.{IsOrderly}
use Rattle.class_layouts.specs.Layouts.{field_found}
use Rattle.jv_values.specs.declared.value.Value.{Value}
use Rattle.jv_values.specs.Values.{value_of}
use Rattle.static_fields.specs.Statics.{Statics, Place, same_place, value_at}
use Rattle.heap_objects.specs.Ids.{Ids, are_live, value_by}
use Rattle.machine_shared.specs.Shared.{AreStatics}

-- A static field is there, in a world in which no name stands twice.
pub record HasStatic (world : World) (place : Place) (found : Found Field) : Type 0 where
  pub orderly : IsOrderly world
  pub at : field_at world place ≡ Some found
  pub static : is_static_field found.member ≡ true

-- What stands at the place of a static field is its value, which names nothing or what is live.
abbrev pub StaticsAreRead : Type 0
StaticsAreRead = (world : World) (ids : Ids) (statics : Statics) (fields : List Static) (place : Place)
    (found : Found Field) (value : Value) → HasStatic world place found → AreStatics world ids statics fields
    → value_at statics place ≡ Some value
    → (static_value fields (field_found found) ≡ Some (value_by ids.id (value_of value)))
    × IsTrue (are_live ids (id_in (value_of value)))

-- Where a value that names nothing or what is live is put there, the static field has that value, and no other changes.
abbrev pub StaticsAreWritten : Type 0
StaticsAreWritten = (world : World) (ids : Ids) (old new : Statics) (fields : List Static) (place : Place)
    (found : Found Field) (value : Value) → HasStatic world place found → AreStatics world ids old fields
    → is_some (value_at old place) ≡ true
    → ((other : Place) → value_at new other ≡ (if same_place place other then Some value else value_at old other))
    → IsTrue (are_live ids (id_in (value_of value)))
    → AreStatics world ids new (with_static (field_found found) (value_by ids.id (value_of value)) fields)
