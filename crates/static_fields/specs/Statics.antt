-- Static fields by place.
use Rattle.std.specs.Prelude.{ℕ, ◌+◌, List, Bool, Option, None, ◌&&◌, ◌==◌, if◌then◌else◌, nat_lt, slice_get, option_map, option_and_then}
use Rattle.jv_types.specs.Sequence.{Sequence}
use Rattle.world_model.specs.World.{World, Field}
use Rattle.world_model.specs.LookUp.{Found}
use Rattle.machine_model.specs.Value as model
use Rattle.machine_model.specs.Start.{first_value}
use Rattle.class_world.specs.World.{field_at}
use Rattle.class_world.specs.declared.class_info.FieldPlace.{FieldPlace}
use Rattle.class_members.specs.declared.field.FieldRow.{FieldRow}
use Rattle.jv_values.specs.declared.value.Value.{Value}
use Rattle.member_numbers.specs.Numbers.{number_of}

abbrev pub Place : Type 0
Place = FieldPlace

abbrev pub Word : Type 0
Word = Value

abbrev pub same_place : Place → Place → Bool
same_place one other = (one.class.0 == other.class.0) && (one.index == other.index)

-- the value with the number of that field, where the class has it
abbrev pub value_in : List ℕ → List Word → ℕ → ℕ → Option Word
value_in counts values class index =
    option_and_then (λ count. if nat_lt index count then slice_get values (number_of counts class index) else None)
    (slice_get counts class)

-- What contracts see of a `StaticFields`: the values by the numbers of their fields.
pub record Statics : Type 0 where
  -- how many fields each class declares
  pub counts : List ℕ
  pub values : List Word

abbrev pub value_at : Statics → Place → Option Word
value_at statics place = value_in statics.counts statics.values place.class.0 place.index

-- what the field at that place starts with, by the rows of its class
abbrev pub first_in : List (Sequence FieldRow) → Place → Option Word
first_in rows place = option_map (λ (r : FieldRow). r.first)
    (option_and_then (λ (row : Sequence FieldRow). slice_get row.items place.index) (slice_get rows place.class.0))

-- and by the definitions
abbrev pub first_at : World → Place → Option model.Value
first_at world place =
    option_map (λ (f : Found Field). first_value f.member f.member.constant) (field_at world place)
