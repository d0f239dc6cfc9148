-- What references name. In the machine a reference is an address, which a collection may change. In the definitions it is
-- an id, and the id of an object is its serial. So a part of the machine is read with addresses in place of ids first,
-- and then with the ids that these stand for.
use Rattle.std.specs.Prelude.{◌≡◌, ℕ, List, Bool, true, Option, is_some, map, option_map, unwrap_or}
use Rattle.std.specs.List.{list_all}
use Rattle.machine_model.specs.Value.{Value, reference}
use Rattle.machine_model.specs.Heap.{Contents, instance, array, string, Object}
use Rattle.machine_model.specs.State.{Frame, Thread, Static, Interned}
use Rattle.heap_face.specs.Heap.{Stored, HeapState, object_at}

-- ---- addresses

-- What addresses mean: the id of the object at each, and at which ones an object lies. Elsewhere the id says nothing.
pub record Ids : Type 0 where
  pub id : ℕ → ℕ
  pub is_live : ℕ → Bool

abbrev pub serial_at : HeapState → ℕ → Option ℕ
serial_at heap address = option_map (λ (object : Stored ℕ). object.serial) (object_at heap.objects address)

-- each object has its serial for its id
unfoldable pub ids_of : HeapState → Ids
ids_of heap = record {
  id = λ address. unwrap_or (serial_at heap address) 0;
  is_live = λ address. is_some (object_at heap.objects address);
}

abbrev pub are_live : Ids → List ℕ → Bool
are_live ids addresses = list_all ids.is_live addresses

-- What the earlier ones say of a live address, the later ones say too.
pub record Extends (earlier later : Ids) : Type 0 where
  pub live : (address : ℕ) → earlier.is_live address ≡ true → later.is_live address ≡ true
  pub same : (address : ℕ) → earlier.is_live address ≡ true → later.id address ≡ earlier.id address

-- ---- ids for addresses

abbrev pub value_by : (ℕ → ℕ) → Value → Value
value_by id (reference address) = reference (id address)
value_by id other = other

abbrev pub values_by : (ℕ → ℕ) → List Value → List Value
values_by id values = map (value_by id) values

abbrev pub contents_by : (ℕ → ℕ) → Contents → Contents
contents_by id (instance class values) = instance class (values_by id values)
contents_by id (array type elements) = array type (values_by id elements)
contents_by id (string units) = string units

abbrev pub object_by : (ℕ → ℕ) → Object → Object
object_by id object = record object { contents = contents_by id object.contents }

abbrev pub frame_by : (ℕ → ℕ) → Frame → Frame
frame_by id frame = record frame {
  held = option_map id frame.held;
  locals = values_by id frame.locals;
  stack = values_by id frame.stack;
}

abbrev pub thread_by : (ℕ → ℕ) → Thread → Thread
thread_by id thread = record thread { frames = map (frame_by id) thread.frames }

abbrev pub static_by : (ℕ → ℕ) → Static → Static
static_by id field = record field { value = value_by id field.value }

abbrev pub interned_by : (ℕ → ℕ) → Interned → Interned
interned_by id row = record row { id = id row.id }
