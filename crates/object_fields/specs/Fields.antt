-- What is read from a field of an object, and what is left where one is written.
use Rattle.std.specs.Prelude.{◌≡◌, ℕ, ◌<◌, List, Option, Some, IsTrue, length, slice_get, slice_set, option_and_then}
use Rattle.machine_model.specs.Value.{Value, id_in}
use Rattle.machine_model.specs.Heap.{Heap, instance, contents_at, with_contents}
use Rattle.heap_face.specs.declared.address.Addr.{Addr}
use Rattle.heap_face.specs.declared.shape.Kind.TheVariants as kinds
use Rattle.heap_face.specs.declared.layout.Cell.{Cell}
use Rattle.heap_face.specs.declared.layout.Layouts.{Layouts}
use Rattle.heap_face.specs.Heap.{Stored, HeapState, object_of}
use Rattle.heap_face.specs.Collection.{cells_of}
use Rattle.heap_objects.specs.Ids.{ids_of, are_live, value_by}
use Rattle.heap_objects.specs.Objects.{Classes, IsHeap}

-- At an address lies an object that is no array and no string, and it has a field at that place.
pub record HasField (layouts : Layouts) (heap : HeapState) (object : Addr) (place : ℕ) : Type 0 where
  pub stored : Stored ℕ
  pub there : object_of heap object ≡ Some stored
  pub kind : stored.shape.kind ≡ kinds.Object
  pub cells : List Cell
  pub laid : cells_of layouts stored.shape.class ≡ Some cells
  pub in_cells : place < length cells
  pub in_words : place < length stored.contents

-- what the field holds
abbrev pub cell_of_field : Layouts → HeapState → Addr → ℕ → Option Cell
cell_of_field layouts heap object place = option_and_then (λ (stored : Stored ℕ).
    option_and_then (λ cells. slice_get cells place) (cells_of layouts stored.shape.class)) (object_of heap object)

-- ---- in the definitions

-- The object of that id is no array and no string, and this value stands at that place among those of its fields.
pub record HasValue (objects : Heap) (id place : ℕ) (value : Value) : Type 0 where
  pub class : List ℕ
  pub values : List Value
  pub there : contents_at objects id ≡ Some (instance class values)
  pub at : slice_get values place ≡ Some value

-- Whichever objects of the definitions the heap has, the object at the address has that value in its field at the place. It
-- names nothing, or what is live. The value has an address in place of an id.
abbrev pub IsRead : Layouts → HeapState → Addr → ℕ → Value → Type 0
IsRead layouts heap object place value = (classes : Classes) (objects : Heap)
    → classes.layouts ≡ layouts → IsHeap classes heap objects
    → HasValue objects ((ids_of heap).id object.0) place (value_by (ids_of heap).id value)
    × IsTrue (are_live (ids_of heap) (id_in value))

-- Whichever objects of the definitions the heap had, it has these now, but for that value in the field at the place of the
-- object at the address. The value has an address in place of an id, and names nothing or what is live.
abbrev pub IsWritten : Layouts → HeapState → HeapState → Addr → ℕ → Value → Type 0
IsWritten layouts old new object place value = (classes : Classes) (objects : Heap) (class : List ℕ) (values : List Value)
    → classes.layouts ≡ layouts → IsHeap classes old objects → IsTrue (are_live (ids_of old) (id_in value))
    → contents_at objects ((ids_of old).id object.0) ≡ Some (instance class values)
    → IsHeap classes new (with_contents ((ids_of old).id object.0)
    (instance class (slice_set values place (value_by (ids_of old).id value))) objects)
