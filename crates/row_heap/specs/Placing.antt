-- The heap that a table stands for: the object at a place lies at the address one above it.
use Rattle.std.specs.Prelude.{◌≡◌, ℕ, suc, ◌<◌, false, List, [], ◌∷◌, Some, ◌==◌, map, slice_get}
use Rattle.std.specs.List.{IsDistinct}
use Rattle.heap_face.specs.Heap.{Stored, Placed, HeapState}
use Rattle.row_heap.specs.Table.{Table}

abbrev pub placed_from : ℕ → List (Stored ℕ) → List Placed
placed_from address [] = []
placed_from address (object ∷ objects) =
    record { address = address; object = object } ∷ placed_from (suc address) objects

abbrev pub state_of : Table → HeapState
state_of table = record {
  objects = placed_from 1 table.objects;
  half = table.half;
  free_serial = table.free;
  is_draft_open = false;
}

-- each object has a serial of its own, which was given already
pub record HasSerials (table : Table) : Type 0 where
  pub distinct : IsDistinct ◌==◌ (map (λ (object : Stored ℕ). object.serial) table.objects)
  pub given : (place : ℕ) (object : Stored ℕ) → slice_get table.objects place ≡ Some object → object.serial < table.free
