-- The parts of a plain heap.
use Rattle.std.specs.Prelude.{◌≡◌, ◌+◌, ◌*◌, ◌<◌, ◌≤◌}
use Rattle.heap_face.specs.Heap.{HeapState}
use Rattle.row_heap.specs.declared.heap.RowHeap.TheInside.{Inside}
use Rattle.row_heap.specs.Table.{table_words}
use Rattle.row_heap.specs.Placing.{state_of, HasSerials}
use Rattle.row_heap.specs.Found.{capacity}

abbrev pub state_in : Inside → HeapState
state_in it = state_of it.present

pub record AreTables (it : Inside) : Type 0 where
  pub serials : HasSerials it.present
  pub room : table_words it.present.objects ≤ it.present.half
  pub half : it.other.half ≡ it.present.half
  pub order_room : it.present.half < 3 * (capacity it.search.order + 1)
  pub forwards_room : it.present.half < 3 * (capacity it.search.forwards + 1)
