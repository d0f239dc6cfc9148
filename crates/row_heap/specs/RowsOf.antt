-- The objects that rows and their words stand for.
use Rattle.std.specs.Prelude.{◌≡◌, ℕ, ◌+◌, ◌-◌, ◌*◌, ◌<◌, ◌≤◌, List, [], ◌∷◌, length, take, drop}
use Rattle.std.specs.List.{sum_by}
use Rattle.heap_face.specs.Heap.{Stored, header_words}
use Rattle.row_heap.specs.declared.rows.Row.{Row}
use Rattle.row_heap.specs.declared.rows.Rows.TheInside.{Inside}
use Rattle.row_heap.specs.Table.{Table}

-- how many words its contents have
abbrev pub count_of : Row → ℕ
count_of row = row.shape.words - header_words row.shape.kind

abbrev pub stored_as : Row → List ℕ → Stored ℕ
stored_as row contents =
    record { serial = row.serial; shape = row.shape; lock = row.lock; contents = contents }

abbrev pub objects_of : List Row → List ℕ → List (Stored ℕ)
objects_of [] words = []
objects_of (row ∷ rows) words =
    stored_as row (take (count_of row) words) ∷ objects_of rows (drop (count_of row) words)

abbrev pub table_of : Inside → Table
table_of it = record { objects = objects_of it.rows.items it.words.items; half = it.half; free = it.free }

-- the contents of the first object begin at this place, and those of each other one where those before it end
abbrev pub StartAt : ℕ → List Row → Type 0
StartAt start [] = Unit {0}
StartAt start (row ∷ rows) =
    (row.start ≡ start) × (header_words row.shape.kind ≤ row.shape.words) × StartAt (start + count_of row) rows

abbrev pub contents_words : List Row → ℕ
contents_words rows = sum_by count_of rows

abbrev pub all_words : List Row → ℕ
all_words rows = sum_by (λ (row : Row). row.shape.words) rows

pub record IsTable (it : Inside) : Type 0 where
  pub starts : StartAt 0 it.rows.items
  pub contents : length it.words.items ≡ contents_words it.rows.items
  pub used : it.used ≡ all_words it.rows.items
  pub within : it.used ≤ it.half
  -- An object has three words or more, so there is always a row for one that has room.
  pub rows : it.half < 3 * (length it.rows.items + it.rows.spare + 1)
  pub words : it.half ≤ length it.words.items + it.words.spare
