-- What a search has found: places of objects in order, and for each place one more than where it stands there, or 0.
use Rattle.std.specs.Prelude.{◌≡◌, ℕ, ◌+◌, ◌-◌, ◌<◌, false, not, List, [], ◌∷◌, ◌++◌, Some, IsTrue, IfSome, ◌==◌, if◌then◌else◌, length, map, slice_get, slice_index, slice_set, option_map, unwrap_or}
use Rattle.std.specs.List.{IsDistinct, list_all, sum_by}
use Rattle.jv_types.specs.Sequence.{Sequence}
use Rattle.run_laws.specs.Reached.{has}
use Rattle.run_laws.specs.Worklist.{worked_off}
use Rattle.heap_face.specs.declared.layout.Layouts.{Layouts}
use Rattle.heap_face.specs.Heap.{Stored}
use Rattle.heap_face.specs.Collection.{Content, contents_from, refers_at, is_dangling, can_follow, read_by, by_serial, children}
use Rattle.row_heap.specs.Table.{Table, words_at, table_words}
use Rattle.row_heap.specs.Placing.{placed_from, state_of}

-- so many items it has, or has room for
abbrev pub capacity : Sequence ℕ → ℕ
capacity list = length list.items + list.spare

-- both lists once a place was visited
abbrev pub order_with : List ℕ → List ℕ → ℕ → List ℕ
order_with order forwards place = if slice_index forwards place == 0 then order ++ place ∷ [] else order

abbrev pub forwards_with : List ℕ → List ℕ → ℕ → List ℕ
forwards_with order forwards place =
    if slice_index forwards place == 0 then slice_set forwards place (length order + 1) else forwards

abbrev pub serial_at : List (Stored ℕ) → ℕ → ℕ
serial_at objects place = unwrap_or (option_map (λ (object : Stored ℕ). object.serial) (slice_get objects place)) 0

abbrev pub serials_of : List (Stored ℕ) → List ℕ → List ℕ
serials_of objects order = map (serial_at objects) order

-- the words of the objects that weren't found
abbrev pub unfound_words : List (Stored ℕ) → List ℕ → ℕ
unfound_words [] forwards = 0
unfound_words (object ∷ objects) [] = 0
unfound_words (object ∷ objects) (forward ∷ forwards) =
    (if forward == 0 then object.shape.words else 0) + unfound_words objects forwards

pub record IsFound (objects : List (Stored ℕ)) (order forwards : List ℕ) : Type 0 where
  pub each : length forwards ≡ length objects
  pub within : (k place : ℕ) → slice_get order k ≡ Some place → place < length objects
  -- what has no forward wasn't found, and what has one stands there
  pub unfound : (place : ℕ) → place < length objects → slice_index forwards place ≡ 0
      → has (serials_of objects order) (serial_at objects place) ≡ false
  pub found : (place : ℕ) → place < length objects → 0 < slice_index forwards place
      → slice_get order (slice_index forwards place - 1) ≡ Some place
  pub distinct : IsDistinct ◌==◌ (serials_of objects order)
  pub words : sum_by (words_at objects) order + unfound_words objects forwards ≡ table_words objects

-- the contents of an object, with serials for addresses
abbrev pub contents_in : Layouts → List (Stored ℕ) → Stored ℕ → List Content
contents_in layouts objects object =
    contents_from (placed_from 1 objects) (refers_at layouts object.shape) 0 object.contents

-- its references are null or live
abbrev pub CanVisit : Layouts → List (Stored ℕ) → Stored ℕ → Type 0
CanVisit layouts objects object =
    IsTrue (list_all (λ content. not (is_dangling content)) (contents_in layouts objects object))

-- the serials that are found where these wait, from the front on
abbrev pub found_by : Layouts → Table → List ℕ → List ℕ
found_by layouts table waiting = worked_off table.free (children (by_serial layouts (state_of table))) [] waiting

-- each object of these serials can be visited
abbrev pub CanFollow : Layouts → List (Stored ℕ) → List ℕ → Type 0
CanFollow layouts objects serials = (place : ℕ) → place < length objects
    → IsTrue (has serials (serial_at objects place)) → IfSome (slice_get objects place) (CanVisit layouts objects)

-- it has a cell for each field, and its references are null or live
abbrev pub Follows : Layouts → List (Stored ℕ) → Stored ℕ → Type 0
Follows layouts objects object = IsTrue (can_follow layouts (read_by layouts (placed_from 1 objects) object))

abbrev pub EachFollows : Layouts → List (Stored ℕ) → Type 0
EachFollows layouts objects =
    (place : ℕ) → place < length objects → IfSome (slice_get objects place) (Follows layouts objects)
