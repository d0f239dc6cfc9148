-- What contracts see of a heap: its objects, each with its serial, and where each lies.
use Rattle.std.specs.Prelude.{◌≡◌, ℕ, ◌+◌, ◌-◌, ◌^◌, ◌<◌, ◌≤◌, Bool, List, [], ◌∷◌, ◌++◌, Option, None, Some, ◌==◌, if◌then◌else◌, length, map, replicate, slice_set, option_map, unwrap_or}
use Rattle.std.specs.List.{All, IsDistinct, sum_by}
use Rattle.heap_face.specs.declared.address.Addr.{Addr}
use Rattle.heap_face.specs.declared.shape.Shape.{Shape}
use Rattle.heap_face.specs.declared.shape.Kind.{Kind}
use Rattle.heap_face.specs.declared.shape.Kind.TheVariants.{Object, Refs, Ints, Text}

-- how many words stand before the fields of an object, or the elements of an array or string
abbrev pub header_words : Kind → ℕ
header_words Object = 3
header_words Refs = 4
header_words Ints = 4
header_words Text = 4

pub record Stored (Word : Type 0) : Type 0 where
  -- the number that it keeps as long as it stays
  pub serial : ℕ
  pub shape : Shape
  pub lock : ℕ
  -- its fields in the order of the layout, its elements by index, or its units
  pub contents : List Word

-- an object, its contents word by word, and where it lies
pub record Placed : Type 0 where
  pub address : ℕ
  pub object : Stored ℕ

pub record HeapState : Type 0 where
  -- what the last collection left, in reach order, and then what was made since, in order
  pub objects : List Placed
  -- the most words that they may have together
  pub half : ℕ
  -- the serial of the next object
  pub free_serial : ℕ
  -- whether an update is being tried on a copy of the objects
  pub is_draft_open : Bool

-- the object that lies at an address
abbrev pub object_at : List Placed → ℕ → Option (Stored ℕ)
object_at [] address = None
object_at (placed ∷ others) address =
    if placed.address == address then Some placed.object else object_at others address

abbrev pub object_of : HeapState → Addr → Option (Stored ℕ)
object_of heap a = object_at heap.objects a.0

abbrev pub serial_of : HeapState → Addr → Option ℕ
serial_of heap a = option_map (λ (object : Stored ℕ). object.serial) (object_of heap a)

-- none where no object lies there
abbrev pub contents_of : HeapState → Addr → List ℕ
contents_of heap a = unwrap_or (option_map (λ (object : Stored ℕ). object.contents) (object_of heap a)) []

abbrev pub used_words : HeapState → ℕ
used_words heap = sum_by (λ (placed : Placed). placed.object.shape.words) heap.objects

-- ---- changes

-- an object of this shape as it is made
abbrev pub zero_object : ℕ → Shape → Stored ℕ
zero_object serial shape = record {
  serial = serial;
  shape = shape;
  lock = 0;
  contents = replicate (shape.words - header_words shape.kind) 0;
}

-- the heap with a new object at this address
abbrev pub with_new : Addr → Shape → HeapState → HeapState
with_new a shape heap = record heap {
  objects = heap.objects ++ record { address = a.0; object = zero_object heap.free_serial shape } ∷ [];
  free_serial = heap.free_serial + 1;
}

-- the objects, of which the one at an address is changed so
abbrev pub changed_at : ℕ → (Stored ℕ → Stored ℕ) → List Placed → List Placed
changed_at address change [] = []
changed_at address change (placed ∷ others) =
    if placed.address == address
    then record placed { object = change placed.object } ∷ others
    else placed ∷ changed_at address change others

abbrev pub with_lock : Addr → ℕ → HeapState → HeapState
with_lock a lock heap =
    record heap { objects = changed_at a.0 (λ (object : Stored ℕ). record object { lock = lock }) heap.objects }

abbrev pub with_word : Addr → ℕ → ℕ → HeapState → HeapState
with_word a at word heap = record heap {
  objects = changed_at a.0 (λ (object : Stored ℕ). record object { contents = slice_set object.contents at word })
      heap.objects;
}

-- ---- what holds of every heap

-- what holds of each object, where this is the free serial
pub record IsWellPlaced (free : ℕ) (placed : Placed) : Type 0 where
  -- a word that is 0 is null
  pub not_null : 0 < placed.address
  pub small : placed.address < 2 ^ 32
  pub serial : placed.object.serial < free
  pub words : length placed.object.contents + header_words placed.object.shape.kind ≡ placed.object.shape.words

pub record IsSound (heap : HeapState) : Type 0 where
  pub addresses : IsDistinct ◌==◌ (map (λ (placed : Placed). placed.address) heap.objects)
  pub serials : IsDistinct ◌==◌ (map (λ (placed : Placed). placed.object.serial) heap.objects)
  pub objects : All (IsWellPlaced heap.free_serial) heap.objects
  pub room : used_words heap ≤ heap.half
