-- What contracts see of `Rows`: objects by their place.
use Rattle.std.specs.Prelude.{◌≡◌, ℕ, ◌+◌, length, zero, suc, List, [], ◌∷◌, slice_get, slice_set, option_map, unwrap_or, Some}
use Rattle.std.specs.List.{sum_by}
use Rattle.heap_face.specs.Heap.{Stored, header_words}

pub record Table : Type 0 where
  pub objects : List (Stored ℕ)
  -- the most words that they may have together
  pub half : ℕ
  -- the serial of the next one
  pub free : ℕ

abbrev pub table_words : List (Stored ℕ) → ℕ
table_words objects = sum_by (λ (object : Stored ℕ). object.shape.words) objects

-- the words of the object at a place
abbrev pub words_at : List (Stored ℕ) → ℕ → ℕ
words_at objects place = unwrap_or (option_map (λ (object : Stored ℕ). object.shape.words) (slice_get objects place)) 0

-- the objects, of which the one at a place is changed so
abbrev pub changed_row : (Stored ℕ → Stored ℕ) → List (Stored ℕ) → ℕ → List (Stored ℕ)
changed_row change [] place = []
changed_row change (object ∷ objects) zero = change object ∷ objects
changed_row change (object ∷ objects) (suc place) = object ∷ changed_row change objects place

abbrev pub with_lock : ℕ → Stored ℕ → Stored ℕ
with_lock lock object = record object { lock = lock }

abbrev pub with_word : ℕ → ℕ → Stored ℕ → Stored ℕ
with_word at word object = record object { contents = slice_set object.contents at word }

-- its contents fill the words of its shape
abbrev pub IsWhole : Stored ℕ → Type 0
IsWhole object = length object.contents + header_words object.shape.kind ≡ object.shape.words

abbrev pub AllWhole : List (Stored ℕ) → Type 0
AllWhole objects = (place : ℕ) (object : Stored ℕ) → slice_get objects place ≡ Some object → IsWhole object
