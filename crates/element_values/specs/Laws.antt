-- What reading and writing elements gives.
use Rattle.std.specs.Prelude.{◌≡◌, ℕ, IsTrue, slice_set}
use Rattle.machine_model.specs.Value.{id_in}
use Rattle.machine_model.specs.Heap.{array, Heap, with_contents}
use Rattle.heap_face.specs.declared.address.Addr.{Addr}
use Rattle.heap_face.specs.Heap.{Stored, HeapState, with_word}
use Rattle.heap_objects.specs.Ids.{ids_of, are_live, value_by}
use Rattle.heap_objects.specs.Words.{value_in}
use Rattle.heap_objects.specs.Objects.{Classes, IsHeap}
use Rattle.element_values.specs.Elements.{IsArrayAt, IsReadAs, element_type, element_cell, elements_of}

-- An array of the heap is one of the definitions.
abbrev pub ElementsAreRead : Type 0
ElementsAreRead = (classes : Classes) (heap : HeapState) (objects : Heap) (address : ℕ) (stored : Stored ℕ)
    → IsHeap classes heap objects → IsArrayAt heap address stored
    → IsReadAs classes (ids_of heap) objects address stored

-- the objects with the value of a word in place of the element of an array at an index
abbrev pub with_element : Classes → HeapState → Addr → Stored ℕ → ℕ → ℕ → Heap → Heap
with_element classes heap a stored at word objects =
    with_contents ((ids_of heap).id a.0)
    (array (element_type classes stored)
    (slice_set (elements_of classes (ids_of heap) stored) at
    (value_by (ids_of heap).id (value_in (element_cell classes stored) word)))) objects

-- A heap with another word in an array is that of the objects with that element, and addresses name what they named.
pub record IsWrittenAs (classes : Classes) (heap : HeapState) (before : Heap) (a : Addr) (stored : Stored ℕ) (at word : ℕ) : Type 0 where
  pub objects : IsHeap classes (with_word a at word heap) (with_element classes heap a stored at word before)
  pub ids : ids_of (with_word a at word heap) ≡ ids_of heap

abbrev pub ElementsAreWritten : Type 0
ElementsAreWritten = (classes : Classes) (heap : HeapState) (objects : Heap) (a : Addr) (stored : Stored ℕ) (at word : ℕ)
    → IsHeap classes heap objects → IsArrayAt heap a.0 stored
    → IsTrue (are_live (ids_of heap) (id_in (value_in (element_cell classes stored) word)))
    → IsWrittenAs classes heap objects a stored at word
