-- Arrays of a heap and their elements, as the definitions have them.
use Rattle.std.specs.Prelude.{◌≡◌, ℕ, List, Bool, true, false, Some, IsTrue, length, slice_get}
use Rattle.jv_model.specs.Descriptors.{FieldType}
use Rattle.machine_model.specs.Value.{Value, id_in}
use Rattle.machine_model.specs.Heap.{array, Heap, contents_at}
use Rattle.heap_face.specs.declared.shape.Kind.{Kind}
use Rattle.heap_face.specs.declared.shape.Kind.TheVariants as kinds
use Rattle.heap_face.specs.declared.layout.Cell.{Cell}
use Rattle.heap_face.specs.Heap.{Stored, HeapState, object_at}
use Rattle.heap_objects.specs.Ids.{Ids, are_live, value_by, values_by}
use Rattle.heap_objects.specs.Words.{value_in}
use Rattle.heap_objects.specs.Objects.{Classes, type_of, cell_of_type, elements_in, is_reference_cell}

abbrev pub is_array : Kind → Bool
is_array kinds.Object = false
is_array kinds.Refs = true
is_array kinds.Ints = true
is_array kinds.Text = false

-- whether the elements of an array of that kind are references
abbrev pub has_references : Kind → Bool
has_references kinds.Refs = true
has_references other = false

-- At the address lies this array.
pub record IsArrayAt (heap : HeapState) (address : ℕ) (stored : Stored ℕ) : Type 0 where
  pub there : object_at heap.objects address ≡ Some stored
  pub array : is_array stored.shape.kind ≡ true

-- the type of its elements
abbrev pub element_type : Classes → Stored ℕ → FieldType
element_type classes stored = type_of classes stored.shape.class

-- what an element holds
abbrev pub element_cell : Classes → Stored ℕ → Cell
element_cell classes stored = cell_of_type (element_type classes stored)

-- its elements, with ids
abbrev pub elements_of : Classes → Ids → Stored ℕ → List Value
elements_of classes ids stored = values_by ids.id (elements_in (element_type classes stored) stored.contents)

-- The array of the definitions that an array of the machine is, and what each of its words is there.
pub record IsReadAs (classes : Classes) (ids : Ids) (objects : Heap) (address : ℕ) (stored : Stored ℕ) : Type 0 where
  pub live : IsTrue (ids.is_live address)
  pub object : contents_at objects (ids.id address) ≡ Some (array (element_type classes stored) (elements_of classes ids stored))
  pub count : length (elements_of classes ids stored) ≡ length stored.contents
  pub kind : is_reference_cell (element_cell classes stored) ≡ has_references stored.shape.kind
  -- the element at an index is the value of the word there, which names nothing or what is live
  pub element : (at word : ℕ) → slice_get stored.contents at ≡ Some word
      → (slice_get (elements_of classes ids stored) at ≡ Some (value_by ids.id (value_in (element_cell classes stored) word)))
      × IsTrue (are_live ids (id_in (value_in (element_cell classes stored) word)))
