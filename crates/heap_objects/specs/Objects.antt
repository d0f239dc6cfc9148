-- Which objects of the definitions the objects of a heap are.
use Rattle.std.specs.Prelude.{◌≡◌, ℕ, List, [], ◌∷◌, Bool, true, false, not, ◌&&◌, ◌==◌, nat_lt, Some, IsTrue, bytes_eq, get_or, length, map, slice_get, option_map, unwrap_or}
use Rattle.jv_model.specs.Descriptors.{FieldType, boolean_type}
use Rattle.world_model.specs.BootNames.{java_string}
use Rattle.machine_model.specs.Value.{Value, kind_of_type}
use Rattle.machine_model.specs.Heap.{Contents, instance, array, string, Object, Heap, values_of}
use Rattle.machine_model.specs.Reach.{ids_in}
use Rattle.jv_types.specs.declared.number.ClassNo.{ClassNo}
use Rattle.heap_face.specs.declared.shape.Kind.{Kind}
use Rattle.heap_face.specs.declared.shape.Kind.TheVariants as kinds
use Rattle.heap_face.specs.declared.layout.Cell.{Cell}
use Rattle.heap_face.specs.declared.layout.Cell.TheVariants.{Int, Long, Ref}
use Rattle.heap_face.specs.declared.layout.Layouts.{Layouts}
use Rattle.heap_face.specs.Heap.{Stored, HeapState, object_at, IsSound}
use Rattle.heap_face.specs.Collection.{cells_of}
use Rattle.vm_monitors.specs.Words.{monitor_of_word}
use Rattle.heap_objects.specs.Words.{value_in, cell_of_kind}
use Rattle.heap_objects.specs.Ids.{Ids, ids_of, are_live, object_by}

-- What the numbers in a heap mean.
pub record Classes : Type 0 where
  -- the name of each class
  pub name : ClassNo → List ℕ
  -- what the fields of its objects hold
  pub layouts : Layouts
  -- The types of the elements of arrays. An array has the number of its elements' type in this list, in place of a class.
  pub types : List FieldType

-- ---- values

abbrev pub values_in : List Cell → List ℕ → List Value
values_in [] words = []
values_in (cell ∷ cells) [] = []
values_in (cell ∷ cells) (word ∷ words) = value_in cell word ∷ values_in cells words

-- what an element of that type holds
abbrev pub cell_of_type : FieldType → Cell
cell_of_type type = cell_of_kind (kind_of_type type)

abbrev pub elements_in : FieldType → List ℕ → List Value
elements_in type words = map (value_in (cell_of_type type)) words

-- ---- objects

abbrev pub fields_of : Classes → ClassNo → List Cell
fields_of classes class = unwrap_or (cells_of classes.layouts class) []

abbrev pub type_of : Classes → ClassNo → FieldType
type_of classes class = get_or classes.types class.0 boolean_type

abbrev pub contents_by_kind : Classes → ClassNo → List ℕ → Kind → Contents
contents_by_kind classes class words kinds.Object = instance (classes.name class) (values_in (fields_of classes class) words)
contents_by_kind classes class words kinds.Refs = array (type_of classes class) (elements_in (type_of classes class) words)
contents_by_kind classes class words kinds.Ints = array (type_of classes class) (elements_in (type_of classes class) words)
contents_by_kind classes class words kinds.Text = string words

-- the object with addresses in place of ids
abbrev pub object_in : Classes → Stored ℕ → Object
object_in classes stored = record {
  contents = contents_by_kind classes stored.shape.class stored.contents stored.shape.kind;
  monitor = monitor_of_word stored.lock;
}

abbrev pub is_reference_cell : Cell → Bool
is_reference_cell Int = false
is_reference_cell Long = false
is_reference_cell Ref = true

abbrev pub has_type : Classes → ClassNo → Bool
has_type classes class = nat_lt class.0 (length classes.types)

-- Its class or the type of its elements is there, and goes with its kind. It has a word for each field of its class.
abbrev pub is_shaped : Classes → ClassNo → List ℕ → Kind → Bool
is_shaped classes class words kinds.Object =
    unwrap_or (option_map (λ cells. length cells == length words) (cells_of classes.layouts class)) false
is_shaped classes class words kinds.Refs =
    has_type classes class && is_reference_cell (cell_of_type (type_of classes class))
is_shaped classes class words kinds.Ints =
    has_type classes class && not (is_reference_cell (cell_of_type (type_of classes class)))
is_shaped classes class words kinds.Text = bytes_eq (classes.name class) java_string

-- the addresses that it names
abbrev pub addresses_in : Classes → Stored ℕ → List ℕ
addresses_in classes stored = ids_in (values_of (object_in classes stored).contents)

-- ---- the heap

-- The object of its serial is this one, and its references are null or live.
pub record IsObject (classes : Classes) (ids : Ids) (objects : Heap) (stored : Stored ℕ) : Type 0 where
  pub shaped : IsTrue (is_shaped classes stored.shape.class stored.contents stored.shape.kind)
  pub same : slice_get objects stored.serial ≡ Some (object_by ids.id (object_in classes stored))
  pub live : IsTrue (are_live ids (addresses_in classes stored))

-- The objects that a heap holds are those of their serials. The others were out of reach of it when it was collected.
pub record IsHeap (classes : Classes) (heap : HeapState) (objects : Heap) : Type 0 where
  pub sound : IsSound heap
  -- the next object gets the next id
  pub free : heap.free_serial ≡ length objects
  pub each : (address : ℕ) (stored : Stored ℕ) → object_at heap.objects address ≡ Some stored
      → IsObject classes (ids_of heap) objects stored
