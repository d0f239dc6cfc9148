-- The fields of objects are read and written by place as those of the objects of the definitions are.
use Rattle.std.proofs.Common.{◌≡◌, ℕ, true, List, [], Option, Some, slice_get, option_map, option_and_then, refl, ap, sym, subst, ◌∙◌}
use Rattle.std.specs.Prelude.{slice_set, unwrap_or}
use Rattle.std.specs.List.{list_all}
use Rattle.std.proofs.Math.ListN.{length-set}
use Rattle.std.proofs.lemmas.Option.{slice_get-map}
use Rattle.machine_model.specs.Value.{Value, id_in}
use Rattle.machine_model.specs.Heap.{Contents, instance, Object, Heap, contents_at, values_of, with_contents, replace_at}
use Rattle.machine_model.specs.Reach.{ids_in}
use Rattle.vm_monitors.specs.Words.{monitor_of_word}
use Rattle.heap_face.specs.declared.address.Addr.{Addr}
use Rattle.heap_face.specs.declared.layout.Cell.{Cell}
use Rattle.heap_face.specs.declared.layout.Layouts.{Layouts}
use Rattle.heap_face.specs.Heap.{Stored, HeapState, object_at, contents_of, with_word}
use Rattle.heap_face.specs.Collection.{cells_of}
use Rattle.heap_objects.specs.Words.{value_in}
use Rattle.heap_objects.specs.Ids.{Ids, ids_of, value_by, values_by, contents_by}
use Rattle.heap_objects.specs.Objects.{Classes, values_in, contents_by_kind, IsObject, IsHeap}
use Rattle.object_fields.specs.Fields.{HasField, IsRead, IsWritten, cell_of_field}
use Rattle.object_fields.proofs.Values.{map-slice_set, value_there, value_replaced, live_there, live_replaced}
use Rattle.object_fields.proofs.Changing.{Keeps, ids_same, objects_changed}

-- the id of an address is the serial of its object
pub id_is : (heap : HeapState) (address : ℕ) (stored : Stored ℕ) → object_at heap.objects address ≡ Some stored
    → (ids_of heap).id address ≡ stored.serial
unfolding ids_of
id_is heap address stored there = ap (λ (o : Option (Stored ℕ)). unwrap_or (option_map (λ (s : Stored ℕ). s.serial) o) 0) there

-- a write of one word
abbrev pub rewrite : ℕ → ℕ → Stored ℕ → Stored ℕ
rewrite place word stored = record stored { contents = slice_set stored.contents place word }

rewrite_keeps : (place word : ℕ) → Keeps (rewrite place word)
rewrite_keeps place word = record {
  serial = λ o. refl;
  shape = λ o. refl;
  long = λ o. length-set o.contents place word;
}

-- addresses name what they named
pub ids_stay : (heap : HeapState) (object : Addr) (place word : ℕ) → ids_of (with_word object place word heap) ≡ ids_of heap
ids_stay heap object place word = ids_same (rewrite place word) (rewrite_keeps place word) heap object.0

module _ (layouts : Layouts) (heap : HeapState) (object : Addr) (place : ℕ) (field : HasField layouts heap object place)
    (cell : Cell) (cell_there : cell_of_field layouts heap object place ≡ Some cell) where
  abbrev stored : Stored ℕ
  stored = field.stored

  own_cell : slice_get field.cells place ≡ Some cell
  own_cell =
      sym (ap (option_and_then (λ (cells : List Cell). slice_get cells place)) field.laid)
      ∙ sym (ap (option_and_then (λ (o : Stored ℕ). option_and_then (λ cells. slice_get cells place) (cells_of layouts o.shape.class))) field.there)
      ∙ cell_there

  module _ (classes : Classes) (objects : Heap) (same : classes.layouts ≡ layouts) (is : IsHeap classes heap objects) where
    abbrev ids : Ids
    ids = ids_of heap

    abbrev class : List ℕ
    class = classes.name stored.shape.class

    -- the contents of the object with these words
    instance_is : (words : List ℕ)
        → contents_by_kind classes stored.shape.class words stored.shape.kind ≡ instance class (values_in field.cells words)
    instance_is words =
        ap (contents_by_kind classes stored.shape.class words) field.kind
        ∙ ap (λ (o : Option (List Cell)). instance class (values_in (unwrap_or o []) words))
        (ap (λ (l : Layouts). cells_of l stored.shape.class) same ∙ field.laid)

    is_object : IsObject classes ids objects stored
    is_object = is.each object.0 stored field.there

    -- the object of the definitions
    pub object_there : contents_at objects (ids.id object.0) ≡ Some (instance class (values_by ids.id (values_in field.cells stored.contents)))
    object_there =
        ap (contents_at objects) (id_is heap object.0 stored field.there)
        ∙ ap (option_map (λ (o : Object). o.contents)) is_object.same
        ∙ ap (λ (c : Contents). Some (contents_by ids.id c)) (instance_is stored.contents)

    live_values : list_all ids.is_live (ids_in (values_in field.cells stored.contents)) ≡ true
    live_values = ap (λ (c : Contents). list_all ids.is_live (ids_in (values_of c))) (sym (instance_is stored.contents)) ∙ is_object.live

    module _ (word : ℕ) (value : Value) (value_is : value_in cell word ≡ value) where
      -- what is left of the object where the word is written
      made : (name : List ℕ) (values : List Value) → contents_at objects (ids.id object.0) ≡ Some (instance name values)
          → instance name (slice_set values place (value_by ids.id value))
          ≡ contents_by ids.id (contents_by_kind classes stored.shape.class (slice_set stored.contents place word) stored.shape.kind)
      made name values at =
          let both : Some (instance name values) ≡ Some (instance class (values_by ids.id (values_in field.cells stored.contents))) = sym at ∙ object_there in
          let name_is : name ≡ class = cc in
          let values_are : values ≡ values_by ids.id (values_in field.cells stored.contents) = cc in
          (λ i. instance (name_is i) (slice_set (values_are i) place (value_by ids.id value)))
          ∙ ap (λ (v : Value). instance class (slice_set (values_by ids.id (values_in field.cells stored.contents)) place (value_by ids.id v))) (sym value_is)
          ∙ ap (instance class) (sym (map-slice_set (value_by ids.id) (values_in field.cells stored.contents) place (value_in cell word)))
          ∙ ap (λ (vs : List Value). instance class (values_by ids.id vs)) (sym (value_replaced field.cells stored.contents place cell word own_cell))
          ∙ ap (contents_by ids.id) (sym (instance_is (slice_set stored.contents place word)))

      live_after : list_all ids.is_live (id_in value) ≡ true
          → list_all ids.is_live (ids_in (values_of (contents_by_kind classes stored.shape.class (slice_set stored.contents place word) stored.shape.kind))) ≡ true
      live_after live =
          ap (λ (c : Contents). list_all ids.is_live (ids_in (values_of c))) (instance_is (slice_set stored.contents place word))
          ∙ ap (λ (vs : List Value). list_all ids.is_live (ids_in vs)) (value_replaced field.cells stored.contents place cell word own_cell)
          ∙ live_replaced ids.is_live (values_in field.cells stored.contents) place (value_in cell word) live_values
          (ap (λ (v : Value). list_all ids.is_live (id_in v)) value_is ∙ live)

      pub heap_written : (name : List ℕ) (values : List Value) → contents_at objects (ids.id object.0) ≡ Some (instance name values)
          → list_all ids.is_live (id_in value) ≡ true
          → IsHeap classes (with_word object place word heap)
          (with_contents (ids.id object.0) (instance name (slice_set values place (value_by ids.id value))) objects)
      heap_written name values at live =
          subst (λ n. IsHeap classes (with_word object place word heap) (replace_at alter objects n)) (sym (id_is heap object.0 stored field.there))
          (objects_changed (rewrite place word) (rewrite_keeps place word) classes heap objects is object.0 stored field.there alter
          (ap (λ (c : Contents). let o : Object = record { contents = c; monitor = monitor_of_word stored.lock } in o) (made name values at))
          (live_after live))
        where
          alter : Object → Object
          alter o = record o { contents = instance name (slice_set values place (value_by ids.id value)) }

  pub is_read : (word : ℕ) → slice_get (contents_of heap object) place ≡ Some word → IsRead layouts heap object place (value_in cell word)
  is_read word word_there classes objects same is = (
    record {
      class = classes.name stored.shape.class;
      values = values_by (ids_of heap).id (values_in field.cells stored.contents);
      there = object_there classes objects same is;
      at = slice_get-map (value_by (ids_of heap).id) (values_in field.cells stored.contents) place
          ∙ ap (option_map (value_by (ids_of heap).id)) value_at;
    },
    live_there (ids_of heap).is_live (values_in field.cells stored.contents) place (value_in cell word) value_at
        (live_values classes objects same is),
  )
    where
      value_at : slice_get (values_in field.cells stored.contents) place ≡ Some (value_in cell word)
      value_at = value_there field.cells stored.contents place cell word own_cell
          (ap (λ (o : Option (Stored ℕ)). slice_get (unwrap_or (option_map (λ (s : Stored ℕ). s.contents) o) []) place) (sym field.there)
          ∙ word_there)

  pub is_written : (word : ℕ) (value : Value) → value_in cell word ≡ value
      → IsWritten layouts heap (with_word object place word heap) object place value
  is_written word value value_is classes objects name values same is live at =
      heap_written classes objects same is word value value_is name values at live
