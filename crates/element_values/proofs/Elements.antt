-- Elements of arrays are read and written by the words of a heap as in the definitions.
use Rattle.std.proofs.Common.{◌≡◌, ℕ, zero, suc, not, Bool, true, false, List, [], ◌∷◌, Option, Some, slice_get, option_map, is_some, refl, ap, sym, subst, ◌∙◌}
use Rattle.std.specs.Prelude.{IsTrue, unwrap_or, slice_set}
use Rattle.std.specs.List.{list_all}
use Rattle.std.proofs.lemmas.Bool.{and_from, and_parts}
use Rattle.std.proofs.lemmas.List.{length-map, length-set, map-set}
use Rattle.std.proofs.lemmas.List.Folds.{list_all-append}
use Rattle.std.proofs.lemmas.Option.{slice_get-map}
use Rattle.jv_model.specs.Descriptors.{FieldType}
use Rattle.machine_model.specs.Value.{Value, id_in}
use Rattle.machine_model.specs.Heap.{Contents, array, Object, Heap, values_of, contents_at, replace_at}
use Rattle.machine_model.specs.Reach.{ids_in}
use Rattle.jv_types.specs.declared.number.ClassNo.{ClassNo}
use Rattle.heap_face.specs.declared.shape.Kind.{Kind}
use Rattle.heap_face.specs.declared.shape.Kind.TheVariants as kinds
use Rattle.heap_face.specs.declared.layout.Cell.{Cell}
use Rattle.heap_face.specs.Heap.{Stored, HeapState, with_word}
use Rattle.heap_objects.specs.Ids.{Ids, ids_of, are_live, value_by, values_by, contents_by, object_by}
use Rattle.heap_objects.specs.Words.{value_in}
use Rattle.heap_objects.specs.Objects.{Classes, type_of, cell_of_type, elements_in, contents_by_kind, object_in, has_type, is_reference_cell, is_shaped, addresses_in, IsObject, IsHeap}
use Rattle.element_values.specs.Elements.{is_array, has_references, IsArrayAt, IsReadAs, element_type, element_cell, elements_of}
use Rattle.element_values.specs.Laws.{ElementsAreRead, ElementsAreWritten, IsWrittenAs}
use Rattle.element_values.proofs.Changed.{Keeps, ids_stay, heap_changed}

-- ---- values that are live

live_at : (live : ℕ → Bool) (values : List Value) (at : ℕ) (value : Value) → list_all live (ids_in values) ≡ true
    → slice_get values at ≡ Some value → list_all live (id_in value) ≡ true
live_at live [] at value all found = absurd cc
live_at live (first ∷ values) zero value all found =
    let same : first ≡ value = cc in
    subst (λ (v : Value). list_all live (id_in v) ≡ true) same
    (and_parts (list_all live (id_in first)) (list_all live (ids_in values))
    (sym (list_all-append live (id_in first) (ids_in values)) ∙ all)).0
live_at live (first ∷ values) (suc at) value all found =
    live_at live values at value
    (and_parts (list_all live (id_in first)) (list_all live (ids_in values))
    (sym (list_all-append live (id_in first) (ids_in values)) ∙ all)).1 found

live_set : (live : ℕ → Bool) (values : List Value) (at : ℕ) (value : Value) → list_all live (ids_in values) ≡ true
    → list_all live (id_in value) ≡ true → list_all live (ids_in (slice_set values at value)) ≡ true
live_set live [] at value all new = refl
live_set live (first ∷ values) zero value all new =
    list_all-append live (id_in value) (ids_in values)
    ∙ and_from (list_all live (id_in value)) (list_all live (ids_in values)) new
    (and_parts (list_all live (id_in first)) (list_all live (ids_in values))
    (sym (list_all-append live (id_in first) (ids_in values)) ∙ all)).1
live_set live (first ∷ values) (suc at) value all new =
    let parts = and_parts (list_all live (id_in first)) (list_all live (ids_in values))
    (sym (list_all-append live (id_in first) (ids_in values)) ∙ all) in
    list_all-append live (id_in first) (ids_in (slice_set values at value))
    ∙ and_from (list_all live (id_in first)) (list_all live (ids_in (slice_set values at value))) parts.0
    (live_set live values at value parts.1 new)

-- ---- arrays by their kind

-- the contents are those of an array
contents_are : (classes : Classes) (class : ClassNo) (words : List ℕ) (kind : Kind) → is_array kind ≡ true
    → contents_by_kind classes class words kind ≡ array (type_of classes class) (elements_in (type_of classes class) words)
contents_are classes class words kinds.Object is = absurd cc
contents_are classes class words kinds.Refs is = refl
contents_are classes class words kinds.Ints is = refl
contents_are classes class words kinds.Text is = absurd cc

not_not : (b : Bool) → not b ≡ true → b ≡ false
not_not true is = absurd cc
not_not false is = refl

references_are : (classes : Classes) (class : ClassNo) (words : List ℕ) (kind : Kind) → is_array kind ≡ true
    → is_shaped classes class words kind ≡ true → is_reference_cell (cell_of_type (type_of classes class)) ≡ has_references kind
references_are classes class words kinds.Object is shaped = absurd cc
references_are classes class words kinds.Refs is shaped =
    (and_parts (has_type classes class) (is_reference_cell (cell_of_type (type_of classes class))) shaped).1
references_are classes class words kinds.Ints is shaped =
    not_not (is_reference_cell (cell_of_type (type_of classes class)))
    (and_parts (has_type classes class) (not (is_reference_cell (cell_of_type (type_of classes class)))) shaped).1
references_are classes class words kinds.Text is shaped = absurd cc

-- what an array's shape asks doesn't depend on its words
shape_stays : (classes : Classes) (class : ClassNo) (words others : List ℕ) (kind : Kind) → is_array kind ≡ true
    → is_shaped classes class words kind ≡ true → is_shaped classes class others kind ≡ true
shape_stays classes class words others kinds.Object is shaped = absurd cc
shape_stays classes class words others kinds.Refs is shaped = shaped
shape_stays classes class words others kinds.Ints is shaped = shaped
shape_stays classes class words others kinds.Text is shaped = absurd cc

-- ---- an array

module _ (classes : Classes) (heap : HeapState) (objects : Heap) (address : ℕ) (stored : Stored ℕ)
    (is : IsHeap classes heap objects) (at_it : IsArrayAt heap address stored) where
  abbrev ids : Ids
  ids = ids_of heap

  abbrev type : FieldType
  type = element_type classes stored

  abbrev cell : Cell
  cell = element_cell classes stored

  own : IsObject classes ids objects stored
  own = is.each address stored at_it.there

  its_contents : (words : List ℕ) → contents_by_kind classes stored.shape.class words stored.shape.kind ≡ array type (elements_in type words)
  its_contents words = contents_are classes stored.shape.class words stored.shape.kind at_it.array

  pub its_id : ids.id address ≡ stored.serial
  unfolding ids_of
  its_id = ap (λ (found : Option (Stored ℕ)). unwrap_or (option_map (λ (o : Stored ℕ). o.serial) found) 0) at_it.there

  its_live : ids.is_live address ≡ true
  unfolding ids_of
  its_live = ap is_some at_it.there

  elements_live : list_all ids.is_live (ids_in (elements_in type stored.contents)) ≡ true
  elements_live = ap (λ (c : Contents). list_all ids.is_live (ids_in (values_of c))) (sym (its_contents stored.contents)) ∙ own.live

  word_is : (at word : ℕ) → slice_get stored.contents at ≡ Some word
      → slice_get (elements_in type stored.contents) at ≡ Some (value_in cell word)
  word_is at word found = slice_get-map (value_in cell) stored.contents at ∙ ap (option_map (value_in cell)) found

  pub reads : IsReadAs classes ids objects address stored
  reads = record {
    live = its_live;
    object = ap (contents_at objects) its_id ∙ ap (option_map (λ (o : Object). o.contents)) own.same
        ∙ ap (λ (c : Contents). Some (contents_by ids.id c)) (its_contents stored.contents);
    count = length-map (elements_in type stored.contents) (value_by ids.id) ∙ length-map stored.contents (value_in cell);
    kind = references_are classes stored.shape.class stored.contents stored.shape.kind at_it.array own.shaped;
    element = λ at word found. (
      slice_get-map (value_by ids.id) (elements_in type stored.contents) at ∙ ap (option_map (value_by ids.id)) (word_is at word found),
      live_at ids.is_live (elements_in type stored.contents) at (value_in cell word) elements_live (word_is at word found),
    );
  }

  -- ---- a word of it changes

  module _ (at word : ℕ) (live : IsTrue (are_live ids (id_in (value_in cell word)))) where
    abbrev change : Stored ℕ → Stored ℕ
    change object = record object { contents = slice_set object.contents at word }

    abbrev value : Value
    value = value_by ids.id (value_in cell word)

    abbrev new : Contents
    new = array type (slice_set (elements_of classes ids stored) at value)

    abbrev changes : Object → Object
    changes object = record object { contents = new }

    keeps : Keeps change
    keeps = record {
      serial = λ object. refl;
      shape = λ object. refl;
      size = λ object. length-set object.contents at word;
    }

    elements_set : elements_in type (slice_set stored.contents at word) ≡ slice_set (elements_in type stored.contents) at (value_in cell word)
    elements_set = map-set (value_in cell) stored.contents at word

    becomes : object_by ids.id (object_in classes (change stored)) ≡ changes (object_by ids.id (object_in classes stored))
    becomes = ap (λ (c : Contents). record (object_in classes stored) { contents = contents_by ids.id c })
        (its_contents (slice_set stored.contents at word))
        ∙ ap (λ (vs : List Value). record (object_in classes stored) { contents = array type (values_by ids.id vs) }) elements_set
        ∙ ap (λ (vs : List Value). record (object_in classes stored) { contents = array type vs })
        (map-set (value_by ids.id) (elements_in type stored.contents) at (value_in cell word))

    still_live : IsTrue (are_live ids (addresses_in classes (change stored)))
    still_live = ap (λ (c : Contents). list_all ids.is_live (ids_in (values_of c))) (its_contents (slice_set stored.contents at word))
        ∙ ap (λ (vs : List Value). list_all ids.is_live (ids_in vs)) elements_set
        ∙ live_set ids.is_live (elements_in type stored.contents) at (value_in cell word) elements_live live

    pub writes : IsWrittenAs classes heap objects (record { 0 = address }) stored at word
    writes = record {
      objects = subst (λ (n : ℕ). IsHeap classes (with_word (record { 0 = address }) at word heap) (replace_at changes objects n)) (sym its_id)
          (heap_changed classes heap objects address stored change changes keeps is at_it.there
          (shape_stays classes stored.shape.class stored.contents (slice_set stored.contents at word) stored.shape.kind at_it.array own.shaped)
          becomes still_live);
      ids = ids_stay address change keeps heap;
    }

-- ---- the laws

pub are_read : ElementsAreRead
are_read = reads

pub are_written : ElementsAreWritten
are_written classes heap objects a stored at word is at_it live = writes classes heap objects a.0 stored is at_it at word live
