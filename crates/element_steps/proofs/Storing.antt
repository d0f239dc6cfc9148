-- What array stores come to.
use Rattle.std.proofs.Common.{◌≡◌, ◌≢◌, ℕ, ℤ, Bool, true, false, List, [], ◌∷◌, ◌++◌, Option, Some, None, option_map, is_some, refl, ap, sym, subst, ◌∙◌, inl, inr}
use Rattle.std.specs.Prelude.{◌⊎◌, if◌then◌else◌, slice_set, unsigned_abs, codes}
use Rattle.std.specs.List.{list_all}
use Rattle.jv_model.specs.Descriptors.{FieldType, char_type, int_type, long_type, short_type}
use Rattle.jv_model.specs.Instruction.{ElementKind, ints, longs, references, bytes, chars, shorts, ValueKind, of_int, of_long, of_reference, array_store}
use Rattle.machine_model.specs.Value as model
use Rattle.machine_model.specs.Value.{onto, taken_of, is_of_kind, id_in}
use Rattle.machine_model.specs.Heap.{Contents, array, contents_at, with_contents}
use Rattle.machine_model.specs.State.{State}
use Rattle.machine_model.specs.Reach.{ids_in}
use Rattle.machine_model.specs.LocalStep.{local_step_of}
use Rattle.machine_model.specs.Deed.{Deed, wrong, throws, Running, operands, goes_on, ◌>>=◌}
use Rattle.machine_model.specs.ArraySteps.{kind_of_elements, elements_of, narrowed, fits_element, out_of_bounds, with_elements, stores_element, stores_at}
use Rattle.machine_model.specs.SharedStep.{deed_of, shared_step}
use Rattle.jv_values.specs.declared.value.Value.{Value}
use Rattle.jv_values.specs.declared.value.Value.TheVariants.{Int, Long, Null, Ref}
use Rattle.jv_values.specs.Values.{value_of, values_of}
use Rattle.thread_frames.specs.Frames.{words_of}
use Rattle.frame_stacks.specs.Threads.{Threads, change_thread}
use Rattle.heap_face.specs.declared.layout.Cell.{Cell}
use Rattle.heap_face.specs.Heap.{Stored, with_word}
use Rattle.heap_objects.specs.Ids.{Ids, ids_of, value_by}
use Rattle.heap_objects.specs.Words.{value_in, cell_of_kind, IsOfCell}
use Rattle.heap_objects.specs.Objects.{Classes, cell_of_type, IsHeap}
use Rattle.element_values.specs.Elements as arrays
use Rattle.element_values.specs.Elements.{IsArrayAt, element_cell, element_type}
use Rattle.element_values.specs.Laws.{IsWrittenAs, with_element}
use Rattle.element_values.proofs.Elements.{are_written}
use Rattle.machine_threads.specs.Laws.{goes_to}
use Rattle.frame_operands.specs.Operands.{HasThree}
use Rattle.machine_parts.specs.Parts.{Machine, StandsFor, classes_of}
use Rattle.machine_parts.specs.Steps.{IsAt, IsDone}
use Rattle.machine_parts.proofs.Operands.{tops}
use Rattle.machine_parts.proofs.Steps.{some_by, running, deed_is, finish_is_done}
use Rattle.machine_throws.specs.declared.outcome.Throwable.TheVariants as throwables
use Rattle.machine_throws.specs.Names.{name_of}
use Rattle.machine_throws.proofs.Found.{found_one, found_next, has_three}
use Rattle.machine_throws.proofs.Replacing.{operands_are_three, three_are_live, with_heap}
use Rattle.element_steps.specs.Arrays.{HasArray, word_at, is_whole, narrowed_to}
use Rattle.element_steps.proofs.Arrays.{array_lies}
use Rattle.element_steps.proofs.Finding.{IsIndexed, element_of_word, one_live, array_has, reads_array}

-- ---- values that are stored

-- it goes into the element
pub goes_in : (kind : ElementKind) (value : Value) → is_whole kind ≡ true → is_of_kind (kind_of_elements kind) (value_of value) ≡ true
    → IsOfCell (cell_of_kind (kind_of_elements kind)) (value_of (narrowed_to kind value))
goes_in ints (Int n) whole fits = tt
goes_in longs (Long n) whole fits = tt
goes_in chars (Int n) whole fits = tt
goes_in shorts (Int n) whole fits = tt
goes_in references value whole fits = absurd cc
goes_in bytes value whole fits = absurd cc
goes_in kind value whole fits = absurd cc

-- it names nothing
names_nothing : (kind : ElementKind) (value : Value) → is_whole kind ≡ true → is_of_kind (kind_of_elements kind) (value_of value) ≡ true
    → id_in (value_of (narrowed_to kind value)) ≡ []
names_nothing ints (Int n) whole fits = refl
names_nothing longs (Long n) whole fits = refl
names_nothing chars (Int n) whole fits = refl
names_nothing shorts (Int n) whole fits = refl
names_nothing references value whole fits = absurd cc
names_nothing bytes value whole fits = absurd cc
names_nothing kind value whole fits = absurd cc

-- it is the same with ids
stays : (kind : ElementKind) (value : Value) (id : ℕ → ℕ) → is_whole kind ≡ true → is_of_kind (kind_of_elements kind) (value_of value) ≡ true
    → (value_by id (value_of value) ≡ value_of value)
    × (value_by id (value_of (narrowed_to kind value)) ≡ value_of (narrowed_to kind value))
stays ints (Int n) id whole fits = (refl, refl)
stays longs (Long n) id whole fits = (refl, refl)
stays chars (Int n) id whole fits = (refl, refl)
stays shorts (Int n) id whole fits = (refl, refl)
stays references value id whole fits = absurd cc
stays bytes value id whole fits = absurd cc
stays kind value id whole fits = absurd cc

-- The array isn't of that kind, or this is stored.
narrows : (kind : ElementKind) (type : FieldType) (value : Value) → is_whole kind ≡ true
    → is_of_kind (kind_of_elements kind) (value_of value) ≡ true
    → (narrowed kind type (value_of value) ≡ None)
    ⊎ ((narrowed kind type (value_of value) ≡ Some (value_of (narrowed_to kind value)))
    × (cell_of_type type ≡ cell_of_kind (kind_of_elements kind)))
narrows ints int_type (Int n) whole fits = inr (refl, refl)
narrows longs long_type (Long n) whole fits = inr (refl, refl)
narrows chars char_type (Int n) whole fits = inr (refl, refl)
narrows shorts short_type (Int n) whole fits = inr (refl, refl)
narrows ints type (Int n) whole fits = inl refl
narrows longs type (Long n) whole fits = inl refl
narrows chars type (Int n) whole fits = inl refl
narrows shorts type (Int n) whole fits = inl refl
narrows references type value whole fits = absurd cc
narrows bytes type value whole fits = absurd cc
narrows kind type value whole fits = absurd cc

fits_there : (run : Running) (kind : ElementKind) (type : FieldType) (value : Value) → is_whole kind ≡ true
    → is_of_kind (kind_of_elements kind) (value_of value) ≡ true → fits_element run type (value_of value) ≡ Some true
fits_there run ints type (Int n) whole fits = refl
fits_there run longs type (Long n) whole fits = refl
fits_there run chars type (Int n) whole fits = refl
fits_there run shorts type (Int n) whole fits = refl
fits_there run references type value whole fits = absurd cc
fits_there run bytes type value whole fits = absurd cc
fits_there run kind type value whole fits = absurd cc

-- ---- operands

taken_onto : (kind : ValueKind) (value : model.Value) (rest : List model.Value) → is_of_kind kind value ≡ true
    → taken_of kind (onto value rest) ≡ Some (record { value = value; rest = rest })
taken_onto of_int (model.int n) rest fits = refl
taken_onto of_long (model.long n) rest fits = refl
taken_onto of_reference model.null rest fits = refl
taken_onto of_reference (model.reference id) rest fits = refl
taken_onto kind value rest fits = absurd cc

pub below_value : (run : Running) (kind : ElementKind) (value : model.Value) (operands : List model.Value)
    → stores_at run kind value operands ≢ wrong → IsIndexed operands
below_value run kind value (model.int index ∷ model.null ∷ rest) right =
    record { index = index; object = model.null; rest = rest; is = refl; takes = refl }
below_value run kind value (model.int index ∷ model.reference id ∷ rest) right =
    record { index = index; object = model.reference id; rest = rest; is = refl; takes = refl }
below_value run kind value operands right = absurd (right refl)

elements_there : (run : Running) (kind : ElementKind) (id : ℕ) (contents : Contents) (index : ℤ) (value : model.Value) (rest : List model.Value)
    → stores_element run kind id contents index value rest ≢ wrong → (elements : List model.Value) × (elements_of contents ≡ Some elements)
elements_there run kind id (array type elements) index value rest right = (elements, refl)
elements_there run kind id contents index value rest right = absurd (right refl)

-- the same operands, by another word for a kind
abbrev pub by_kind : {stacks : Threads} {t : ℕ} {lower middle upper : ValueKind} (other : ValueKind) → other ≡ upper
    → HasThree stacks t lower middle upper → HasThree stacks t lower middle other
by_kind other same has = record {
  frame = has.frame;
  older = has.older;
  newest = has.newest;
  third = has.third;
  above = has.above;
  top = record { is = has.top.is; fits = ap (λ kind. is_of_kind kind (value_of has.third)) same ∙ has.top.fits };
  second = has.second;
  between = has.between;
  next = has.next;
  first = has.first;
  below = has.below;
  last = has.last;
}

module _ (machine : Machine) (t next : ℕ) (kind : ElementKind) (at : IsAt machine t next (array_store kind))
    (types : List FieldType) (state : State) (stands : StandsFor types machine state) where
  abbrev pub run : Running
  run = running machine t next (array_store kind) at types state stands

  abbrev pub own : Ids
  own = ids_of machine.heap

  abbrev classes : Classes
  classes = classes_of machine.world types machine.versions

  abbrev pub on_taken : model.Taken → Deed
  on_taken taken = stores_at run kind taken.value taken.rest

  pub store_deed : deed_of state t ≡ (taken_of (kind_of_elements kind) (operands run) >>= on_taken)
  unfolding shared_step local_step_of
  store_deed = deed_is machine t next (array_store kind) at types state stands (array_store kind) refl refl

  -- a value, an index and what names an array are there
  abbrev pub has_stored : deed_of state t ≢ wrong → HasThree machine.stacks t of_reference of_int (kind_of_elements kind)
  has_stored right =
      let taken = some_by (taken_of (kind_of_elements kind) (operands run)) on_taken (λ is. right (store_deed ∙ is)) in
      let is = below_value run kind taken.0.value taken.0.rest
      (λ same. right (store_deed ∙ ap (λ (o : Option model.Taken). o >>= on_taken) taken.1 ∙ same)) in
      let above : model.Taken = record { value = model.int is.index; rest = is.object ∷ is.rest } in
      let one = found_one (kind_of_elements kind) own.id at.frame.stack taken.0 taken.1 in
      let two = found_next of_int (kind_of_elements kind) own.id at.frame.stack taken.0 above one (ap (taken_of of_int) is.is) in
      has_three at.newest one two
      (found_next of_reference of_int own.id one.below above (record { value = is.object; rest = is.rest }) two is.takes)

  module _ (above between below : List Value) (first second third : Value) (index : ℤ) (top : at.frame.stack ≡ above ++ words_of third)
      (middle : above ≡ between ++ words_of second) (under : between ≡ below ++ words_of first) (second_is : second ≡ Int index)
      (whole : is_whole kind ≡ true) (fits : is_of_kind (kind_of_elements kind) (value_of third) ≡ true) where
    abbrev left : List model.Value
    left = tops own.id below

    abbrev at_array : (address : ℕ) → Contents → Deed
    at_array address contents = stores_element run kind (own.id address) contents index (value_of third) left

    of_value : (other : Value) → first ≡ other
        → deed_of state t ≡ stores_at run kind (value_of third) (model.int index ∷ onto (value_by own.id (value_of other)) left)
    of_value other is =
        store_deed ∙ ap (λ vs. taken_of (kind_of_elements kind) vs >>= on_taken)
        (operands_are_three machine t next (array_store kind) at types state stands above between below first second third top middle under
        ∙ (λ i. onto ((stays kind third own.id whole fits).0 i) (onto (value_by own.id (value_of (second_is i))) (onto (value_by own.id (value_of (is i))) left))))
        ∙ ap (λ (o : Option model.Taken). o >>= on_taken)
        (taken_onto (kind_of_elements kind) (value_of third) (model.int index ∷ onto (value_by own.id (value_of other)) left) fits)

    pub null_throws : first ≡ Null → deed_of state t ≡ throws (name_of throwables.NullPointer) false
    null_throws is = of_value Null is

    live : (list_all own.is_live (ids_in (values_of below)) ≡ true) × (list_all own.is_live (id_in (value_of first)) ≡ true)
    live = three_are_live machine t next (array_store kind) at types state stands above between below first second third top middle under

    pub stored_array : deed_of state t ≢ wrong → (address : ℕ) → first ≡ Ref address → HasArray machine.heap address
    stored_array right address is =
        let found = some_by (contents_at state.heap (own.id address)) (at_array address) (λ same. right (of_value (Ref address) is ∙ same)) in
        let are = elements_there run kind (own.id address) found.0 index (value_of third) left
        (λ same. right (of_value (Ref address) is ∙ ap (λ (o : Option Contents). o >>= at_array address) found.1 ∙ same)) in
        let lies = array_lies classes machine.heap state.heap stands.parts.heap address found.0 are.0
        (one_live own.is_live first address is live.1) found.1 are.1 in
        array_has machine types state stands address lies.0 lies.1

    -- where a word lies at the index
    abbrev stores : (address : ℕ) (stored : Stored ℕ) → Option model.Value → Option Bool → Deed
    stores address stored value fit = value >>= λ (v : model.Value). fit >>= λ (b : Bool).
        if b then goes_on run (with_elements (own.id address) (element_type classes stored)
        (slice_set (arrays.elements_of classes own stored) (unsigned_abs index) v) state) left
        else throws (codes "java/lang/ArrayStoreException") false

    at_word : (address : ℕ) (stored : Stored ℕ) (word : Option ℕ) → first ≡ Ref address → IsArrayAt machine.heap address stored
        → word_at stored.contents index ≡ word
        → deed_of state t ≡ (if is_some word
        then stores address stored (narrowed kind (element_type classes stored) (value_of third)) (fits_element run (element_type classes stored) (value_of third))
        else out_of_bounds)
    at_word address stored word is lies found =
        of_value (Ref address) is
        ∙ ap (λ (o : Option Contents). o >>= at_array address) (reads_array machine types state stands address stored lies).object
        ∙ ap (λ (b : Bool). if b
        then stores address stored (narrowed kind (element_type classes stored) (value_of third)) (fits_element run (element_type classes stored) (value_of third))
        else out_of_bounds)
        (ap is_some (element_of_word classes own stored index ∙ ap (option_map (λ w. value_by own.id (value_in (element_cell classes stored) w))) found)
        ∙ some_kept word)
      where
        some_kept : (o : Option ℕ) → is_some (option_map (λ w. value_by own.id (value_in (element_cell classes stored) w)) o) ≡ is_some o
        some_kept None = refl
        some_kept (Some w) = refl

    pub outside_throws : (address : ℕ) (stored : Stored ℕ) → first ≡ Ref address → IsArrayAt machine.heap address stored
        → word_at stored.contents index ≡ None
        → deed_of state t ≡ throws (name_of throwables.ArrayIndexOutOfBounds) false
    outside_throws address stored is lies found = at_word address stored None is lies found

    -- the machine after it
    abbrev pub after_store : (address place word : ℕ) → Machine
    after_store address place word = record machine {
      heap = with_word (record { 0 = address }) place word machine.heap;
      stacks = change_thread t (goes_to next below false) machine.stacks;
    }

    pub stored_is_done : (address : ℕ) (stored : Stored ℕ) (old word place : ℕ) → first ≡ Ref address
        → IsArrayAt machine.heap address stored → word_at stored.contents index ≡ Some old → place ≡ unsigned_abs index
        → value_in (cell_of_kind (kind_of_elements kind)) word ≡ value_of (narrowed_to kind third)
        → IsDone types t (after_store address place word) (deed_of state t)
    stored_is_done address stored old word place is lies found place_is word_is =
        subst (IsDone types t (after_store address place word))
        (sym (at_word address stored (Some old) is lies found
        ∙ ap (stores address stored (narrowed kind (element_type classes stored) (value_of third))) (fits_there run kind (element_type classes stored) third whole fits)))
        (elim (narrows kind (element_type classes stored) third whole fits) [
          | inl none ↦ subst (λ (o : Option model.Value). IsDone types t (after_store address place word) (stores address stored o (Some true))) (sym none) tt
          | inr some ↦ subst (λ (o : Option model.Value). IsDone types t (after_store address place word) (stores address stored o (Some true))) (sym some.0)
              (done some.1)
        ])
      where
        done : cell_of_type (element_type classes stored) ≡ cell_of_kind (kind_of_elements kind)
            → IsDone types t (after_store address place word)
            (goes_on run (with_elements (own.id address) (element_type classes stored)
            (slice_set (arrays.elements_of classes own stored) (unsigned_abs index) (value_of (narrowed_to kind third))) state) left)
        done cell =
            let its_value : value_in (element_cell classes stored) word ≡ value_of (narrowed_to kind third) =
            ap (λ (c : Cell). value_in c word) cell ∙ word_is in
            let written : IsWrittenAs classes machine.heap state.heap (record { 0 = address }) stored place word =
            are_written classes machine.heap state.heap (record { 0 = address }) stored place word stands.parts.heap lies
            (ap (λ (v : model.Value). list_all own.is_live (id_in v)) its_value
            ∙ ap (list_all own.is_live) (names_nothing kind third whole fits)) in
            let objects : with_element classes machine.heap (record { 0 = address }) stored place word state.heap
            ≡ with_contents (own.id address) (array (element_type classes stored)
            (slice_set (arrays.elements_of classes own stored) (unsigned_abs index) (value_of (narrowed_to kind third)))) state.heap =
            ap (λ (n : ℕ). with_contents (own.id address) (array (element_type classes stored)
            (slice_set (arrays.elements_of classes own stored) n (value_by own.id (value_in (element_cell classes stored) word)))) state.heap) place_is
            ∙ ap (λ (v : model.Value). with_contents (own.id address) (array (element_type classes stored)
            (slice_set (arrays.elements_of classes own stored) (unsigned_abs index) v)) state.heap)
            (ap (value_by own.id) its_value ∙ (stays kind third own.id whole fits).1) in
            finish_is_done machine t next (array_store kind) at types state stands (after_store address place word)
            (with_elements (own.id address) (element_type classes stored)
            (slice_set (arrays.elements_of classes own stored) (unsigned_abs index) (value_of (narrowed_to kind third))) state)
            0 false below left refl refl live.0
            (λ threads are ended. with_heap types machine state (with_word (record { 0 = address }) place word machine.heap) _
            (change_thread t (goes_to next below false) machine.stacks) threads stands written.ids
            (subst (IsHeap classes (with_word (record { 0 = address }) place word machine.heap)) objects written.objects) are ended)
