-- What array loads come to.
use Rattle.std.proofs.Common.{◌≡◌, ◌≢◌, ℕ, ℤ, Bool, true, false, List, ◌∷◌, ◌++◌, Option, Some, None, option_map, refl, ap, sym, subst, ◌∙◌}
use Rattle.std.specs.Prelude.{if◌then◌else◌, slice_get}
use Rattle.std.specs.List.{list_all}
use Rattle.jv_model.specs.Descriptors.{FieldType}
use Rattle.jv_model.specs.Instruction.{ElementKind, of_int, of_reference, array_load}
use Rattle.machine_model.specs.Value as model
use Rattle.machine_model.specs.Value.{onto, taken_of, is_of_kind, id_in}
use Rattle.machine_model.specs.State.{State}
use Rattle.machine_model.specs.LocalStep.{local_step_of}
use Rattle.machine_model.specs.Deed.{Deed, wrong, throws, Running, operands, goes_on}
use Rattle.machine_model.specs.ArraySteps.{kind_of_elements, element_at, load_element, loads_element}
use Rattle.machine_model.specs.SharedStep.{deed_of, shared_step}
use Rattle.jv_values.specs.declared.value.Value.{Value}
use Rattle.jv_values.specs.declared.value.Value.TheVariants.{Int, Null, Ref}
use Rattle.jv_values.specs.Values.{value_of}
use Rattle.thread_frames.specs.Frames.{words_of}
use Rattle.frame_stacks.specs.Threads.{change_thread}
use Rattle.heap_face.specs.declared.layout.Cell.{Cell}
use Rattle.heap_face.specs.Heap.{Stored}
use Rattle.heap_objects.specs.Ids.{Ids, ids_of, value_by}
use Rattle.heap_objects.specs.Words.{value_in, cell_of_kind}
use Rattle.heap_objects.specs.Objects.{Classes}
use Rattle.element_values.specs.Elements as arrays
use Rattle.element_values.specs.Elements.{IsArrayAt, element_cell}
use Rattle.machine_threads.specs.Laws.{goes_to}
use Rattle.frame_operands.specs.Operands.{HasTwo}
use Rattle.machine_parts.specs.Parts.{Machine, StandsFor, classes_of}
use Rattle.machine_parts.specs.Steps.{IsAt, IsDone}
use Rattle.machine_parts.proofs.Operands.{tops}
use Rattle.machine_parts.proofs.Steps.{running, deed_is}
use Rattle.machine_throws.specs.declared.outcome.Throwable.TheVariants as throwables
use Rattle.machine_throws.specs.Names.{name_of}
use Rattle.machine_throws.proofs.Found.{found_one, found_next, has_two}
use Rattle.machine_throws.proofs.Replacing.{operands_are_two, two_are_live, replaced_is_done}
use Rattle.element_steps.specs.Arrays.{HasArray, word_at}
use Rattle.element_steps.proofs.Finding.{IsIndexed, cell_is, element_of_word, one_live, array_there, elements_are, reads_array}

pub indexed : (run : Running) (kind : ElementKind) (operands : List model.Value) → load_element run kind operands ≢ wrong → IsIndexed operands
indexed run kind (model.int index ∷ model.null ∷ rest) right =
    record { index = index; object = model.null; rest = rest; is = refl; takes = refl }
indexed run kind (model.int index ∷ model.reference id ∷ rest) right =
    record { index = index; object = model.reference id; rest = rest; is = refl; takes = refl }
indexed run kind operands right = absurd (right refl)

module _ (machine : Machine) (t next : ℕ) (kind : ElementKind) (at : IsAt machine t next (array_load kind))
    (types : List FieldType) (state : State) (stands : StandsFor types machine state) where
  abbrev pub run : Running
  run = running machine t next (array_load kind) at types state stands

  abbrev pub own : Ids
  own = ids_of machine.heap

  abbrev classes : Classes
  classes = classes_of machine.world types machine.versions

  pub load_deed : deed_of state t ≡ load_element run kind (operands run)
  unfolding shared_step local_step_of
  load_deed = deed_is machine t next (array_load kind) at types state stands (array_load kind) refl refl

  -- an index and what names an array are there
  abbrev pub has_indexed : deed_of state t ≢ wrong → HasTwo machine.stacks t of_reference of_int
  has_indexed right =
      let is = indexed run kind (operands run) (λ same. right (load_deed ∙ same)) in
      let above : model.Taken = record { value = model.int is.index; rest = is.object ∷ is.rest } in
      let one = found_one of_int own.id at.frame.stack above (ap (taken_of of_int) is.is) in
      has_two at.newest one
      (found_next of_reference of_int own.id at.frame.stack above (record { value = is.object; rest = is.rest }) one is.takes)

  module _ (between below : List Value) (first second : Value) (index : ℤ) (top : at.frame.stack ≡ between ++ words_of second)
      (under : between ≡ below ++ words_of first) (second_is : second ≡ Int index) where
    abbrev loads : List model.Value → Deed
    loads elements = loads_element run kind (tops own.id below) (element_at elements index)

    of_value : (other : Value) → first ≡ other
        → deed_of state t ≡ load_element run kind (model.int index ∷ onto (value_by own.id (value_of other)) (tops own.id below))
    of_value other is =
        load_deed ∙ ap (load_element run kind)
        (operands_are_two machine t next (array_load kind) at types state stands between below first second top under
        ∙ (λ i. onto (value_by own.id (value_of (second_is i))) (onto (value_by own.id (value_of (is i))) (tops own.id below))))

    pub null_throws : first ≡ Null → deed_of state t ≡ throws (name_of throwables.NullPointer) false
    null_throws is = of_value Null is

    pub loaded_array : deed_of state t ≢ wrong → (address : ℕ) → first ≡ Ref address → HasArray machine.heap address
    loaded_array right address is =
        array_there machine types state stands address loads
        (one_live own.is_live first address is
        (two_are_live machine t next (array_load kind) at types state stands between below first second top under).1)
        (λ same. right (of_value (Ref address) is ∙ same))

    at_word : (address : ℕ) (stored : Stored ℕ) (word : Option ℕ) → first ≡ Ref address → IsArrayAt machine.heap address stored
        → word_at stored.contents index ≡ word
        → deed_of state t ≡ loads_element run kind (tops own.id below)
        (option_map (λ w. value_by own.id (value_in (element_cell classes stored) w)) word)
    at_word address stored word is lies found =
        of_value (Ref address) is ∙ elements_are machine types state stands address stored loads lies
        ∙ ap (loads_element run kind (tops own.id below)) (element_of_word classes own stored index
        ∙ ap (option_map (λ w. value_by own.id (value_in (element_cell classes stored) w))) found)

    pub outside_throws : (address : ℕ) (stored : Stored ℕ) → first ≡ Ref address → IsArrayAt machine.heap address stored
        → word_at stored.contents index ≡ None
        → deed_of state t ≡ throws (name_of throwables.ArrayIndexOutOfBounds) false
    outside_throws address stored is lies found = at_word address stored None is lies found

    pub loaded_is_done : (address : ℕ) (stored : Stored ℕ) (word place : ℕ) (value : Value) → first ≡ Ref address
        → IsArrayAt machine.heap address stored → word_at stored.contents index ≡ Some word
        → slice_get stored.contents place ≡ Some word
        → value_of value ≡ value_in (cell_of_kind (kind_of_elements kind)) word
        → IsDone types t (record machine { stacks = change_thread t (goes_to next (below ++ words_of value) false) machine.stacks })
        (deed_of state t)
    loaded_is_done address stored word place value is lies found there value_is =
        subst (IsDone types t after) (sym (at_word address stored (Some word) is lies found))
        (by (is_of_kind (kind_of_elements kind) (value_by own.id (value_in (element_cell classes stored) word))) refl)
      where
        after : Machine
        after = record machine { stacks = change_thread t (goes_to next (below ++ words_of value) false) machine.stacks }

        element : (slice_get (arrays.elements_of classes own stored) place ≡ Some (value_by own.id (value_in (element_cell classes stored) word)))
            × (list_all own.is_live (id_in (value_in (element_cell classes stored) word)) ≡ true)
        element = (reads_array machine types state stands address stored lies).element place word there

        by : (b : Bool) → is_of_kind (kind_of_elements kind) (value_by own.id (value_in (element_cell classes stored) word)) ≡ b
            → IsDone types t after
            (if b then goes_on run state (onto (value_by own.id (value_in (element_cell classes stored) word)) (tops own.id below)) else wrong)
        by false other = tt
        by true fits =
            let same : value_in (element_cell classes stored) word ≡ value_of value =
            ap (λ (c : Cell). value_in c word) (cell_is (kind_of_elements kind) (element_cell classes stored) own.id word fits) ∙ sym value_is in
            subst (λ (v : model.Value). IsDone types t after (goes_on run state (onto (value_by own.id v) (tops own.id below)))) (sym same)
            (replaced_is_done machine t next (array_load kind) at types state stands below value (tops own.id below) refl
            (two_are_live machine t next (array_load kind) at types state stands between below first second top under).0
            (ap (λ (v : model.Value). list_all own.is_live (id_in v)) (sym same) ∙ element.1))
