-- What arraylength comes to.
use Rattle.std.proofs.Common.{◌≡◌, ◌≢◌, ℕ, pos, false, List, ◌∷◌, ◌++◌, Some, length, refl, ap, sym, subst, ◌∙◌}
use Rattle.jv_model.specs.Descriptors.{FieldType}
use Rattle.jv_model.specs.Instruction.{of_reference, arraylength}
use Rattle.machine_model.specs.Value as model
use Rattle.machine_model.specs.Value.{onto, taken_of}
use Rattle.machine_model.specs.State.{State}
use Rattle.machine_model.specs.LocalStep.{local_step_of}
use Rattle.machine_model.specs.Deed.{Deed, wrong, throws, Running, operands, goes_on}
use Rattle.machine_model.specs.ArraySteps.{array_length}
use Rattle.machine_model.specs.SharedStep.{deed_of, shared_step}
use Rattle.jv_values.specs.declared.value.Value.{Value}
use Rattle.jv_values.specs.declared.value.Value.TheVariants.{Int, Null, Ref}
use Rattle.jv_values.specs.Values.{value_of}
use Rattle.thread_frames.specs.Frames.{words_of}
use Rattle.frame_stacks.specs.Threads.{change_thread}
use Rattle.heap_face.specs.Heap.{Stored}
use Rattle.heap_objects.specs.Ids.{Ids, ids_of, value_by}
use Rattle.element_values.specs.Elements.{IsArrayAt}
use Rattle.machine_threads.specs.Laws.{goes_to}
use Rattle.frame_operands.specs.Operands.{HasOne}
use Rattle.machine_parts.specs.Parts.{Machine, StandsFor}
use Rattle.machine_parts.specs.Steps.{IsAt, IsDone}
use Rattle.machine_parts.proofs.Operands.{tops}
use Rattle.machine_parts.proofs.Steps.{running, deed_is}
use Rattle.machine_throws.specs.declared.outcome.Throwable.TheVariants as throwables
use Rattle.machine_throws.specs.Names.{name_of}
use Rattle.machine_throws.proofs.Found.{found_one, has_one}
use Rattle.machine_throws.proofs.Replacing.{operands_are_one, one_is_live, replaced_is_done}
use Rattle.element_steps.specs.Arrays.{HasArray}
use Rattle.element_steps.proofs.Finding.{one_live, array_there, elements_are, reads_array}

-- The operands begin with what names an array.
pub record IsNamed (operands : List model.Value) : Type 0 where
  pub object : model.Value
  pub rest : List model.Value
  pub takes : taken_of of_reference operands ≡ Some (record { value = object; rest = rest })

pub named : (run : Running) (operands : List model.Value) → array_length run operands ≢ wrong → IsNamed operands
named run (model.null ∷ rest) right = record { object = model.null; rest = rest; takes = refl }
named run (model.reference id ∷ rest) right = record { object = model.reference id; rest = rest; takes = refl }
named run operands right = absurd (right refl)

module _ (machine : Machine) (t next : ℕ) (at : IsAt machine t next arraylength)
    (types : List FieldType) (state : State) (stands : StandsFor types machine state) where
  abbrev pub run : Running
  run = running machine t next arraylength at types state stands

  abbrev pub own : Ids
  own = ids_of machine.heap

  pub length_deed : deed_of state t ≡ array_length run (operands run)
  unfolding shared_step local_step_of
  length_deed = deed_is machine t next arraylength at types state stands arraylength refl refl

  -- what names an array is there
  abbrev pub has_named : deed_of state t ≢ wrong → HasOne machine.stacks t of_reference
  has_named right =
      let is = named run (operands run) (λ same. right (length_deed ∙ same)) in
      has_one at.newest (found_one of_reference own.id at.frame.stack (record { value = is.object; rest = is.rest }) is.takes)

  module _ (below : List Value) (value : Value) (top : at.frame.stack ≡ below ++ words_of value) where
    abbrev counts : List model.Value → Deed
    counts elements = goes_on run state (model.int (pos (length elements)) ∷ tops own.id below)

    of_value : (other : Value) → value ≡ other → deed_of state t ≡ array_length run (onto (value_by own.id (value_of other)) (tops own.id below))
    of_value other is =
        length_deed ∙ ap (array_length run) (operands_are_one machine t next arraylength at types state stands below value top
        ∙ ap (λ (v : Value). onto (value_by own.id (value_of v)) (tops own.id below)) is)

    pub null_throws : value ≡ Null → deed_of state t ≡ throws (name_of throwables.NullPointer) false
    null_throws is = of_value Null is

    pub named_array : deed_of state t ≢ wrong → (address : ℕ) → value ≡ Ref address → HasArray machine.heap address
    named_array right address is =
        array_there machine types state stands address counts
        (one_live own.is_live value address is (one_is_live machine t next arraylength at types state stands below value top).1)
        (λ same. right (of_value (Ref address) is ∙ same))

    pub counted_is_done : (address : ℕ) (stored : Stored ℕ) → value ≡ Ref address → IsArrayAt machine.heap address stored
        → IsDone types t (record machine {
          stacks = change_thread t (goes_to next (below ++ words_of (Int (pos (length stored.contents)))) false) machine.stacks;
        }) (deed_of state t)
    counted_is_done address stored is lies =
        subst (IsDone types t (record machine {
          stacks = change_thread t (goes_to next (below ++ words_of (Int (pos (length stored.contents)))) false) machine.stacks;
        }))
        (sym (of_value (Ref address) is ∙ elements_are machine types state stands address stored counts lies
        ∙ ap (λ n. goes_on run state (model.int (pos n) ∷ tops own.id below)) (reads_array machine types state stands address stored lies).count))
        (replaced_is_done machine t next arraylength at types state stands below (Int (pos (length stored.contents))) (tops own.id below) refl
        (one_is_live machine t next arraylength at types state stands below value top).0 refl)
