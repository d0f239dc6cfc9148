-- Steps that stay in their frame and leave a value in place of operands.
use Rattle.std.proofs.Common.{◌≡◌, ℕ, ◌+◌, ◌≤◌, true, false, List, ◌++◌, length, refl, ap, sym, subst, ◌∙◌, arith, length-append}
use Rattle.std.specs.Prelude.{option_to_list}
use Rattle.std.specs.List.{list_all}
use Rattle.std.proofs.lemmas.Bool.{and_parts}
use Rattle.std.proofs.lemmas.List.Folds.{list_all-append}
use Rattle.jv_model.specs.Descriptors.{FieldType}
use Rattle.jv_model.specs.Instruction.{Instruction}
use Rattle.world_model.specs.World.{World}
use Rattle.machine_model.specs.Value as model
use Rattle.machine_model.specs.Value.{id_in, onto}
use Rattle.machine_model.specs.Heap.{Heap}
use Rattle.machine_model.specs.State as model_state
use Rattle.machine_model.specs.State.{State}
use Rattle.machine_model.specs.Reach.{ids_in}
use Rattle.machine_model.specs.Deed.{Running, operands, goes_on}
use Rattle.code_marks.specs.Marks.{mark_at}
use Rattle.jv_values.specs.declared.value.Value.{Value}
use Rattle.jv_values.specs.Values.{value_of, values_of, places_of}
use Rattle.thread_frames.specs.Frames.{words_of}
use Rattle.thread_frames.specs.Machine.{held_in}
use Rattle.thread_frames.proofs.TopLemmas.{length-words_of}
use Rattle.frame_stacks.specs.Threads.{Threads, change_thread}
use Rattle.heap_face.specs.Heap.{HeapState}
use Rattle.heap_objects.specs.Ids.{Ids, ids_of, value_by}
use Rattle.heap_objects.specs.Objects.{IsHeap}
use Rattle.machine_threads.specs.Threads.{AreThreads, HaveEnded}
use Rattle.machine_threads.specs.Laws.{goes_to}
use Rattle.machine_shared.specs.Shared.{AreStatics, AreInterned}
use Rattle.machine_parts.specs.Parts.{Machine, StandsFor, IsFirst, classes_of}
use Rattle.machine_parts.specs.Steps.{IsAt, IsDone}
use Rattle.machine_parts.proofs.Operands.{tops, tops_pushed, live_pushed, live_parts}
use Rattle.machine_parts.proofs.Steps.{running, frame_is, finish_is_done}

-- Where addresses name what they named, the machine with another heap and other threads is in the state with the objects
-- and the threads of these.
pub with_heap : (types : List FieldType) (machine : Machine) (state : State) (heap : HeapState) (objects : Heap) (stacks : Threads)
    (threads : List model_state.Thread) → StandsFor types machine state → ids_of heap ≡ ids_of machine.heap
    → IsHeap (classes_of machine.world types machine.versions) heap objects
    → AreThreads state.world (mark_at machine.versions.marks) (ids_of machine.heap) stacks threads → HaveEnded stacks
    → StandsFor types (record machine { heap = heap; stacks = stacks }) (record state { heap = objects; threads = threads })
with_heap types machine state heap objects stacks threads stands same is_heap are ended = record {
  parts = record {
    world = stands.parts.world;
    versions = stands.parts.versions;
    heap = is_heap;
    args = subst (λ (ids : Ids). IsFirst ids machine.args.0) (sym same) stands.parts.args;
    threads = subst (λ (ids : Ids). AreThreads machine.world (mark_at machine.versions.marks) ids stacks threads) (sym same)
        (subst (λ (w : World). AreThreads w (mark_at machine.versions.marks) (ids_of machine.heap) stacks threads) (sym stands.parts.world) are);
    statics = subst (λ (ids : Ids). AreStatics machine.world ids machine.versions.statics state.statics) (sym same) stands.parts.statics;
    class_monitors = stands.parts.class_monitors;
    interned = subst (λ (ids : Ids). AreInterned ids machine.versions.literals state.interned) (sym same) stands.parts.interned;
    output = stands.parts.output;
    requests = stands.parts.requests;
  };
  ended = ended;
  caches = stands.caches;
  orderly = stands.orderly;
}

module _ (machine : Machine) (t next : ℕ) (instruction : Instruction ℕ) (at : IsAt machine t next instruction)
    (types : List FieldType) (state : State) (stands : StandsFor types machine state) where
  abbrev own : Ids
  own = ids_of machine.heap

  abbrev run : Running
  run = running machine t next instruction at types state stands

  -- the operands name what is live
  pub live_operands : list_all own.is_live (ids_in (values_of at.frame.stack)) ≡ true
  live_operands =
      (and_parts (list_all own.is_live (option_to_list (held_in at.frame.held) ++ ids_in (values_of at.frame.locals)))
      (list_all own.is_live (ids_in (values_of at.frame.stack)))
      (sym (list_all-append own.is_live (option_to_list (held_in at.frame.held) ++ ids_in (values_of at.frame.locals))
      (ids_in (values_of at.frame.stack))) ∙ (frame_is machine t next instruction at types state stands).live)).1

  module _ (below : List Value) (value : Value) (rest : List model.Value) (is : tops own.id below ≡ rest) where
    abbrev words : List Value
    words = below ++ words_of value

    abbrev left : List model.Value
    left = onto (value_by own.id (value_of value)) rest

    left_is : tops own.id words ≡ left
    left_is = tops_pushed own.id below value ∙ ap (onto (value_by own.id (value_of value))) is

    pub replaced_is_done : list_all own.is_live (ids_in (values_of below)) ≡ true → list_all own.is_live (id_in (value_of value)) ≡ true
        → IsDone types t (record machine { stacks = change_thread t (goes_to next words false) machine.stacks }) (goes_on run state left)
    replaced_is_done live new =
        finish_is_done machine t next instruction at types state stands
        (record machine { stacks = change_thread t (goes_to next words false) machine.stacks }) state 0 false words left refl left_is
        (live_pushed own.is_live below value live new)
        (λ threads are ended. with_heap types machine state machine.heap state.heap (change_thread t (goes_to next words false) machine.stacks)
        threads stands refl stands.parts.heap are ended)

  -- ---- in place of one

  module _ (below : List Value) (one : Value) (top : at.frame.stack ≡ below ++ words_of one) where
    pub operands_are_one : operands run ≡ onto (value_by own.id (value_of one)) (tops own.id below)
    operands_are_one = ap (tops own.id) top ∙ tops_pushed own.id below one

    pub one_is_live : (list_all own.is_live (ids_in (values_of below)) ≡ true) × (list_all own.is_live (id_in (value_of one)) ≡ true)
    one_is_live = live_parts own.is_live below at.frame.stack one top live_operands

    pub room_for_one : (value : Value) → places_of value ≤ places_of one → length below + places_of value ≤ at.frame.max_stack
    room_for_one value few = omega (
      arith,
      few,
      (frame_is machine t next instruction at types state stands).within,
      ap length top,
      length-append below (words_of one),
      length-words_of one,
    )

  -- ---- in place of two

  module _ (between below : List Value) (first second : Value) (top : at.frame.stack ≡ between ++ words_of second)
      (under : between ≡ below ++ words_of first) where
    pub operands_are_two :
        operands run ≡ onto (value_by own.id (value_of second)) (onto (value_by own.id (value_of first)) (tops own.id below))
    operands_are_two = operands_are_one between second top
        ∙ ap (onto (value_by own.id (value_of second))) (ap (tops own.id) under ∙ tops_pushed own.id below first)

    pub two_are_live : (list_all own.is_live (ids_in (values_of below)) ≡ true) × (list_all own.is_live (id_in (value_of first)) ≡ true)
    two_are_live = live_parts own.is_live below between first under (one_is_live between second top).0

    pub room_for_two : (value : Value) → places_of value ≤ places_of first + places_of second
        → length below + places_of value ≤ at.frame.max_stack
    room_for_two value few = omega (
      arith,
      few,
      (frame_is machine t next instruction at types state stands).within,
      ap length top,
      length-append between (words_of second),
      length-words_of second,
      ap length under,
      length-append below (words_of first),
      length-words_of first,
    )

  -- ---- in place of three

  module _ (above between below : List Value) (first second third : Value) (top : at.frame.stack ≡ above ++ words_of third)
      (middle : above ≡ between ++ words_of second) (under : between ≡ below ++ words_of first) where
    pub operands_are_three : operands run
        ≡ onto (value_by own.id (value_of third)) (onto (value_by own.id (value_of second)) (onto (value_by own.id (value_of first)) (tops own.id below)))
    operands_are_three = operands_are_two above between second third top middle
        ∙ ap (λ vs. onto (value_by own.id (value_of third)) (onto (value_by own.id (value_of second)) vs))
        (ap (tops own.id) under ∙ tops_pushed own.id below first)

    pub three_are_live : (list_all own.is_live (ids_in (values_of below)) ≡ true) × (list_all own.is_live (id_in (value_of first)) ≡ true)
    three_are_live = live_parts own.is_live below between first under (two_are_live above between second third top middle).0
