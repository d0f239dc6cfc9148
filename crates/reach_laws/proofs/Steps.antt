-- What deeds, steps, entries of steps and journals reach.
use Rattle.std.proofs.Common.{◌≡◌, ℕ, zero, suc, ◌<◌, ◌≤◌, Bool, true, false, cond, List, [], ◌∷◌, length, Some, None, refl, subst, inl, inr, arith}
use Rattle.std.specs.Prelude.{◌⊎◌, slice_get}
use Rattle.std.specs.List.{list_all}
use Rattle.jv_model.specs.Operand.{Operand, class_named, member_named, string_constant}
use Rattle.jv_model.specs.Instruction.{Instruction, ldc, array_load, array_store, int_arithmetic, long_arithmetic, return_value, return_void, getstatic, putstatic, getfield, putfield, invokevirtual, invokespecial, invokestatic, invokeinterface, new, newarray, anewarray, arraylength, athrow, checkcast, instanceof, monitorenter, monitorexit}
use Rattle.jv_model.specs.End.{End, heap_full}
use Rattle.jv_model.specs.Journal.{Entry, run, attempt}
use Rattle.typing_model.specs.Environment.{named_type}
use Rattle.typing_model.specs.ObjectTypes.{primitive_type}
use Rattle.world_model.specs.Members.{body_of}
use Rattle.machine_model.specs.State.{Frame, Thread, State}
use Rattle.machine_model.specs.LocalStep.{Local, goes_to, not_local, wrong as wrong_frame, instruction_at, local_step_of}
use Rattle.machine_model.specs.Reach.{reach_words}
use Rattle.machine_model.specs.Deed.{Deed, throws, blocked, is_deep, is_crowded, is_full, does, wrong, Running, operands}
use Rattle.machine_model.specs.Throwing.{throws_new}
use Rattle.machine_model.specs.SharedStep.{shared_step, deed_at, deed_of_frames, deed_of}
use Rattle.machine_model.specs.Machine.{Machine}
use Rattle.machine_model.specs.Step.{Stepped, made, cannot, wrong_step, meets, counted, lacks_room, step_by_doing, step_by, step_of}
use Rattle.machine_model.specs.Legal.{ends_entry, further_steps}
use Rattle.machine_model.specs.Conforms.{Conforms}
use Rattle.journal_model.specs.Journal.{made as made_by, replayed}
use Rattle.run_laws.proofs.Fronts.{behind_not}
use Rattle.run_laws.proofs.Runs.{run_is, no_run}
use Rattle.run_laws.proofs.StepKeeps.{step_keeps, run_keeps}
use Rattle.frame_laws.proofs.Outcome.{some_inj, bind_is}
use Rattle.machine_laws.specs.Runnable.{IsRunnable}
use Rattle.machine_laws.specs.Deeds.{is_run}
use Rattle.machine_laws.proofs.Steps.{journal_conforms}
use Rattle.machine_laws.proofs.InUse.{reached_conforms}
use Rattle.reach_laws.specs.Reaching.{IsReached, ReachesOneMore, ReachesIn, ReachesNewOnes, IsMadeSince}
use Rattle.reach_laws.proofs.Holding.{FramesIn, ThreadIn, Within}
use Rattle.reach_laws.proofs.Lists.{all_get}
use Rattle.reach_laws.proofs.Roots.{reached_may, begins_within, is_there}
use Rattle.reach_laws.proofs.Changes.{thread_within}
use Rattle.reach_laws.proofs.Going.{WithinIn, Here, in_bind, in_given, in_frames}
use Rattle.reach_laws.proofs.Locals.{LocalIn, local_step_in}
use Rattle.reach_laws.proofs.Families.{get_static_in, put_static_in, get_field_in, put_field_in, load_element_in, store_element_in, array_length_in, new_array_in, new_object_in, check_cast_in, instance_of_in, load_string_in, divide_ints_in, divide_longs_in, enter_monitor_in, exit_monitor_in, throws_new_in, throw_object_in}
use Rattle.reach_laws.proofs.Calls.{return_with_in, return_of_in, invoke_virtual_in, invoke_special_in, invoke_static_in, invoke_interface_in}

-- ---- deeds

shared_step_in : (before : State) (r : Running) (here : Here before r) (instruction : Instruction Operand)
    → WithinIn before (shared_step r instruction)
unfolding shared_step
shared_step_in before r here (ldc (string_constant units)) = load_string_in before r here units
shared_step_in before r here (array_load kind) = load_element_in before r here kind (operands r) here.frame.stack
shared_step_in before r here (array_store kind) = store_element_in before r here kind
shared_step_in before r here (int_arithmetic operation) = divide_ints_in before r here operation (operands r) here.frame.stack
shared_step_in before r here (long_arithmetic operation) = divide_longs_in before r here operation (operands r) here.frame.stack
shared_step_in before r here (return_value kind) = return_of_in before r here kind
shared_step_in before r here return_void = return_with_in before r here None tt
shared_step_in before r here (getstatic (member_named field)) = get_static_in before r here field
shared_step_in before r here (putstatic (member_named field)) = put_static_in before r here field
shared_step_in before r here (getfield (member_named field)) = get_field_in before r here field
shared_step_in before r here (putfield (member_named field)) = put_field_in before r here field
shared_step_in before r here (invokevirtual (member_named m)) = invoke_virtual_in before r here m
shared_step_in before r here (invokespecial (member_named m)) = invoke_special_in before r here m
shared_step_in before r here (invokestatic (member_named m)) = invoke_static_in before r here m
shared_step_in before r here (invokeinterface (member_named m)) = invoke_interface_in before r here m
shared_step_in before r here (new (class_named name)) = new_object_in before r here name
shared_step_in before r here (newarray type) = new_array_in before r here (primitive_type type) (operands r) here.frame.stack
shared_step_in before r here (anewarray (class_named name)) = new_array_in before r here (named_type name) (operands r) here.frame.stack
shared_step_in before r here arraylength = array_length_in before r here (operands r) here.frame.stack
shared_step_in before r here athrow = throw_object_in before r here (operands r) here.frame.stack
shared_step_in before r here (checkcast (class_named name)) = check_cast_in before r here name (operands r) here.frame.stack
shared_step_in before r here (instanceof (class_named name)) = instance_of_in before r here name (operands r) here.frame.stack
shared_step_in before r here monitorenter = enter_monitor_in before r here (operands r) here.frame.stack
shared_step_in before r here monitorexit = exit_monitor_in before r here (operands r) here.frame.stack
shared_step_in before r here other = tt

deed_at_in : (before : State) (r : Running) (here : Here before r) (local : Local) → LocalIn before local → WithinIn before (deed_at r local)
deed_at_in before r here (goes_to frame) is = in_frames before r (frame ∷ r.callers) r.state (is, here.callers) here.start
deed_at_in before r here not_local is = shared_step_in before r here r.placed.instruction
deed_at_in before r here wrong_frame is = tt

of_frames_in : (before state : State) (t : ℕ) → length state.heap ≡ length before.heap → Within before state → (frames : List Frame) → FramesIn before frames
    → WithinIn before (deed_of_frames state t frames)
of_frames_in before state t same within [] all = tt
of_frames_in before state t same within (frame ∷ callers) all =
    in_bind before (body_of state.world frame.method) _ λ body _.
    in_bind before (instruction_at body frame.pc) _ λ placed _.
    deed_at_in before (record { state = state; thread = t; frame = frame; callers = callers; body = body; placed = placed })
    (record { start = within; same_size = same; frame = all.0; callers = all.1 }) (local_step_of body placed frame placed.instruction)
    (local_step_in before body placed frame all.0 placed.instruction)

-- What the next instruction of a thread leaves is within reach.
deed_in : (before state : State) (t : ℕ) → length state.heap ≡ length before.heap → Within before state → WithinIn before (deed_of state t)
unfolding deed_of
deed_in before state t same within =
    in_given before (ThreadIn before) (slice_get state.threads t) _ (all_get (ThreadIn before) state.threads t within.threads) λ thread all.
    of_frames_in before state t same within thread.frames all

reaches_in : (before : State) (deed : Deed) → WithinIn before deed → ReachesIn before deed
reaches_in before (does words mark state) within = reached_may before state within
reaches_in before (throws class native) within = tt
reaches_in before blocked within = tt
reaches_in before is_deep within = tt
reaches_in before is_crowded within = tt
reaches_in before is_full within = tt
reaches_in before wrong within = tt

pub deed_reaches : (state : State) (t : ℕ) → ReachesIn state (deed_of state t)
deed_reaches state t = reaches_in state (deed_of state t) (deed_in state state t refl (begins_within state))

-- ---- steps

made_is : {a b : Machine} → made a ≡ made b → a ≡ b
made_is e = cc

module _ (machine : Machine) (t : ℕ) (after : Machine) where
  abbrev StateIn : Machine → Type 0
  StateIn other = Within machine.state other.state

  met_in : (end : End) → meets machine end ≡ made after → StateIn after
  met_in end e = subst StateIn (made_is e) (begins_within machine.state)

  doing_in : (deed : Deed) → WithinIn machine.state deed → step_by_doing machine t deed ≡ made after → StateIn after
  doing_in (does words mark state) within e = go (lacks_room machine.state machine.program.half words) e
    where
      go : (b : Bool) → cond b (meets machine (heap_full words (reach_words machine.state) machine.program.half)) (counted machine t mark state) ≡ made after
          → StateIn after
      go true e = met_in (heap_full words (reach_words machine.state) machine.program.half) e
      go false e = subst StateIn (made_is e) (thread_within machine.state state within t (λ (th : Thread). record th { mark = mark }) (λ th h. h))
  doing_in (throws class native) within e = absurd cc
  doing_in blocked within e = absurd cc
  doing_in is_deep within e = absurd cc
  doing_in is_crowded within e = absurd cc
  doing_in is_full within e = absurd cc
  doing_in wrong within e = absurd cc

  by_deed_in : (deed : Deed) → WithinIn machine.state deed → step_by machine t deed ≡ made after → StateIn after
  unfolding step_by
  by_deed_in (throws class native) within e =
      doing_in (throws_new t class native machine.state) (throws_new_in machine.state t class native machine.state refl (begins_within machine.state)) e
  by_deed_in blocked within e = absurd cc
  by_deed_in is_deep within e = met_in _ e
  by_deed_in is_crowded within e = met_in _ e
  by_deed_in is_full within e = met_in _ e
  by_deed_in (does words mark state) within e = doing_in (does words mark state) within e
  by_deed_in wrong within e = absurd cc

pub step_reaches : (before : Machine) (t : ℕ) (after : Machine) → step_of before t ≡ made after → ReachesOneMore before.state after.state
step_reaches before t after e =
    reached_may before.state after.state
    (by_deed_in before t after (deed_of before.state t) (deed_in before.state before.state t refl (begins_within before.state)) e)

-- ---- entries and journals

same_reach : (state : State) → ReachesNewOnes state state
same_reach state id reached = inl reached

-- what is new twice is new
then_new : (a b c : State) → length a.heap ≤ length b.heap → ReachesNewOnes a b → ReachesNewOnes b c → ReachesNewOnes a c
then_new a b c more first second id reached = elim (second id reached) [
  | inl old ↦ first id old
  | inr newer ↦ inr (omega (arith, more, newer))
]

-- a step makes one object at the most
step_new : (before : Machine) (t : ℕ) (after : Machine) → step_of before t ≡ made after → ReachesNewOnes before.state after.state
step_new before t after e id reached = elim (step_reaches before t after e id reached) [
  | inl old ↦ inl old
  | inr next ↦ inr (omega (arith, next))
]

further_reaches : (due : Bool) (t count : ℕ) (before : Machine) (stepped : Stepped) (end : Machine) → step_of before t ≡ stepped
    → further_steps due t count before stepped ≡ Some end → ReachesNewOnes before.state end.state
unfolding further_steps
further_reaches due t zero before (made after) end is e =
    subst (λ (m : Machine). ReachesNewOnes before.state m.state) (some_inj e) (step_new before t after is)
further_reaches due t (suc count) before (made after) end is e =
    then_new before.state after.state end.state (step_keeps before t after is).no_fewer_objects (step_new before t after is)
    (further_reaches due t count after (step_of after t) end refl (behind_not (ends_entry due t before after) _ end e).1)
further_reaches due t zero before cannot end is e = absurd cc
further_reaches due t zero before wrong_step end is e = absurd cc
further_reaches due t (suc count) before cannot end is e = absurd cc
further_reaches due t (suc count) before wrong_step end is e = absurd cc

pub run_reaches : (t count : ℕ) (machine end : Machine) → made_by (run t count) machine ≡ Some end → ReachesNewOnes machine.state end.state
run_reaches t zero machine end e = absurd (no_run t machine end e)
run_reaches t (suc count) machine end e =
    further_reaches _ t count machine (step_of machine t) end refl (run_is t count machine end e).steps

pub journal_reaches : (entries : List Entry) (machine end : Machine) → list_all is_run entries ≡ true → replayed entries machine ≡ Some end
    → ReachesNewOnes machine.state end.state
unfolding replayed
journal_reaches [] machine end runs e =
    subst (λ (m : Machine). ReachesNewOnes machine.state m.state) (some_inj e) (same_reach machine.state)
journal_reaches (run t count ∷ entries) machine end runs e =
    let next = bind_is (λ next. replayed entries next) (made_by (run t count) machine) end e in
    then_new machine.state next.0.state end.state (run_keeps t count machine next.0 next.1).no_fewer_objects
    (run_reaches t count machine next.0 next.1) (journal_reaches entries next.0 end runs next.2)
journal_reaches (attempt ∷ entries) machine end runs e = absurd cc

pub nothing_comes_back : (entries : List Entry) (machine end : Machine) → list_all is_run entries ≡ true → replayed entries machine ≡ Some end
    → (id : ℕ) → id < length machine.state.heap → (IsReached machine.state id → ⊥) → IsReached end.state id → ⊥
nothing_comes_back entries machine end runs e id there out reached =
    elim (journal_reaches entries machine end runs e id reached) [
      | inl old ↦ out old
      | inr newer ↦ absurd (omega (arith, there, newer))
    ]

-- what can be reached in a state that conforms is there
reached_there : (state : State) (c : Conforms state) (id : ℕ) → IsReached state id → id < length state.heap
reached_there state c id reached =
    let found = reached_conforms state c.live c.is id reached in is_there state id found.0 found.1

pub typed_reaches : (entries : List Entry) (machine end : Machine) → IsRunnable machine.state.world → Conforms machine.state
    → list_all is_run entries ≡ true → replayed entries machine ≡ Some end
    → (id : ℕ) → IsReached end.state id → IsReached machine.state id ⊎ IsMadeSince machine.state end.state id
typed_reaches entries machine end runnable c runs e id reached =
    elim (journal_reaches entries machine end runs e id reached) [
      | inl old ↦ inl old
      | inr newer ↦ inr (record {
        there = reached_there end.state (journal_conforms entries machine end runnable c runs e).0 id reached;
        absent = newer;
        unreached = λ before. absurd (let there = reached_there machine.state c id before in omega (arith, there, newer));
      })
    ]
