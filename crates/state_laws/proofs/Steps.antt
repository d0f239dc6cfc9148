-- What deeds, steps and entries of steps leave is well kept.
use Rattle.std.proofs.Common.{◌≡◌, ℕ, zero, suc, Bool, true, false, cond, List, [], ◌∷◌, Option, Some, None, refl, sym, ap, subst, ◌∙◌}
use Rattle.std.specs.Prelude.{slice_get}
use Rattle.jv_model.specs.Operand.{MemberReference, Operand, class_named, member_named, string_constant}
use Rattle.jv_model.specs.Instruction.{Instruction, nop, ldc, array_load, array_store, int_arithmetic, long_arithmetic, return_value, return_void, getstatic, putstatic, getfield, putfield, invokevirtual, invokespecial, invokestatic, invokeinterface, new, newarray, anewarray, arraylength, athrow, checkcast, instanceof, monitorenter, monitorexit}
use Rattle.jv_model.specs.Code.{Body, Placed}
use Rattle.jv_model.specs.End.{heap_full}
use Rattle.jv_model.specs.Journal.{run}
use Rattle.typing_model.specs.Environment.{named_type}
use Rattle.typing_model.specs.ObjectTypes.{primitive_type}
use Rattle.world_model.specs.Members.{body_of}
use Rattle.machine_model.specs.State.{Frame, Thread, State}
use Rattle.machine_model.specs.LocalStep.{Local, goes_to, not_local, wrong as wrong_frame, instruction_at, local_step_of}
use Rattle.machine_model.specs.Reach.{reach_words}
use Rattle.machine_model.specs.Deed.{Deed, throws, blocked, is_deep, is_crowded, is_full, does, wrong, Running, ◌>>=◌, operands}
use Rattle.machine_model.specs.Throwing.{throws_new}
use Rattle.machine_model.specs.SharedStep.{shared_step, deed_at, deed_of_frames, deed_of}
use Rattle.machine_model.specs.Machine.{Machine}
use Rattle.machine_model.specs.Step.{Stepped, made, cannot, wrong_step, meets, counted, lacks_room, step_by_doing, step_by, step_of}
use Rattle.machine_model.specs.Legal.{ends_entry, further_steps}
use Rattle.machine_model.specs.WellKept.{frames_fit, WellKept}
use Rattle.journal_model.specs.Journal.{made as made_by}
use Rattle.run_laws.proofs.Fronts.{behind_not}
use Rattle.run_laws.proofs.Runs.{run_is, no_run}
use Rattle.run_laws.proofs.StepKeeps.{step_keeps}
use Rattle.state_laws.specs.Laws.{FramesFit, KeptIn}
use Rattle.state_laws.proofs.Changes.{mark_kept}
use Rattle.frame_laws.proofs.Outcome.{some_inj}
use Rattle.state_laws.proofs.Going.{Here, in_bind, in_bind_is, frames_kept, fits_now}
use Rattle.state_laws.proofs.Locals.{SameMethod, local_same}
use Rattle.state_laws.proofs.Families.{get_static_kept, put_static_kept, get_field_kept, put_field_kept, load_element_kept, store_element_kept, array_length_kept, new_array_kept, new_object_kept, check_cast_kept, instance_of_kept, load_string_kept, divide_ints_kept, divide_longs_kept, enter_monitor_kept, exit_monitor_kept, throws_new_kept, throw_object_kept}
use Rattle.state_laws.proofs.Calls.{return_with_kept, return_of_kept, invoke_virtual_kept, invoke_special_kept, invoke_static_kept, invoke_interface_kept}

shared_step_kept : (r : Running) (here : Here r) (instruction : Instruction Operand) → KeptIn (shared_step r instruction)
unfolding shared_step
shared_step_kept r here (ldc (string_constant units)) = load_string_kept r here units
shared_step_kept r here (array_load kind) = load_element_kept r here kind _
shared_step_kept r here (array_store kind) = store_element_kept r here kind
shared_step_kept r here (int_arithmetic operation) = divide_ints_kept r here operation (operands r)
shared_step_kept r here (long_arithmetic operation) = divide_longs_kept r here operation (operands r)
shared_step_kept r here (return_value kind) = return_of_kept r here kind
shared_step_kept r here return_void = return_with_kept r here None
shared_step_kept r here (getstatic (member_named field)) = get_static_kept r here field
shared_step_kept r here (putstatic (member_named field)) = put_static_kept r here field
shared_step_kept r here (getfield (member_named field)) = get_field_kept r here field
shared_step_kept r here (putfield (member_named field)) = put_field_kept r here field
shared_step_kept r here (invokevirtual (member_named m)) = invoke_virtual_kept r here m
shared_step_kept r here (invokespecial (member_named m)) = invoke_special_kept r here m
shared_step_kept r here (invokestatic (member_named m)) = invoke_static_kept r here m
shared_step_kept r here (invokeinterface (member_named m)) = invoke_interface_kept r here m
shared_step_kept r here (new (class_named name)) = new_object_kept r here name
shared_step_kept r here (newarray type) = new_array_kept r here (primitive_type type) (operands r)
shared_step_kept r here (anewarray (class_named name)) = new_array_kept r here (named_type name) (operands r)
shared_step_kept r here arraylength = array_length_kept r here _
shared_step_kept r here athrow = throw_object_kept r here _
shared_step_kept r here (checkcast (class_named name)) = check_cast_kept r here name _
shared_step_kept r here (instanceof (class_named name)) = instance_of_kept r here name _
shared_step_kept r here monitorenter = enter_monitor_kept r here _
shared_step_kept r here monitorexit = exit_monitor_kept r here _
shared_step_kept r here other = tt

deed_at_kept : (r : Running) (here : Here r) (local : Local) → SameMethod r.frame local → KeptIn (deed_at r local)
deed_at_kept r here (goes_to next) same =
    frames_kept r here next r.callers r.state here.start
    (ap (λ (m : MemberReference). frames_fit r.state.world (record next { method = m } ∷ r.callers)) same ∙ fits_now r here)
deed_at_kept r here not_local same = shared_step_kept r here r.placed.instruction
deed_at_kept r here wrong_frame same = tt

module _ (state : State) (t : ℕ) (th : Thread) (small : FramesFit state.world) (kept : WellKept state)
    (at : slice_get state.threads t ≡ Some th) where
  here_now : (frame : Frame) (callers : List Frame) (body : Body Operand) (placed : Placed Operand) → th.frames ≡ frame ∷ callers
      → Here (record { state = state; thread = t; frame = frame; callers = callers; body = body; placed = placed })
  here_now frame callers body placed are =
      record { small = small; th = th; are_frames = are; start = record { kept = kept; same_world = refl; at = at } }

  of_frames_kept : (frames : List Frame) → th.frames ≡ frames → KeptIn (deed_of_frames state t frames)
  of_frames_kept [] are = tt
  of_frames_kept (frame ∷ callers) are =
      in_bind (body_of state.world frame.method) _ (λ body. in_bind (instruction_at body frame.pc) _ (λ placed.
      deed_at_kept (record { state = state; thread = t; frame = frame; callers = callers; body = body; placed = placed })
      (here_now frame callers body placed are) (local_step_of body placed frame placed.instruction) (local_same body placed frame placed.instruction)))

-- What the next instruction of a thread comes to leaves a state that is well kept.
pub deed_is_kept : (state : State) (t : ℕ) → FramesFit state.world → WellKept state → KeptIn (deed_of state t)
unfolding deed_of
deed_is_kept state t small kept =
    in_bind_is (slice_get state.threads t) _ (λ th at. of_frames_kept state t th small kept at th.frames refl)

-- ---- throws

-- a deed of a thread that isn't wrong is one of a thread with frames
has_frames : (state : State) (t : ℕ) (class : List ℕ) (native : Bool) → deed_of state t ≡ throws class native
    → (th : Thread) × (frame : Frame) × (callers : List Frame) × (slice_get state.threads t ≡ Some th) × (th.frames ≡ frame ∷ callers)
unfolding deed_of
has_frames state t class native h = go (slice_get state.threads t) refl h
  where
    some_frames : (th : Thread) (frames : List Frame) → slice_get state.threads t ≡ Some th → th.frames ≡ frames
        → deed_of_frames state t frames ≡ throws class native
        → (th : Thread) × (frame : Frame) × (callers : List Frame) × (slice_get state.threads t ≡ Some th) × (th.frames ≡ frame ∷ callers)
    some_frames th [] at are h = absurd cc
    some_frames th (frame ∷ callers) at are h = (th, frame, callers, at, are)

    go : (o : Option Thread) → slice_get state.threads t ≡ o → (o >>= λ (th : Thread). deed_of_frames state t th.frames) ≡ throws class native
        → (th : Thread) × (frame : Frame) × (callers : List Frame) × (slice_get state.threads t ≡ Some th) × (th.frames ≡ frame ∷ callers)
    go None at h = absurd cc
    go (Some th) at h = some_frames th th.frames at refl h

pub throw_is_kept : (state : State) (t : ℕ) (class : List ℕ) (native : Bool) → FramesFit state.world → WellKept state
    → deed_of state t ≡ throws class native → KeptIn (throws_new t class native state)
throw_is_kept state t class native small kept h =
    let f = has_frames state t class native h in
    let r : Running = record { state = state; thread = t; frame = f.1; callers = f.2; body = no_body; placed = no_instruction } in
    throws_new_kept r (here_now state t f.0 small kept f.3 f.1 f.2 no_body no_instruction f.4) class native
  where
    no_body : Body Operand
    no_body = record { max_stack = 0; max_locals = 0; instructions = []; handlers = []; frames = [] }

    no_instruction : Placed Operand
    no_instruction = record { pc = 0; next = 0; instruction = nop }

-- ---- the step of a machine

made_is : {a b : Machine} → made a ≡ made b → a ≡ b
made_is e = cc

module _ (before : Machine) (t : ℕ) (after : Machine) (kept : WellKept before.state) where
  from_doing : (deed : Deed) → KeptIn deed → step_by_doing before t deed ≡ made after → WellKept after.state
  from_doing (does words mark state) in_deed e = go (lacks_room before.state before.program.half words) e
    where
      go : (b : Bool) → cond b (meets before (heap_full words (reach_words before.state) before.program.half)) (counted before t mark state) ≡ made after
          → WellKept after.state
      go true e = subst (λ (m : Machine). WellKept m.state) (made_is e) kept
      go false e = subst (λ (m : Machine). WellKept m.state) (made_is e) (mark_kept state t mark in_deed)
  from_doing (throws class native) in_deed e = absurd cc
  from_doing blocked in_deed e = absurd cc
  from_doing is_deep in_deed e = absurd cc
  from_doing is_crowded in_deed e = absurd cc
  from_doing is_full in_deed e = absurd cc
  from_doing wrong in_deed e = absurd cc

  from_deed : FramesFit before.state.world → (deed : Deed) → deed_of before.state t ≡ deed → KeptIn deed
      → step_by before t deed ≡ made after → WellKept after.state
  unfolding step_by
  from_deed small (throws class native) is in_deed e =
      from_doing (throws_new t class native before.state) (throw_is_kept before.state t class native small kept is) e
  from_deed small blocked is in_deed e = absurd cc
  from_deed small is_deep is in_deed e = subst (λ (m : Machine). WellKept m.state) (made_is e) kept
  from_deed small is_crowded is in_deed e = subst (λ (m : Machine). WellKept m.state) (made_is e) kept
  from_deed small is_full is in_deed e = subst (λ (m : Machine). WellKept m.state) (made_is e) kept
  from_deed small (does words mark state) is in_deed e = from_doing (does words mark state) in_deed e
  from_deed small wrong is in_deed e = absurd cc

-- A step of a thread leaves a state that is well kept.
pub step_is_kept : (before : Machine) (t : ℕ) (after : Machine) → FramesFit before.state.world → WellKept before.state
    → step_of before t ≡ made after → WellKept after.state
step_is_kept before t after small kept e =
    from_deed before t after kept small (deed_of before.state t) refl (deed_is_kept before.state t small kept) e

further_kept : (due : Bool) (t count : ℕ) (before : Machine) (stepped : Stepped) (end : Machine) → FramesFit before.state.world
    → WellKept before.state → step_of before t ≡ stepped → further_steps due t count before stepped ≡ Some end → WellKept end.state
unfolding further_steps
further_kept due t zero before (made after) end small kept is e =
    subst (λ (m : Machine). WellKept m.state) (some_inj e) (step_is_kept before t after small kept is)
further_kept due t (suc count) before (made after) end small kept is e =
    further_kept due t count after (step_of after t) end (subst FramesFit (sym (step_keeps before t after is).world) small)
    (step_is_kept before t after small kept is) refl (behind_not (ends_entry due t before after) _ end e).1
further_kept due t zero before cannot end small kept is e = absurd cc
further_kept due t zero before wrong_step end small kept is e = absurd cc
further_kept due t (suc count) before cannot end small kept is e = absurd cc
further_kept due t (suc count) before wrong_step end small kept is e = absurd cc

-- So does a legal entry of steps.
pub run_is_kept : (before after : Machine) (t count : ℕ) → FramesFit before.state.world → WellKept before.state
    → made_by (run t count) before ≡ Some after → WellKept after.state
run_is_kept before after t zero small kept e = absurd (no_run t before after e)
run_is_kept before after t (suc count) small kept e =
    further_kept _ t count before (step_of before t) after small kept refl (run_is t count before after e).steps
