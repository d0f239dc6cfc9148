-- What a step keeps.
use Rattle.std.proofs.Common.{◌≡◌, ℕ, zero, suc, Bool, true, false, cond, List, [], ◌∷◌, Some, None, refl, ap, subst, ◌∙◌}
use Rattle.jv_model.specs.Operand.{Operand, class_named, member_named, string_constant}
use Rattle.jv_model.specs.Instruction.{Instruction, ldc, array_load, array_store, int_arithmetic, long_arithmetic, return_value, return_void, getstatic, putstatic, getfield, putfield, invokevirtual, invokespecial, invokestatic, invokeinterface, new, newarray, anewarray, arraylength, athrow, checkcast, instanceof, monitorenter, monitorexit}
use Rattle.jv_model.specs.Code.{Body, Placed}
use Rattle.jv_model.specs.End.{End}
use Rattle.jv_model.specs.Journal.{run}
use Rattle.typing_model.specs.Environment.{named_type}
use Rattle.typing_model.specs.ObjectTypes.{primitive_type}
use Rattle.machine_model.specs.State.{Frame, Thread, State}
use Rattle.machine_model.specs.LocalStep.{Local, goes_to, not_local, wrong as wrong_frame}
use Rattle.machine_model.specs.Deed.{Deed, throws, blocked, is_deep, is_crowded, is_full, does, wrong, Running, operands}
use Rattle.machine_model.specs.Throwing.{throws_new}
use Rattle.machine_model.specs.SharedStep.{shared_step, deed_at, deed_of_frames, deed_of}
use Rattle.machine_model.specs.Machine.{Machine}
use Rattle.machine_model.specs.Step.{Stepped, made, cannot, wrong_step, meets, counted, marked, lacks_room, step_by_doing, step_by, step_of}
use Rattle.machine_model.specs.Legal.{ends_entry, further_steps}
use Rattle.journal_model.specs.Journal.{made as made_by}
use Rattle.run_laws.specs.Keeps.{Keeps, KeepsIn}
use Rattle.run_laws.proofs.Fronts.{behind_not}
use Rattle.run_laws.proofs.Runs.{run_is, no_run}
use Rattle.run_laws.proofs.Keeping.{same, then, thread_changed}
use Rattle.run_laws.proofs.DeedKeeps.{in_bind}
use Rattle.run_laws.proofs.Families.{InStep, get_static_keeps, put_static_keeps, get_field_keeps, put_field_keeps, load_element_keeps, store_element_keeps, array_length_keeps, new_array_keeps, new_object_keeps, check_cast_keeps, instance_of_keeps, load_string_keeps, divide_ints_keeps, divide_longs_keeps, enter_monitor_keeps, exit_monitor_keeps, throws_new_keeps, throw_object_keeps}
use Rattle.run_laws.proofs.CallFamilies.{return_with_keeps, return_of_keeps, invoke_virtual_keeps, invoke_special_keeps, invoke_static_keeps, invoke_interface_keeps}

shared_step_keeps : (running : Running) (instruction : Instruction Operand)
    → InStep running (shared_step running instruction)
unfolding shared_step
shared_step_keeps running (ldc (string_constant units)) = load_string_keeps running units
shared_step_keeps running (array_load kind) = load_element_keeps running kind _
shared_step_keeps running (array_store kind) = store_element_keeps running kind
shared_step_keeps running (int_arithmetic operation) = divide_ints_keeps running operation (operands running)
shared_step_keeps running (long_arithmetic operation) = divide_longs_keeps running operation (operands running)
shared_step_keeps running (return_value kind) = return_of_keeps running kind
shared_step_keeps running return_void = return_with_keeps running None
shared_step_keeps running (getstatic (member_named field)) = get_static_keeps running field
shared_step_keeps running (putstatic (member_named field)) = put_static_keeps running field
shared_step_keeps running (getfield (member_named field)) = get_field_keeps running field
shared_step_keeps running (putfield (member_named field)) = put_field_keeps running field
shared_step_keeps running (invokevirtual (member_named m)) = invoke_virtual_keeps running m
shared_step_keeps running (invokespecial (member_named m)) = invoke_special_keeps running m
shared_step_keeps running (invokestatic (member_named m)) = invoke_static_keeps running m
shared_step_keeps running (invokeinterface (member_named m)) = invoke_interface_keeps running m
shared_step_keeps running (new (class_named name)) = new_object_keeps running name
shared_step_keeps running (newarray type) = new_array_keeps running (primitive_type type) (operands running)
shared_step_keeps running (anewarray (class_named name)) =
    new_array_keeps running (named_type name) (operands running)
shared_step_keeps running arraylength = array_length_keeps running _
shared_step_keeps running athrow = throw_object_keeps running _
shared_step_keeps running (checkcast (class_named name)) = check_cast_keeps running name _
shared_step_keeps running (instanceof (class_named name)) = instance_of_keeps running name _
shared_step_keeps running monitorenter = enter_monitor_keeps running _
shared_step_keeps running monitorexit = exit_monitor_keeps running _
shared_step_keeps running other = tt

deed_at_keeps : (running : Running) (local : Local) → InStep running (deed_at running local)
deed_at_keeps running (goes_to frame) =
    thread_changed running.thread (λ (th : Thread). record th { frames = frame ∷ running.callers }) running.state
deed_at_keeps running not_local = shared_step_keeps running running.placed.instruction
deed_at_keeps running wrong_frame = tt

at_frame : (state : State) (t : ℕ) (frame : Frame) (callers : List Frame) (body : Body Operand) (placed : Placed Operand) (local : Local)
    → KeepsIn t state (deed_at (record { state = state; thread = t; frame = frame; callers = callers; body = body; placed = placed }) local)
at_frame state t frame callers body placed local =
    deed_at_keeps (record { state = state; thread = t; frame = frame; callers = callers; body = body; placed = placed }) local

of_frames_keeps : (state : State) (t : ℕ) (frames : List Frame) → KeepsIn t state (deed_of_frames state t frames)
of_frames_keeps state t [] = tt
of_frames_keeps state t (frame ∷ callers) = search (in_bind, at_frame)

-- What the next instruction of a thread comes to keeps all others.
pub deed_of_keeps : (state : State) (t : ℕ) → KeepsIn t state (deed_of state t)
unfolding deed_of
deed_of_keeps state t = search (in_bind, of_frames_keeps)

-- ---- the step of a machine

made_is : (a b : Machine) → made a ≡ made b → a ≡ b
made_is a b e = cc

from_counted : (before : Machine) (t : ℕ) (mark : Bool) (state : State) (after : Machine)
    → Keeps t before.state state → counted before t mark state ≡ made after → Keeps t before.state after.state
from_counted before t mark state after kept e =
    let state_is : marked t mark state ≡ after.state = ap (λ (m : Machine). m.state) (made_is _ _ e) in
    subst (Keeps t before.state) state_is (then t before.state state _ kept (thread_changed t (λ (th : Thread). record th { mark = mark }) state))

from_meeting : (before : Machine) (t : ℕ) (end : End) (after : Machine) → meets before end ≡ made after
    → Keeps t before.state after.state
from_meeting before t end after e =
    subst (Keeps t before.state) (ap (λ (m : Machine). m.state) (made_is _ _ e)) (same t before.state)

from_either : (lacks : Bool) (before : Machine) (t : ℕ) (end : End) (mark : Bool) (state : State) (after : Machine)
    → Keeps t before.state state → cond lacks (meets before end) (counted before t mark state) ≡ made after
    → Keeps t before.state after.state
from_either true before t end mark state after kept e = from_meeting before t end after e
from_either false before t end mark state after kept e = from_counted before t mark state after kept e

from_doing : (before : Machine) (t : ℕ) (deed : Deed) (after : Machine) → KeepsIn t before.state deed
    → step_by_doing before t deed ≡ made after → Keeps t before.state after.state
from_doing before t (does words mark state) after kept e =
    from_either (lacks_room before.state before.program.half words) before t _ mark state after kept e
from_doing before t (throws class native) after kept e = absurd cc
from_doing before t blocked after kept e = absurd cc
from_doing before t is_deep after kept e = absurd cc
from_doing before t is_crowded after kept e = absurd cc
from_doing before t is_full after kept e = absurd cc
from_doing before t wrong after kept e = absurd cc

from_deed : (before : Machine) (t : ℕ) (deed : Deed) (after : Machine) → KeepsIn t before.state deed
    → step_by before t deed ≡ made after → Keeps t before.state after.state
unfolding step_by
from_deed before t (throws class native) after kept e =
    from_doing before t (throws_new t class native before.state) after (throws_new_keeps t class native before.state) e
from_deed before t blocked after kept e = absurd cc
from_deed before t is_deep after kept e = from_meeting before t _ after e
from_deed before t is_crowded after kept e = from_meeting before t _ after e
from_deed before t is_full after kept e = from_meeting before t _ after e
from_deed before t (does words mark state) after kept e = from_doing before t (does words mark state) after kept e
from_deed before t wrong after kept e = absurd cc

-- A step of a thread keeps all others.
pub step_keeps : (before : Machine) (t : ℕ) (after : Machine) → step_of before t ≡ made after
    → Keeps t before.state after.state
step_keeps before t after e = from_deed before t (deed_of before.state t) after (deed_of_keeps before.state t) e

further_keeps : (due : Bool) (t count : ℕ) (before : Machine) (stepped : Stepped) (end : Machine)
    → step_of before t ≡ stepped → further_steps due t count before stepped ≡ Some end → Keeps t before.state end.state
unfolding further_steps
further_keeps due t zero before (made after) end is e =
    let same : after ≡ end = cc in
    step_keeps before t end (is ∙ ap made same)
further_keeps due t (suc count) before (made after) end is e =
    then t before.state after.state end.state (step_keeps before t after is) (further_keeps due t count after (step_of after t) end refl (behind_not (ends_entry due t before after) _ end e).1)
further_keeps due t zero before cannot end is e = absurd cc
further_keeps due t zero before wrong_step end is e = absurd cc
further_keeps due t (suc count) before cannot end is e = absurd cc
further_keeps due t (suc count) before wrong_step end is e = absurd cc

-- A Run of a thread keeps all others.
pub run_keeps : (t count : ℕ) (machine end : Machine) → made_by (run t count) machine ≡ Some end
    → Keeps t machine.state end.state
run_keeps t zero machine end e = absurd (no_run t machine end e)
run_keeps t (suc count) machine end e =
    further_keeps _ t count machine (step_of machine t) end refl (run_is t count machine end e).steps
