-- ireturn, lreturn, areturn, return (JVMS 6.5, 2.6.4), and the methods that a thread is to run one after another.
use Rattle.std.specs.Prelude.{ℕ, List, [], ◌∷◌, true, ◌&&◌, not, ◌==◌, if◌then◌else◌, Option, Some, None, option_to_list, flat_map, slice_get}
use Rattle.jv_model.specs.Operand.{MemberReference}
use Rattle.jv_model.specs.Instruction.{ValueKind}
use Rattle.world_model.specs.World.{Method}
use Rattle.world_model.specs.Members.{method_named, body_of}
use Rattle.world_model.specs.LookUp.{Found}
use Rattle.machine_model.specs.Value.{Value, reference, onto, taken_of}
use Rattle.machine_model.specs.State.{Frame, Thread, State, with_thread}
use Rattle.machine_model.specs.LocalStep.{instruction_at}
use Rattle.machine_model.specs.Deed.{Deed, blocked, does, wrong, Running, ◌>>=◌, world_of, operands, with_frames, has_room}
use Rattle.machine_model.specs.Monitors.{illegal_monitor_state}
use Rattle.machine_model.specs.Throwing.{is_synchronized_frame, owns, left_by}
use Rattle.machine_model.specs.CallSteps.{argument_words, first_locals, new_frame, waits, entered_by}

-- what a method that a thread starts with is called on: main's array is the first object
abbrev pub start_arguments : ℕ → List Value
start_arguments places = if places == 1 then reference 0 ∷ [] else []

abbrev pub found_method : MemberReference → Method → Found Method
found_method m method = record { class = m.class; member = method }

-- the thread with its next method as its only frame
abbrev pub started_with : MemberReference → List MemberReference → List Value → Thread → Thread
started_with m rest locals th = record th { frames = new_frame m None locals ∷ []; to_start = rest }

-- Thread t goes on with its next method, as a static one, or has ended.
abbrev pub starts_next : ℕ → State → List MemberReference → Deed
starts_next t state [] = does 0 true (with_thread t (λ (th : Thread). record th { frames = [] }) state)
starts_next t state (m ∷ rest) = do
  method ← method_named state.world m
  body ← method.code
  places ← argument_words m
  locals ← first_locals body (start_arguments places)
  if waits t state (found_method m method) None then blocked
      else does 0 true (with_thread t (started_with m rest locals) (entered_by t (found_method m method) None state))

abbrev pub with_result : Option Value → List Value → List Value
with_result None rest = rest
with_result (Some value) rest = onto value rest

-- the methods that thread t is still to run
abbrev pub methods_to_start : State → ℕ → List MemberReference
methods_to_start state t = flat_map (λ (th : Thread). th.to_start) (option_to_list (slice_get state.threads t))

-- the caller goes on behind its call with the result
abbrev pub returns_to : Running → State → Option Value → Frame → List Frame → Deed
returns_to running state result frame callers = do
  body ← body_of state.world frame.method
  placed ← instruction_at body frame.pc
  if has_room body frame.stack (with_result result frame.stack)
      then does 0 true
      (with_frames running (record frame { pc = placed.next; stack = with_result result frame.stack } ∷ callers) state)
      else wrong

abbrev pub leaves : Running → State → Option Value → List Frame → Deed
leaves running state result (caller ∷ callers) = returns_to running state result caller callers
leaves running state result [] = starts_next running.thread state (methods_to_start state running.thread)

-- The monitor of a synchronized method is left once; a thread that doesn't own it throws.
abbrev pub return_with : Running → Option Value → Deed
return_with running result =
    if is_synchronized_frame (world_of running) running.frame && not (owns running.thread running.state running.frame)
    then illegal_monitor_state
    else leaves running (left_by running.thread running.frame running.state) result running.callers

abbrev pub return_of : Running → ValueKind → Deed
return_of running kind = taken_of kind (operands running) >>= λ taken. return_with running (Some taken.value)
