-- What calls, returns and native methods leave within reach.
use Rattle.std.proofs.Common.{ℕ, ◌+◌, ◌-◌, Bool, true, false, cond, List, [], ◌∷◌, ◌++◌, length, Option, Some, None, take, drop, reverse}
use Rattle.std.specs.Prelude.{IfSome, nat_le, not, ◌&&◌, ◌==◌, pos, int_le, unsigned_abs, codes, slice_get, replicate}
use Rattle.std.specs.Fmt.{signed_decimal}
use Rattle.jv_model.specs.Limits.{most_threads}
use Rattle.jv_model.specs.Operand.{MemberReference, Operand}
use Rattle.jv_model.specs.Instruction.{ValueKind}
use Rattle.jv_model.specs.Code.{Body}
use Rattle.world_model.specs.World.{Method, has_flag, acc_abstract, is_static_method}
use Rattle.world_model.specs.Members.{method_named, body_of}
use Rattle.world_model.specs.Supertypes.{is_sub, chain}
use Rattle.world_model.specs.LookUp.{Found, method_found}
use Rattle.world_model.specs.Resolution.{resolved_method, class_with_methods}
use Rattle.world_model.specs.Selection.{select_in, selected, specially_selected}
use Rattle.machine_model.specs.Value.{Value, int, long, half, null, reference, taken_of}
use Rattle.machine_model.specs.Heap.{string, contents_at}
use Rattle.machine_model.specs.State.{Frame, Thread, State}
use Rattle.machine_model.specs.Branches.{same_reference}
use Rattle.machine_model.specs.LocalStep.{instruction_at}
use Rattle.machine_model.specs.Printing.{printed}
use Rattle.machine_model.specs.FieldSteps.{field_at, with_field_at}
use Rattle.machine_model.specs.Deed.{Deed, blocked, is_deep, is_crowded, is_full, wrong, Running, has_room, class_of}
use Rattle.machine_model.specs.Monitors.{is_synchronized, held_by, illegal_monitor_state}
use Rattle.machine_model.specs.Throwing.{is_synchronized_frame, owns, left_by}
use Rattle.machine_model.specs.CallSteps.{argument_words, fits_stack, first_locals, new_frame, waits, entered_by, calling, call_code}
use Rattle.machine_model.specs.ReturnSteps.{start_arguments, found_method, started_with, starts_next, with_result, methods_to_start, returns_to, leaves, return_with, return_of}
use Rattle.machine_model.specs.ThreadNatives.{target_field, number_field, run_method, started_number, number_lives, join_thread, thread_with, starts_thread, starts_method, starts_target, classes_below_thread, starts, starts_once, start_thread}
use Rattle.machine_model.specs.Natives.{Native, native_of, does_nothing, same_object, string_length, string_char_at, string_equals, string_concat, string_value_of, sets_target, starts_a_thread, joins_a_thread, prints, sets_message, gets_message, requests_an_update}
use Rattle.machine_model.specs.NativeSteps.{message_field, gives, sets, units_at, char_at, concatenates, with_line_feed, writes, native_step}
use Rattle.machine_model.specs.InvokeSteps.{abstract_method, runs_code, runs, on_receiver, invoke_virtual, invoke_special, invoke_static, invoke_interface}
use Rattle.reach_laws.proofs.Lists.{all_append, all_take, all_drop, all_reversed, all_replicate, all_get, if_test}
use Rattle.reach_laws.proofs.Holding.{MayReach, Names, Holds, HeldIn, FrameIn, FramesIn, ThreadIn, Within, onto_in}
use Rattle.reach_laws.proofs.Changes.{entered_within, left_within, field_within, field_set_within, output_within, request_within, threads_within, thread_within}
use Rattle.reach_laws.proofs.Going.{WithinIn, Here, in_bind, in_given, in_test, in_object, in_frames, in_finishes, in_allocates, TakenIn, taken_in}

-- ---- frames of methods

-- the arguments as the first locals
locals_in : (before : State) (body : Body Operand) (arguments : List Value) → Holds before arguments
    → IfSome (first_locals body arguments) (Holds before)
locals_in before body arguments holds =
    if_test (Holds before) (nat_le (length arguments) body.max_locals) (arguments ++ replicate (body.max_locals - length arguments) (int (pos 0)))
    (all_append (Names before) arguments (replicate (body.max_locals - length arguments) (int (pos 0))) holds (all_replicate (Names before) (body.max_locals - length arguments) (int (pos 0)) tt))

held_in : (before : State) (method : Method) (receiver : Option ℕ) → HeldIn before receiver → HeldIn before (held_by method receiver)
held_in before method receiver held = go (is_synchronized method) (is_static_method method)
  where
    go : (synchronized static : Bool) → HeldIn before (cond synchronized (cond static None receiver) None)
    go true true = tt
    go true false = held
    go false static = tt

begun_in : (before : State) (m : MemberReference) (held : Option ℕ) (locals : List Value) → HeldIn before held → Holds before locals
    → FrameIn before (new_frame m held locals)
begun_in before m held locals receiver holds = record { held = receiver; locals = holds; stack = tt }

-- ---- threads that go on with their next method

arguments_in : (before : State) (places : ℕ) → MayReach before 0 → Holds before (start_arguments places)
arguments_in before places first = go (places == 1)
  where
    go : (b : Bool) → Holds before (cond b (reference 0 ∷ []) [])
    go true = (first, tt)
    go false = tt

starts_next_in : (before : State) (t : ℕ) (state : State) (methods : List MemberReference) → Within before state
    → WithinIn before (starts_next t state methods)
starts_next_in before t state [] within = thread_within before state within t (λ (th : Thread). record th { frames = [] }) (λ th h. tt)
starts_next_in before t state (m ∷ rest) within =
    in_bind before (method_named state.world m) _ λ method _.
    in_bind before method.code _ λ body _.
    in_bind before (argument_words m) _ λ places _.
    in_given before (Holds before) (first_locals body (start_arguments places)) _ (locals_in before body (start_arguments places) (arguments_in before places within.first)) λ locals holds.
    in_test before (waits t state (found_method m method) None) blocked _ tt
    (thread_within before (entered_by t (found_method m method) None state) (entered_within before state within t (found_method m method) None) t (started_with m rest locals)
    (λ th h. (begun_in before m None locals tt holds, tt)))

result_in : (before : State) (result : Option Value) (rest : List Value) → IfSome result (Names before) → Holds before rest
    → Holds before (with_result result rest)
result_in before None rest given holds = holds
result_in before (Some value) rest given holds = onto_in before value rest given holds

module _ (before : State) (r : Running) (here : Here before r) where
  -- ---- calls of code

  call_code_in : (found : Found Method) (body : Body Operand) (places : ℕ) (receiver : Option ℕ) → HeldIn before receiver
      → WithinIn before (call_code r found body places receiver)
  call_code_in found body places receiver held =
      in_test before (waits r.thread r.state found receiver) blocked _ tt
      (in_test before (not (fits_stack r.state.world body (r.frame ∷ r.callers))) is_deep _ tt
      (in_given before (Holds before) (first_locals body (reverse (take places r.frame.stack))) _
      (locals_in before body (reverse (take places r.frame.stack)) (all_reversed (Names before) (take places r.frame.stack) (all_take (Names before) places r.frame.stack here.frame.stack)))
      λ locals holds.
      in_frames before r (new_frame (method_found found) (held_by found.member receiver) locals ∷ calling r places ∷ r.callers) (entered_by r.thread found receiver r.state)
      (begun_in before (method_found found) (held_by found.member receiver) locals (held_in before found.member receiver held) holds, (called, here.callers))
      (entered_within before r.state here.start r.thread found receiver)))
    where
      called : FrameIn before (calling r places)
      called = record { held = here.frame.held; locals = here.frame.locals; stack = all_drop (Names before) places r.frame.stack here.frame.stack }

  -- ---- returns

  returns_in : (state : State) (result : Option Value) (frame : Frame) (callers : List Frame) → Within before state
      → IfSome result (Names before) → FrameIn before frame → FramesIn before callers
      → WithinIn before (returns_to r state result frame callers)
  returns_in state result frame callers within given is all =
      in_bind before (body_of state.world frame.method) _ λ body _.
      in_bind before (instruction_at body frame.pc) _ λ placed _.
      in_test before (has_room body frame.stack (with_result result frame.stack)) _ wrong
      (in_frames before r (record frame { pc = placed.next; stack = with_result result frame.stack } ∷ callers) state
      (record { held = is.held; locals = is.locals; stack = result_in before result frame.stack given is.stack }, all) within) tt

  leaves_in : (state : State) (result : Option Value) (callers : List Frame) → Within before state → IfSome result (Names before)
      → FramesIn before callers → WithinIn before (leaves r state result callers)
  leaves_in state result (caller ∷ callers) within given all = returns_in state result caller callers within given all.0 all.1
  leaves_in state result [] within given all = starts_next_in before r.thread state (methods_to_start state r.thread) within

  pub return_with_in : (result : Option Value) → IfSome result (Names before) → WithinIn before (return_with r result)
  return_with_in result given =
      in_test before (is_synchronized_frame r.state.world r.frame && not (owns r.thread r.state r.frame)) illegal_monitor_state _ tt
      (leaves_in (left_by r.thread r.frame r.state) result r.callers (left_within before r.state here.start r.thread r.frame) given here.callers)

  pub return_of_in : (kind : ValueKind) → WithinIn before (return_of r kind)
  return_of_in kind =
      in_given before (TakenIn before) (taken_of kind r.frame.stack) _ (taken_in before kind r.frame.stack here.frame.stack) λ taken is.
      return_with_in (Some taken.value) is.value

  -- ---- threads

  join_thread_in : (id : ℕ) (rest : List Value) → Holds before rest → WithinIn before (join_thread r id rest)
  join_thread_in id rest holds =
      in_bind before (started_number r.state id) _ λ number _.
      in_test before (number_lives r.state number) blocked _ tt (in_finishes before r here 0 true r.state rest here.start holds)

  starts_thread_in : (id : ℕ) (frames : List Frame) (enter : State → State) (rest : List Value) → MayReach before id
      → FramesIn before frames → ((state : State) → Within before state → Within before (enter state)) → Holds before rest
      → WithinIn before (starts_thread r id frames enter rest)
  starts_thread_in id frames enter rest may all enters holds =
      in_test before (nat_le most_threads (length r.state.threads)) is_crowded _ tt
      (in_given before (Within before) (with_field_at r.state id number_field (int (pos (length r.state.threads)))) _
      (field_set_within before r.state here.start id number_field (int (pos (length r.state.threads))) may tt) λ state within.
      in_finishes before r here 0 true (enter (record state { threads = r.state.threads ++ thread_with frames ∷ [] })) rest
      (enters (record state { threads = r.state.threads ++ thread_with frames ∷ [] })
      (threads_within before state within (r.state.threads ++ thread_with frames ∷ []) (all_append (ThreadIn before) r.state.threads (thread_with frames ∷ []) here.start.threads (all, tt)))) holds)

  starts_method_in : (id receiver : ℕ) (rest : List Value) (found : Option (Found Method)) → MayReach before id → MayReach before receiver
      → Holds before rest → WithinIn before (starts_method r id receiver rest found)
  starts_method_in id receiver rest None may on holds = tt
  starts_method_in id receiver rest (Some found) may on holds =
      in_test before (has_flag acc_abstract found.member.flags) _ _ tt
      (in_test before (waits (length r.state.threads) r.state found (Some receiver)) blocked _ tt
      (in_bind before found.member.code _ λ body _.
      in_given before (Holds before) (first_locals body (reference receiver ∷ [])) _ (locals_in before body (reference receiver ∷ []) (on, tt)) λ locals all.
      starts_thread_in id (new_frame (method_found found) (held_by found.member (Some receiver)) locals ∷ [])
      (entered_by (length r.state.threads) found (Some receiver)) rest may
      (begun_in before (method_found found) (held_by found.member (Some receiver)) locals (held_in before found.member (Some receiver) on) all, tt)
      (λ state within. entered_within before state within (length r.state.threads) found (Some receiver)) holds))

  starts_target_in : (id : ℕ) (rest : List Value) (target : Value) → MayReach before id → Names before target → Holds before rest
      → WithinIn before (starts_target r id rest target)
  starts_target_in id rest null may names holds = starts_thread_in id [] (λ state. state) rest may tt (λ state within. within) holds
  starts_target_in id rest (reference target) may names holds =
      in_bind before (class_of r.state target) _ λ class _.
      in_test before (is_sub r.state.world class (codes "java/lang/Runnable")) _ _
      (starts_method_in id target rest (select_in r.state.world (run_method class) (chain r.state.world class)) may names holds) tt
  starts_target_in id rest (int n) may names holds = tt
  starts_target_in id rest (long n) may names holds = tt
  starts_target_in id rest half may names holds = tt

  starts_in : (id : ℕ) (rest : List Value) (class : List ℕ) (found : Option (Found Method)) → MayReach before id → Holds before rest
      → WithinIn before (starts r id rest class found)
  starts_in id rest class (Some found) may holds = starts_method_in id id rest (Some found) may may holds
  starts_in id rest class None may holds =
      in_given before (Names before) (field_at r.state id target_field) _ (field_within before r.state here.start id target_field may) λ target names.
      starts_target_in id rest target may names holds

  starts_once_in : (id : ℕ) (rest : List Value) (number : Option ℕ) → MayReach before id → Holds before rest
      → WithinIn before (starts_once r id rest number)
  starts_once_in id rest (Some number) may holds = tt
  starts_once_in id rest None may holds =
      in_bind before (class_of r.state id) _ λ class _.
      starts_in id rest class (select_in r.state.world (run_method class) (classes_below_thread r.state.world class)) may holds

  start_thread_in : (id : ℕ) (rest : List Value) → MayReach before id → Holds before rest → WithinIn before (start_thread r id rest)
  start_thread_in id rest may holds = in_bind before (started_number r.state id) _ λ number _. starts_once_in id rest number may holds

  -- ---- native methods

  gives_in : (value : Value) (rest : List Value) → Names before value → Holds before rest → WithinIn before (gives r value rest)
  gives_in value rest names holds = in_finishes before r here 0 true r.state (value ∷ rest) here.start (names, holds)

  sets_in : (id : ℕ) (field : MemberReference) (value : Value) (rest : List Value) → MayReach before id → Names before value
      → Holds before rest → WithinIn before (sets r id field value rest)
  sets_in id field value rest may names holds =
      in_test before _ _ wrong
      (in_given before (Within before) (with_field_at r.state id field value) _ (field_set_within before r.state here.start id field value may names) λ state within.
      in_finishes before r here 0 true state rest within holds) tt

  char_at_in : (rest : List Value) (found : Option ℕ) → Holds before rest → WithinIn before (char_at r rest found)
  char_at_in rest None holds = tt
  char_at_in rest (Some unit) holds = gives_in (int (pos unit)) rest tt holds

  concatenates_in : (id : ℕ) (first second : List ℕ) (rest : List Value) → MayReach before id → Holds before rest
      → WithinIn before (concatenates r id first second rest)
  concatenates_in id first [] rest may holds = gives_in (reference id) rest may holds
  concatenates_in id first (unit ∷ units) rest may holds = in_allocates before r here true (string (first ++ unit ∷ units)) rest tt holds

  writes_in : (bytes : List ℕ) (rest : List Value) → Holds before rest → WithinIn before (writes r bytes rest)
  writes_in bytes rest holds =
      in_test before _ _ is_full
      (in_finishes before r here 0 true (record r.state { output = r.state.output ++ bytes }) rest (output_within before r.state here.start (r.state.output ++ bytes)) holds) tt

  native_step_in : (native : Native) (arguments rest : List Value) → Holds before arguments → Holds before rest
      → WithinIn before (native_step r native arguments rest)
  unfolding native_step
  native_step_in does_nothing arguments rest are holds = in_finishes before r here 0 true r.state rest here.start holds
  native_step_in same_object (a ∷ b ∷ []) rest are holds = in_bind before (same_reference a b) _ λ same _. gives_in _ rest tt holds
  native_step_in string_length (reference id ∷ []) rest are holds = in_bind before (units_at r id) _ λ units _. gives_in (int (pos (length units))) rest tt holds
  native_step_in string_char_at (reference id ∷ int index ∷ []) rest are holds =
      in_bind before (units_at r id) _ λ units _. char_at_in rest (cond (int_le (pos 0) index) (slice_get units (unsigned_abs index)) None) holds
  native_step_in string_equals (reference id ∷ null ∷ []) rest are holds = gives_in _ rest tt holds
  native_step_in string_equals (reference id ∷ reference other ∷ []) rest are holds =
      in_bind before (units_at r id) _ λ units _. in_bind before (contents_at r.state.heap other) _ λ contents _. gives_in _ rest tt holds
  native_step_in string_concat (reference id ∷ null ∷ []) rest are holds = tt
  native_step_in string_concat (reference id ∷ reference other ∷ []) rest are holds =
      in_bind before (units_at r id) _ λ first _. in_bind before (units_at r other) _ λ second _. concatenates_in id first second rest are.0 holds
  native_step_in string_value_of (int n ∷ []) rest are holds = in_allocates before r here true (string (signed_decimal n)) rest tt holds
  native_step_in sets_target (reference id ∷ target ∷ []) rest are holds = sets_in id target_field target rest are.0 are.1.0 holds
  native_step_in starts_a_thread (reference id ∷ []) rest are holds = start_thread_in id rest are.0 holds
  native_step_in joins_a_thread (reference id ∷ []) rest are holds = join_thread_in id rest holds
  native_step_in (prints line printable) (receiver ∷ arguments) rest are holds =
      in_bind before (printed r.state printable arguments) _ λ bytes _. writes_in (with_line_feed line bytes) rest holds
  native_step_in sets_message (reference id ∷ message ∷ []) rest are holds = sets_in id message_field message rest are.0 are.1.0 holds
  native_step_in gets_message (reference id ∷ []) rest are holds =
      in_given before (Names before) (field_at r.state id message_field) _ (field_within before r.state here.start id message_field are.0) λ message names.
      gives_in message rest names holds
  native_step_in requests_an_update [] rest are holds =
      in_finishes before r here 0 true (record r.state { requests = r.state.requests + 1 }) rest (request_within before r.state here.start) holds
  native_step_in native arguments rest are holds = tt

  -- ---- invocations

  runs_in : (places : ℕ) (receiver : Option ℕ) (found : Option (Found Method)) → HeldIn before receiver
      → WithinIn before (runs r places receiver found)
  runs_in places receiver None held = tt
  runs_in places receiver (Some found) held =
      in_test before (has_flag acc_abstract found.member.flags) abstract_method _ tt (go found.member.code)
    where
      go : (code : Option (Body Operand)) → WithinIn before (runs_code r found places receiver code)
      go (Some body) = call_code_in found body places receiver held
      go None =
          in_bind before (native_of (method_found found)) _ λ native _.
          native_step_in native (reverse (take places r.frame.stack)) (drop places r.frame.stack)
          (all_reversed (Names before) (take places r.frame.stack) (all_take (Names before) places r.frame.stack here.frame.stack))
          (all_drop (Names before) places r.frame.stack here.frame.stack)

  receiver_in : (words : ℕ) (next : ℕ → Deed) → ((id : ℕ) → MayReach before id → WithinIn before (next id))
      → WithinIn before (on_receiver r words next)
  receiver_in words next each =
      in_given before (Names before) (slice_get r.frame.stack words) _ (all_get (Names before) r.frame.stack words here.frame.stack) λ receiver names.
      in_object before receiver next names each

  pub invoke_virtual_in : (m : MemberReference) → WithinIn before (invoke_virtual r m)
  invoke_virtual_in m =
      in_bind before (resolved_method false r.state.world m) _ λ found _.
      in_bind before (argument_words m) _ λ words _.
      receiver_in words _ λ id may.
      in_bind before (class_of r.state id) _ λ class _. runs_in (words + 1) (Some id) (selected r.state.world found m class) may

  pub invoke_special_in : (m : MemberReference) → WithinIn before (invoke_special r m)
  invoke_special_in m =
      in_bind before (resolved_method false r.state.world m) _ λ found _.
      in_bind before (argument_words m) _ λ words _.
      receiver_in words _ λ id may.
      runs_in (words + 1) (Some id) (specially_selected r.state.world r.frame.method.class found m) may

  pub invoke_static_in : (m : MemberReference) → WithinIn before (invoke_static r m)
  invoke_static_in m =
      in_bind before (resolved_method true r.state.world m) _ λ found _.
      in_bind before (argument_words m) _ λ words _. runs_in words None (Some found) tt

  pub invoke_interface_in : (m : MemberReference) → WithinIn before (invoke_interface r m)
  invoke_interface_in m =
      in_bind before (resolved_method false r.state.world m) _ λ found _.
      in_bind before (argument_words m) _ λ words _.
      receiver_in words _ λ id may.
      in_bind before (class_of r.state id) _ λ class _.
      in_test before (is_sub r.state.world class (class_with_methods m.class)) _ _ (runs_in (words + 1) (Some id) (selected r.state.world found m class) may) tt
