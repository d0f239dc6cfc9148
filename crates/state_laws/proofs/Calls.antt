-- What calls, returns and native methods leave is well kept.
use Rattle.std.proofs.Common.{◌≡◌, ℕ, suc, ◌+◌, Bool, true, false, cond, List, [], ◌∷◌, ◌++◌, length, Option, Some, None, refl, sym, ap, subst, ◌∙◌, arith, map, append-nil, length-append}
use Rattle.std.specs.Prelude.{nat_le, nat_lt, not, find, ◌&&◌, ◌||◌, ◌==◌, pos, is_none, option_map, option_and_then, option_to_list, flat_map, unwrap_or, sum, take, reverse, bytes_eq}
use Rattle.std.specs.Bool.{beq}
use Rattle.std.specs.List.{list_any}
use Rattle.std.proofs.lemmas.Bool.{and_parts, le-leb, leb-true, lt-ltb, ltb-true}
use Rattle.std.proofs.lemmas.Option.{slice_get_within}
use Rattle.jv_model.specs.Limits.{most_threads, most_frames, most_frame_words, most_stack_words, most_output_bytes}
use Rattle.jv_model.specs.Operand.{MemberReference, Operand}
use Rattle.jv_model.specs.Instruction.{ValueKind}
use Rattle.jv_model.specs.Code.{Body}
use Rattle.world_model.specs.World.{World, Class, Method, has_flag, acc_abstract, class_in, declared_method, is_static_method}
use Rattle.world_model.specs.BootNames.{is_constructor_name}
use Rattle.world_model.specs.Members.{method_named}
use Rattle.world_model.specs.LookUp.{Found, member_in, found_or, first_declared, method_found, find_method}
use Rattle.world_model.specs.Supertypes.{method_order, chain}
use Rattle.world_model.specs.Resolution.{resolved_method, class_with_methods}
use Rattle.world_model.specs.Selection.{is_private, selectable, select_in, selected_from, selected, specially_selected, classes_above}
use Rattle.machine_model.specs.Value.{Value, int, null, reference}
use Rattle.machine_model.specs.State.{Frame, Thread, State, with_thread}
use Rattle.machine_model.specs.Deed.{does, blocked, is_crowded, is_deep, is_full, Running, ◌>>=◌, finishes, with_frames}
use Rattle.machine_model.specs.Heap.{Contents, contents_at, with_contents}
use Rattle.machine_model.specs.FieldSteps.{with_field, with_field_at}
use Rattle.machine_model.specs.Monitors.{held_by, illegal_monitor_state}
use Rattle.machine_model.specs.Throwing.{is_synchronized_frame, owns, left_by}
use Rattle.machine_model.specs.CallSteps.{body_words, frame_words, fits_stack, first_locals, new_frame, waits, calling, call_code, entered_by}
use Rattle.machine_model.specs.ReturnSteps.{starts_next, started_with, methods_to_start, leaves, return_with, return_of}
use Rattle.machine_model.specs.ThreadNatives.{number_field, join_thread, thread_with, starts_thread, starts_method, starts_target, starts, starts_once, start_thread}
use Rattle.machine_model.specs.Natives.{Native, does_nothing, same_object, string_length, string_char_at, string_equals, string_concat, string_value_of, sets_target, starts_a_thread, joins_a_thread, prints, sets_message, gets_message, requests_an_update}
use Rattle.machine_model.specs.NativeSteps.{sets, char_at, concatenates, writes, native_step}
use Rattle.machine_model.specs.InvokeSteps.{abstract_method, runs_code, runs, invoke_virtual, invoke_special, invoke_static, invoke_interface}
use Rattle.machine_model.specs.WellKept.{frames_fit, ended_rightly, WellKept}
use Rattle.link_laws.proofs.Names.{same_text}
use Rattle.frame_laws.proofs.Outcome.{both, bind_is, map_is, some_inj}
use Rattle.run_laws.proofs.Keeping.{slice_get-append}
use Rattle.state_laws.specs.Laws.{FramesFit, KeptIn}
use Rattle.state_laws.proofs.Changes.{thread_kept, started_kept, sum_first}
use Rattle.state_laws.proofs.Going.{Mid, Here, same, is_within, mid_output, mid_request, mid_entered, mid_left, alive_rightly, callers_fit, fits_now, none_thrown, frames_kept, in_bind, in_bind_is, in_test, in_test_is, in_object, in_finishes, in_allocates}
use Rattle.state_laws.proofs.Families.{field_set}

abbrev MidOf : (r : Running) → Here r → State → Type 0
MidOf r here state = Mid r.state.world r.thread here.th state

-- ---- methods that are found

-- A method that was found is the one that its class declares.
abbrev pub IsNamed : World → Found Method → Type 0
IsNamed world found = method_named world (method_found found) ≡ Some found.member

-- what is declared in a class is declared there by its own name and descriptor
abbrev DeclaresItself : (Class → Option Method) → Type 0
DeclaresItself declared = (c : Class) (m : Method) → declared c ≡ Some m → declared_method m.name m.descriptor c ≡ Some m

first_is_named : (declared : Class → Option Method) → DeclaresItself declared → (world : World) (names : List (List ℕ)) (found : Found Method)
    → first_declared declared world names ≡ Some found → IsNamed world found
unfolding first_declared
first_is_named declared itself world [] found h = absurd cc
first_is_named declared itself world (name ∷ names) found h =
    go (class_in world name) refl h (λ k. first_is_named declared itself world names found k)
  where
    here : (c : Class) (o : Option Method) → class_in world name ≡ Some c → declared c ≡ o
        → found_or name o (first_declared declared world names) ≡ Some found
        → (first_declared declared world names ≡ Some found → IsNamed world found) → IsNamed world found
    here c (Some m) there is h rest =
        subst (IsNamed world) (some_inj h) (ap (option_and_then (declared_method m.name m.descriptor)) there ∙ itself c m is)
    here c None there is h rest = rest h

    go : (o : Option Class) → class_in world name ≡ o → found_or name (member_in declared o) (first_declared declared world names) ≡ Some found
        → (first_declared declared world names ≡ Some found → IsNamed world found) → IsNamed world found
    go None there h rest = rest h
    go (Some c) there h rest = here c (declared c) there refl h rest

-- what is found passes
found_is : {A : Type 0} (test : A → Bool) (xs : List A) (x : A) → find test xs ≡ Some x → test x ≡ true
found_is test [] x h = absurd cc
found_is test (y ∷ ys) x h = go (test y) refl h (λ k. found_is test ys x k)
  where
    go : (b : Bool) → test y ≡ b → cond b (Some y) (find test ys) ≡ Some x → (find test ys ≡ Some x → test x ≡ true) → test x ≡ true
    go true is h rest = sym (ap test (some_inj h)) ∙ is
    go false is h rest = rest h

declares_itself : (name descriptor : List ℕ) → DeclaresItself (declared_method name descriptor)
declares_itself name descriptor c m h =
    let p = and_parts (bytes_eq m.name name) (bytes_eq m.descriptor descriptor) (found_is (λ (x : Method). bytes_eq x.name name && bytes_eq x.descriptor descriptor) c.methods m h) in
    subst (λ (n : List ℕ). declared_method n m.descriptor c ≡ Some m) (sym (same_text m.name name p.0))
    (subst (λ (d : List ℕ). declared_method name d c ≡ Some m) (sym (same_text m.descriptor descriptor p.1)) h)

resolved_is_named : (static : Bool) (world : World) (m : MemberReference) (found : Found Method)
    → resolved_method static world m ≡ Some found → IsNamed world found
resolved_is_named static world m found h =
    let b = bind_is (λ (found : Found Method). cond (beq (is_static_method found.member) static) (Some found) None) (find_method world (class_with_methods m.class) m.name m.descriptor) found h in
    let is = first_is_named (declared_method m.name m.descriptor) (declares_itself m.name m.descriptor) world (method_order world (class_with_methods m.class)) b.0 b.1 in
    go (beq (is_static_method b.0.member) static) b.0 is b.2
  where
    go : (test : Bool) (other : Found Method) → IsNamed world other → cond test (Some other) None ≡ Some found → IsNamed world found
    go true other is h = subst (IsNamed world) (some_inj h) is
    go false other is h = absurd cc

selectable_itself : (m : MemberReference) → DeclaresItself (selectable m)
selectable_itself m c method h =
    let b = bind_is (λ (method : Method). cond (is_static_method method || is_private method) None (Some method)) (declared_method m.name m.descriptor c) method h in
    go (is_static_method b.0 || is_private b.0) b.0 (declares_itself m.name m.descriptor c b.0 b.1) b.2
  where
    go : (test : Bool) (other : Method) → declared_method other.name other.descriptor c ≡ Some other → cond test None (Some other) ≡ Some method
        → declared_method method.name method.descriptor c ≡ Some method
    go true other is h = absurd cc
    go false other is h = subst (λ (x : Method). declared_method x.name x.descriptor c ≡ Some x) (some_inj h) is

select_is_named : (world : World) (m : MemberReference) (classes : List (List ℕ)) (found : Found Method)
    → select_in world m classes ≡ Some found → IsNamed world found
select_is_named world m classes found h = first_is_named (selectable m) (selectable_itself m) world classes found h

selected_is_named : (world : World) (resolved : Found Method) (m : MemberReference) (classes : List (List ℕ)) (found : Found Method)
    → IsNamed world resolved → selected_from world resolved m classes ≡ Some found → IsNamed world found
selected_is_named world resolved m classes found is h = go (is_private resolved.member) h
  where
    go : (test : Bool) → cond test (Some resolved) (select_in world m classes) ≡ Some found → IsNamed world found
    go true h = subst (IsNamed world) (some_inj h) is
    go false h = select_is_named world m classes found h

specially_is_named : (world : World) (current : List ℕ) (resolved : Found Method) (m : MemberReference) (found : Found Method)
    → IsNamed world resolved → specially_selected world current resolved m ≡ Some found → IsNamed world found
specially_is_named world current resolved m found is h = go (not (is_constructor_name m.name) && list_any (bytes_eq resolved.class) (classes_above world current)) h
  where
    go : (test : Bool) → cond test (selected_from world resolved m (classes_above world current)) (Some resolved) ≡ Some found → IsNamed world found
    go true h = selected_is_named world resolved m (classes_above world current) found is h
    go false h = subst (IsNamed world) (some_inj h) is

-- ---- calls of code

-- where the frames and the words fit, a new frame on these does
call_fits : (r : Running) (found : Found Method) (body : Body Operand) (places : ℕ) (held : Option ℕ) (locals : List Value)
    → IsNamed r.state.world found → found.member.code ≡ Some body → fits_stack r.state.world body (r.frame ∷ r.callers) ≡ true
    → frames_fit r.state.world (new_frame (method_found found) held locals ∷ calling r places ∷ r.callers) ≡ true
call_fits r found body places held locals is code h =
    let p = and_parts (nat_lt (length (r.frame ∷ r.callers)) most_frames) (nat_le (body_words body + sum (map (frame_words r.state.world) (r.frame ∷ r.callers))) most_stack_words) h in
    let words : frame_words r.state.world (new_frame (method_found found) held locals) ≡ body_words body =
    ap (λ (o : Option Method). unwrap_or (option_map body_words (option_and_then (λ (method : Method). method.code) o)) 0) is ∙ ap (λ (o : Option (Body Operand)). unwrap_or (option_map body_words o) 0) code in
    both (nat_le (length (new_frame (method_found found) held locals ∷ calling r places ∷ r.callers)) most_frames)
    (nat_le (sum (map (frame_words r.state.world) (new_frame (method_found found) held locals ∷ calling r places ∷ r.callers))) most_stack_words)
    (le-leb (suc (length (r.frame ∷ r.callers))) most_frames (ltb-true (length (r.frame ∷ r.callers)) most_frames p.0))
    (ap (λ (n : ℕ). nat_le n most_stack_words) (sum_first (frame_words r.state.world (new_frame (method_found found) held locals)) (map (frame_words r.state.world) (r.frame ∷ r.callers)) ∙ ap (λ (n : ℕ). n + sum (map (frame_words r.state.world) (r.frame ∷ r.callers))) words) ∙ p.1)

call_code_kept : (r : Running) (here : Here r) (found : Found Method) (body : Body Operand) (places : ℕ) (receiver : Option ℕ)
    → IsNamed r.state.world found → found.member.code ≡ Some body → KeptIn (call_code r found body places receiver)
call_code_kept r here found body places receiver is code =
    in_test (waits r.thread r.state found receiver) blocked _ tt (room (fits_stack r.state.world body (r.frame ∷ r.callers)) refl)
  where
    room : (b : Bool) → fits_stack r.state.world body (r.frame ∷ r.callers) ≡ b
        → KeptIn (cond (not b) is_deep (first_locals body (reverse (take places r.frame.stack)) >>= λ locals.
        does 0 true (with_frames r (new_frame (method_found found) (held_by found.member receiver) locals ∷ calling r places ∷ r.callers) (entered_by r.thread found receiver r.state))))
    room false h = tt
    room true h =
        in_bind (first_locals body (reverse (take places r.frame.stack))) (λ locals. does 0 true (with_frames r (new_frame (method_found found) (held_by found.member receiver) locals ∷ calling r places ∷ r.callers) (entered_by r.thread found receiver r.state))) (λ locals.
        frames_kept r here (new_frame (method_found found) (held_by found.member receiver) locals) (calling r places ∷ r.callers)
        (entered_by r.thread found receiver r.state)
        (mid_entered r.state.world r.thread here.th r.state here.start r.thread found receiver (is_within r.state.world r.thread here.th r.state here.start))
        (call_fits r found body places (held_by found.member receiver) locals is code h))

-- ---- returns

-- one frame fits by itself
pub alone_fits : (world : World) → FramesFit world → (frame : Frame) → frames_fit world (frame ∷ []) ≡ true
alone_fits world small frame =
    let few = leb-true (frame_words world frame) most_frame_words (small frame) in
    both (nat_le (length (frame ∷ [])) most_frames) (nat_le (sum (map (frame_words world) (frame ∷ []))) most_stack_words) refl
    (ap (λ (n : ℕ). nat_le n most_stack_words) (sum_first (frame_words world frame) []) ∙ le-leb (frame_words world frame + 0) most_stack_words (omega arith))

-- a thread begins a method
method_begun : (world : World) (t : ℕ) (th : Thread) (state : State) (m : MemberReference) (rest : List MemberReference)
    (found : Found Method) (locals : List Value) → FramesFit world → Mid world t th state → is_none th.thrown ≡ true
    → WellKept (with_thread t (started_with m rest locals) (entered_by t found None state))
method_begun world t th state m rest found locals small mid none =
    let entered = mid_entered world t th state mid t found None (is_within world t th state mid) in
    thread_kept (entered_by t found None state) t (started_with m rest locals) th entered.at
    (ap (λ (w : World). frames_fit w (new_frame m None locals ∷ [])) entered.same_world ∙ alone_fits world small (new_frame m None locals))
    (alive_rightly (started_with m rest locals th) (new_frame m None locals) [] refl none) entered.kept

-- a thread that goes on with its next method, or ends
pub starts_next_kept : (world : World) (t : ℕ) (th : Thread) (state : State) (methods : List MemberReference) → FramesFit world
    → Mid world t th state → is_none th.thrown ≡ true → th.to_start ≡ methods → KeptIn (starts_next t state methods)
starts_next_kept world t th state [] small mid none are =
    thread_kept state t (λ (th : Thread). record th { frames = [] }) th mid.at refl
    (ap (λ (ms : List MemberReference). length ms == 0) are) mid.kept
starts_next_kept world t th state (m ∷ rest) small mid none are =
    search (in_bind, in_test, method_begun world t th state m rest) depth 12

caller_kept : (r : Running) (here : Here r) (state : State) (caller : Frame) (callers : List Frame) (pc : ℕ) (stack : List Value)
    → MidOf r here state → frames_fit r.state.world (caller ∷ callers) ≡ true
    → WellKept (with_frames r (record caller { pc = pc; stack = stack } ∷ callers) state)
caller_kept r here state caller callers pc stack mid fit =
    frames_kept r here (record caller { pc = pc; stack = stack }) callers state mid fit

leaves_kept : (r : Running) (here : Here r) (state : State) (result : Option Value) (callers : List Frame) → MidOf r here state
    → frames_fit r.state.world callers ≡ true → KeptIn (leaves r state result callers)
leaves_kept r here state result (caller ∷ callers) mid fit = search (in_bind, in_test, caller_kept r here) depth 12
leaves_kept r here state result [] mid fit =
    starts_next_kept r.state.world r.thread here.th state (methods_to_start state r.thread) here.small mid (none_thrown r here)
    (sym (ap (λ (o : Option Thread). flat_map (λ (th : Thread). th.to_start) (option_to_list o)) mid.at ∙ append-nil here.th.to_start))

pub return_with_kept : (r : Running) (here : Here r) (result : Option Value) → KeptIn (return_with r result)
return_with_kept r here result =
    let left = mid_left r.state.world r.thread here.th r.state here.start r.thread r.frame in
    let fit = callers_fit r.state.world r.frame r.callers (fits_now r here) in
    in_test (is_synchronized_frame r.state.world r.frame && not (owns r.thread r.state r.frame)) illegal_monitor_state (leaves r (left_by r.thread r.frame r.state) result r.callers) tt
    (leaves_kept r here (left_by r.thread r.frame r.state) result r.callers left fit)

pub return_of_kept : (r : Running) (here : Here r) (kind : ValueKind) → KeptIn (return_of r kind)
return_of_kept r here kind = search (in_bind, return_with_kept)

-- ---- threads

join_thread_kept : (r : Running) (here : Here r) (id : ℕ) (rest : List Value) → KeptIn (join_thread r id rest)
join_thread_kept r here id rest = search (in_bind, in_test, in_finishes, same)

-- a thread that begins with one frame or with none
begins_rightly : (frames : List Frame) → ended_rightly (thread_with frames) ≡ true
begins_rightly frames = go (length frames == 0)
  where
    go : (b : Bool) → cond b true true ≡ true
    go true = refl
    go false = refl

-- the threads of a state that has those of the running one, and one more
grown : (r : Running) (here : Here r) (frames : List Frame) → frames_fit r.state.world frames ≡ true → (state : State)
    → state.threads ≡ r.state.threads → MidOf r here state → nat_le most_threads (length r.state.threads) ≡ false
    → MidOf r here (record state { threads = r.state.threads ++ thread_with frames ∷ [] })
grown r here frames fit state same mid room =
    subst (λ (ths : List Thread). MidOf r here (record state { threads = ths ++ thread_with frames ∷ [] })) same
    (record {
      kept = started_kept state (thread_with frames) (ap (λ (ths : List Thread). nat_le most_threads (length ths)) same ∙ room)
          (ap (λ (w : World). frames_fit w frames) mid.same_world ∙ fit) (begins_rightly frames) mid.kept;
      same_world = mid.same_world;
      at = slice_get-append state.threads (thread_with frames ∷ []) r.thread (slice_get_within state.threads r.thread here.th mid.at) ∙ mid.at;
    })

starts_thread_kept : (r : Running) (here : Here r) (id : ℕ) (frames : List Frame) (enter : State → State) (rest : List Value)
    → frames_fit r.state.world frames ≡ true
    → ((state : State) → nat_lt (length r.state.threads) (length state.threads) ≡ true → MidOf r here state → MidOf r here (enter state))
    → KeptIn (starts_thread r id frames enter rest)
starts_thread_kept r here id frames enter rest fit enters =
    in_test_is (nat_le most_threads (length r.state.threads)) is_crowded (found >>= λ state. finishes 0 true r (enter (added state)) rest) (λ full. tt) (λ room.
    in_bind_is found (λ state. finishes 0 true r (enter (added state)) rest) (λ state is.
    in_finishes r here 0 true (enter (added state)) rest (enters (added state) longer (of state is room))))
  where
    added : State → State
    added state = record state { threads = r.state.threads ++ thread_with frames ∷ [] }

    found : Option State
    found = with_field_at r.state id number_field (int (pos (length r.state.threads)))

    longer : nat_lt (length r.state.threads) (length (r.state.threads ++ thread_with frames ∷ [])) ≡ true
    longer = lt-ltb (length r.state.threads) (length (r.state.threads ++ thread_with frames ∷ []))
        (let same : length (r.state.threads ++ thread_with frames ∷ []) ≡ length r.state.threads + 1 = length-append r.state.threads (thread_with frames ∷ []) in omega arith)

    of : (state : State) → with_field_at r.state id number_field (int (pos (length r.state.threads))) ≡ Some state
        → nat_le most_threads (length r.state.threads) ≡ false → MidOf r here (record state { threads = r.state.threads ++ thread_with frames ∷ [] })
    of state is room =
        let c = map_is (λ (contents : Contents). record r.state { heap = with_contents id contents r.state.heap }) (option_and_then (with_field r.state.world number_field (int (pos (length r.state.threads)))) (contents_at r.state.heap id)) state is in
        grown r here frames fit state (ap (λ (s : State). s.threads) (sym c.2)) (field_set r here id number_field (int (pos (length r.state.threads))) state is) room

method_thread_kept : (r : Running) (here : Here r) (id receiver : ℕ) (rest : List Value) (found : Found Method) (locals : List Value)
    → KeptIn (starts_thread r id (new_frame (method_found found) (held_by found.member (Some receiver)) locals ∷ []) (entered_by (length r.state.threads) found (Some receiver)) rest)
method_thread_kept r here id receiver rest found locals =
    starts_thread_kept r here id (new_frame (method_found found) (held_by found.member (Some receiver)) locals ∷ [])
    (entered_by (length r.state.threads) found (Some receiver)) rest
    (alone_fits r.state.world here.small (new_frame (method_found found) (held_by found.member (Some receiver)) locals))
    (λ state longer mid. mid_entered r.state.world r.thread here.th state mid (length r.state.threads) found (Some receiver) longer)

starts_method_kept : (r : Running) (here : Here r) (id receiver : ℕ) (rest : List Value) (found : Option (Found Method))
    → KeptIn (starts_method r id receiver rest found)
starts_method_kept r here id receiver rest None = tt
starts_method_kept r here id receiver rest (Some found) = search (in_bind, in_test, method_thread_kept r here) depth 12

starts_target_kept : (r : Running) (here : Here r) (id : ℕ) (rest : List Value) (target : Value)
    → KeptIn (starts_target r id rest target)
starts_target_kept r here id rest null = starts_thread_kept r here id [] (λ state. state) rest refl (λ state longer mid. mid)
starts_target_kept r here id rest (reference target) = search (in_bind, in_test, starts_method_kept)
starts_target_kept r here id rest other = tt

starts_kept : (r : Running) (here : Here r) (id : ℕ) (rest : List Value) (class : List ℕ) (found : Option (Found Method))
    → KeptIn (starts r id rest class found)
starts_kept r here id rest class (Some found) = starts_method_kept r here id id rest (Some found)
starts_kept r here id rest class None = search (in_bind, starts_target_kept)

starts_once_kept : (r : Running) (here : Here r) (id : ℕ) (rest : List Value) (number : Option ℕ)
    → KeptIn (starts_once r id rest number)
starts_once_kept r here id rest (Some number) = tt
starts_once_kept r here id rest None = search (in_bind, starts_kept)

start_thread_kept : (r : Running) (here : Here r) (id : ℕ) (rest : List Value) → KeptIn (start_thread r id rest)
start_thread_kept r here id rest = search (in_bind, starts_once_kept)

-- ---- native methods

sets_kept : (r : Running) (here : Here r) (id : ℕ) (field : MemberReference) (value : Value) (rest : List Value)
    → KeptIn (sets r id field value rest)
sets_kept r here id field value rest = search (in_bind_is, in_test, in_finishes r here, field_set r here)

char_at_kept : (r : Running) (here : Here r) (rest : List Value) (found : Option ℕ) → KeptIn (char_at r rest found)
char_at_kept r here rest None = tt
char_at_kept r here rest (Some unit) = search (in_finishes, same)

concatenates_kept : (r : Running) (here : Here r) (id : ℕ) (first second : List ℕ) (rest : List Value)
    → KeptIn (concatenates r id first second rest)
concatenates_kept r here id first [] rest = search (in_finishes, same)
concatenates_kept r here id first (unit ∷ units) rest = search (in_allocates)

writes_kept : (r : Running) (here : Here r) (bytes : List ℕ) (rest : List Value) → KeptIn (writes r bytes rest)
writes_kept r here bytes rest =
    in_test_is (nat_le (length r.state.output + length bytes) most_output_bytes) (finishes 0 true r (record r.state { output = r.state.output ++ bytes }) rest) is_full (λ few.
    in_finishes r here 0 true (record r.state { output = r.state.output ++ bytes }) rest
    (mid_output r.state.world r.thread here.th r.state here.start (r.state.output ++ bytes)
    (ap (λ (n : ℕ). nat_le n most_output_bytes) (length-append r.state.output bytes) ∙ few))) (λ many. tt)

requested : (r : Running) (here : Here r) → MidOf r here (record r.state { requests = r.state.requests + 1 })
requested r here = mid_request r.state.world r.thread here.th r.state here.start

native_step_kept : (r : Running) (here : Here r) (native : Native) (arguments rest : List Value)
    → KeptIn (native_step r native arguments rest)
unfolding native_step
native_step_kept r here does_nothing arguments rest = search (in_finishes, same)
native_step_kept r here same_object (a ∷ b ∷ []) rest = search (in_bind, in_finishes, same)
native_step_kept r here string_length (reference id ∷ []) rest = search (in_bind, in_finishes, same)
native_step_kept r here string_char_at (reference id ∷ int index ∷ []) rest = search (in_bind, char_at_kept)
native_step_kept r here string_equals (reference id ∷ null ∷ []) rest = search (in_finishes, same)
native_step_kept r here string_equals (reference id ∷ reference other ∷ []) rest = search (in_bind, in_finishes, same) depth 12
native_step_kept r here string_concat (reference id ∷ null ∷ []) rest = tt
native_step_kept r here string_concat (reference id ∷ reference other ∷ []) rest = search (in_bind, concatenates_kept)
native_step_kept r here string_value_of (int n ∷ []) rest = search (in_allocates)
native_step_kept r here sets_target (reference id ∷ target ∷ []) rest = search (sets_kept)
native_step_kept r here starts_a_thread (reference id ∷ []) rest = start_thread_kept r here id rest
native_step_kept r here joins_a_thread (reference id ∷ []) rest = join_thread_kept r here id rest
native_step_kept r here (prints line printable) (receiver ∷ arguments) rest = search (in_bind, writes_kept)
native_step_kept r here sets_message (reference id ∷ message ∷ []) rest = search (sets_kept)
native_step_kept r here gets_message (reference id ∷ []) rest = search (in_bind, in_finishes, same)
native_step_kept r here requests_an_update [] rest = search (in_finishes r here, requested r here)
native_step_kept r here native arguments rest = tt

-- ---- invocations

runs_kept : (r : Running) (here : Here r) (places : ℕ) (receiver : Option ℕ) (found : Option (Found Method))
    → ((f : Found Method) → found ≡ Some f → IsNamed r.state.world f) → KeptIn (runs r places receiver found)
runs_kept r here places receiver None named = tt
runs_kept r here places receiver (Some found) named =
    in_test (has_flag acc_abstract found.member.flags) abstract_method (runs_code r found places receiver found.member.code) tt (go found.member.code refl)
  where
    go : (code : Option (Body Operand)) → found.member.code ≡ code → KeptIn (runs_code r found places receiver code)
    go (Some body) code = call_code_kept r here found body places receiver (named found refl) code
    go None code = search (in_bind, native_step_kept)

virtual_kept : (r : Running) (here : Here r) (m : MemberReference) (found : Found Method) (places : ℕ) (receiver : Option ℕ) (class : List ℕ)
    → resolved_method false r.state.world m ≡ Some found → KeptIn (runs r places receiver (selected r.state.world found m class))
virtual_kept r here m found places receiver class is =
    runs_kept r here places receiver (selected r.state.world found m class)
    (λ f h. selected_is_named r.state.world found m (chain r.state.world class) f (resolved_is_named false r.state.world m found is) h)

special_kept : (r : Running) (here : Here r) (m : MemberReference) (found : Found Method) (places : ℕ) (receiver : Option ℕ)
    → resolved_method false r.state.world m ≡ Some found
    → KeptIn (runs r places receiver (specially_selected r.state.world r.frame.method.class found m))
special_kept r here m found places receiver is =
    runs_kept r here places receiver (specially_selected r.state.world r.frame.method.class found m)
    (λ f h. specially_is_named r.state.world r.frame.method.class found m f (resolved_is_named false r.state.world m found is) h)

static_kept : (r : Running) (here : Here r) (m : MemberReference) (found : Found Method) (places : ℕ)
    → resolved_method true r.state.world m ≡ Some found → KeptIn (runs r places None (Some found))
static_kept r here m found places is =
    runs_kept r here places None (Some found) (λ f h. subst (IsNamed r.state.world) (some_inj h) (resolved_is_named true r.state.world m found is))

pub invoke_virtual_kept : (r : Running) (here : Here r) (m : MemberReference) → KeptIn (invoke_virtual r m)
invoke_virtual_kept r here m = search (in_bind_is, in_object, virtual_kept r here m) depth 14

pub invoke_special_kept : (r : Running) (here : Here r) (m : MemberReference) → KeptIn (invoke_special r m)
invoke_special_kept r here m = search (in_bind_is, in_object, special_kept r here m) depth 14

pub invoke_static_kept : (r : Running) (here : Here r) (m : MemberReference) → KeptIn (invoke_static r m)
invoke_static_kept r here m = search (in_bind_is, static_kept r here m) depth 14

pub invoke_interface_kept : (r : Running) (here : Here r) (m : MemberReference) → KeptIn (invoke_interface r m)
invoke_interface_kept r here m = search (in_bind_is, in_test, in_object, virtual_kept r here m) depth 14
