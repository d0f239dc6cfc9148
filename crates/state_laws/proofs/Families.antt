-- What each family of instructions leaves is well kept.
use Rattle.std.proofs.Common.{◌≡◌, ℕ, Bool, true, false, List, [], ◌∷◌, length, Option, Some, None, refl, sym, ap, subst, ◌∙◌, append-nil}
use Rattle.std.specs.Prelude.{ℤ, option_to_list, flat_map, is_none}
use Rattle.jv_model.specs.Descriptors.{FieldType}
use Rattle.jv_model.specs.Operand.{MemberReference}
use Rattle.jv_model.specs.Instruction.{ElementKind, Arithmetic}
use Rattle.world_model.specs.World.{World}
use Rattle.machine_model.specs.Value.{Value, int, long, half, null, reference}
use Rattle.machine_model.specs.Heap.{Contents, instance, array, string, entered, exited, words_of, with_object}
use Rattle.machine_model.specs.State.{Frame, Thread, Static, Interned, State, with_thread}
use Rattle.machine_model.specs.Deed.{Running}
use Rattle.machine_model.specs.FieldSteps.{with_field_at, get_static, put_static, get_field, put_field}
use Rattle.machine_model.specs.ArraySteps.{loads_element, stores_element, stores_at, load_element, store_element, array_length, new_array, with_elements}
use Rattle.machine_model.specs.ObjectSteps.{new_contents, new_object, check_cast, instance_of}
use Rattle.machine_model.specs.Monitors.{enter_monitor, exit_monitor, change_monitor}
use Rattle.machine_model.specs.Throwing.{match_option, thrown_in, thrown, throws_new, throw_object, frames_of, handler_of, caught_at, left_by}
use Rattle.machine_model.specs.Strings.{load_string, pushes_interned, interned_string, with_interned}
use Rattle.machine_model.specs.DivisionSteps.{divide_ints, divide_longs}
use Rattle.machine_model.specs.WellKept.{frames_fit, WellKept}
use Rattle.state_laws.specs.Laws.{KeptIn}
use Rattle.state_laws.proofs.Changes.{thread_kept, entered_rightly, exited_rightly}
use Rattle.state_laws.proofs.Going.{Mid, Here, same, is_within, mid_contents, mid_added, mid_static, mid_interned, mid_monitor, mid_left, mid_field, alive_rightly, callers_fit, fits_now, none_thrown, in_bind, in_bind_is, in_test, in_object, in_finishes, in_goes_on, in_allocates}

-- ---- changes, from the state in which the instruction begins

abbrev MidOf : (r : Running) → Here r → State → Type 0
MidOf r here state = Mid r.state.world r.thread here.th state

static_set : (r : Running) (here : Here r) (statics : List Static) → MidOf r here (record r.state { statics = statics })
static_set r here statics = mid_static r.state.world r.thread here.th r.state here.start statics

elements_set : (r : Running) (here : Here r) (id : ℕ) (type : FieldType) (elements : List Value)
    → MidOf r here (with_elements id type elements r.state)
elements_set r here id type elements = mid_contents r.state.world r.thread here.th r.state here.start id (array type elements)

pub field_set : (r : Running) (here : Here r) (id : ℕ) (field : MemberReference) (value : Value) (after : State)
    → with_field_at r.state id field value ≡ Some after → MidOf r here after
field_set r here id field value after is = mid_field r.state.world r.thread here.th r.state here.start id field value after is

entered_here : (r : Running) (here : Here r) (id : ℕ) → MidOf r here (change_monitor [] (Some id) (entered r.thread) r.state)
entered_here r here id =
    mid_monitor r.state.world r.thread here.th r.state here.start [] (Some id) (entered r.thread)
    (entered_rightly (length r.state.threads) r.thread (is_within r.state.world r.thread here.th r.state here.start))

exited_here : (r : Running) (here : Here r) (id : ℕ) → MidOf r here (change_monitor [] (Some id) exited r.state)
exited_here r here id =
    mid_monitor r.state.world r.thread here.th r.state here.start [] (Some id) exited (exited_rightly (length r.state.threads))

-- ---- fields

pub get_static_kept : (r : Running) (here : Here r) (field : MemberReference) → KeptIn (get_static r field)
get_static_kept r here field = search (in_bind, in_test, in_goes_on, same)

pub put_static_kept : (r : Running) (here : Here r) (field : MemberReference) → KeptIn (put_static r field)
put_static_kept r here field = search (in_bind, in_test, in_goes_on r here, static_set r here)

pub get_field_kept : (r : Running) (here : Here r) (field : MemberReference) → KeptIn (get_field r field)
get_field_kept r here field = search (in_bind, in_test, in_object, in_goes_on, same) depth 12

pub put_field_kept : (r : Running) (here : Here r) (field : MemberReference) → KeptIn (put_field r field)
put_field_kept r here field = search (in_bind, in_bind_is, in_test, in_object, in_goes_on r here, field_set r here) depth 12

-- ---- arrays

pub loads_element_kept : (r : Running) (here : Here r) (kind : ElementKind) (rest : List Value) (found : Option Value)
    → KeptIn (loads_element r kind rest found)
loads_element_kept r here kind rest None = tt
loads_element_kept r here kind rest (Some value) = search (in_test, in_goes_on, same)

pub load_element_kept : (r : Running) (here : Here r) (kind : ElementKind) (operands : List Value)
    → KeptIn (load_element r kind operands)
load_element_kept r here kind (int index ∷ object ∷ rest) = search (in_bind, in_object, loads_element_kept) depth 12
load_element_kept r here kind operands = tt

stores_element_kept : (r : Running) (here : Here r) (kind : ElementKind) (id : ℕ) (contents : Contents) (index : ℤ) (value : Value)
    (rest : List Value) → KeptIn (stores_element r kind id contents index value rest)
stores_element_kept r here kind id (array type elements) index value rest =
    search (in_bind, in_test, in_goes_on r here, elements_set r here) depth 16
stores_element_kept r here kind id (instance class values) index value rest = tt
stores_element_kept r here kind id (string units) index value rest = tt

stores_at_kept : (r : Running) (here : Here r) (kind : ElementKind) (value : Value) (operands : List Value)
    → KeptIn (stores_at r kind value operands)
stores_at_kept r here kind value (int index ∷ object ∷ rest) = search (in_bind, in_object, stores_element_kept) depth 12
stores_at_kept r here kind value operands = tt

pub store_element_kept : (r : Running) (here : Here r) (kind : ElementKind) → KeptIn (store_element r kind)
store_element_kept r here kind = search (in_bind, stores_at_kept)

pub array_length_kept : (r : Running) (here : Here r) (operands : List Value) → KeptIn (array_length r operands)
array_length_kept r here [] = tt
array_length_kept r here (object ∷ rest) = search (in_bind, in_test, in_object, in_goes_on, same) depth 12

pub new_array_kept : (r : Running) (here : Here r) (type : FieldType) (operands : List Value)
    → KeptIn (new_array r type operands)
new_array_kept r here type (int count ∷ rest) = search (in_test, in_allocates)
new_array_kept r here type operands = tt

-- ---- objects

pub new_object_kept : (r : Running) (here : Here r) (name : List ℕ) → KeptIn (new_object r name)
new_object_kept r here name = search (in_test, in_allocates)

pub check_cast_kept : (r : Running) (here : Here r) (name : List ℕ) (operands : List Value)
    → KeptIn (check_cast r name operands)
check_cast_kept r here name [] = tt
check_cast_kept r here name (null ∷ rest) = search (in_goes_on, same)
check_cast_kept r here name (value ∷ rest) = search (in_bind, in_test, in_goes_on, same)

pub instance_of_kept : (r : Running) (here : Here r) (name : List ℕ) (operands : List Value)
    → KeptIn (instance_of r name operands)
instance_of_kept r here name [] = tt
instance_of_kept r here name (null ∷ rest) = search (in_goes_on, same)
instance_of_kept r here name (value ∷ rest) = search (in_bind, in_test, in_goes_on, same)

pub load_string_kept : (r : Running) (here : Here r) (units : List ℕ) → KeptIn (load_string r units)
load_string_kept r here units = go (interned_string units r.state) refl
  where
    go : (o : Option Interned) → interned_string units r.state ≡ o → KeptIn (pushes_interned r units o)
    go (Some row) is = search (in_goes_on, same)
    go None is =
        in_finishes r here (words_of (string units)) false (with_interned units r.state) (reference (length r.state.heap) ∷ r.frame.stack)
        (mid_interned r.state.world r.thread here.th r.state here.start units is)

-- ---- numbers

pub divide_ints_kept : (r : Running) (here : Here r) (operation : Arithmetic) (operands : List Value)
    → KeptIn (divide_ints r operation operands)
divide_ints_kept r here operation (int b ∷ int a ∷ rest) = search (in_test, in_goes_on, same)
divide_ints_kept r here operation operands = tt

pub divide_longs_kept : (r : Running) (here : Here r) (operation : Arithmetic) (operands : List Value)
    → KeptIn (divide_longs r operation operands)
divide_longs_kept r here operation (half ∷ long b ∷ half ∷ long a ∷ rest) = search (in_test, in_goes_on, same)
divide_longs_kept r here operation operands = tt

-- ---- monitors

pub enter_monitor_kept : (r : Running) (here : Here r) (operands : List Value) → KeptIn (enter_monitor r operands)
enter_monitor_kept r here [] = tt
enter_monitor_kept r here (object ∷ rest) = search (in_bind, in_test, in_object, in_goes_on r here, entered_here r here) depth 12

pub exit_monitor_kept : (r : Running) (here : Here r) (operands : List Value) → KeptIn (exit_monitor r operands)
exit_monitor_kept r here [] = tt
exit_monitor_kept r here (object ∷ rest) = search (in_bind, in_test, in_object, in_goes_on r here, exited_here r here) depth 12

-- ---- throws

-- a throw in frames that fit
thrown_in_kept : (world : World) (t : ℕ) (th : Thread) (class : List ℕ) (id : ℕ) (frames : List Frame) (state : State)
    → is_none th.thrown ≡ true → Mid world t th state → frames_fit world frames ≡ true
    → WellKept (thrown_in t class id frames state)
unfolding thrown_in
thrown_in_kept world t th class id [] state none mid fit =
    thread_kept state t (λ (th : Thread). record th { frames = []; to_start = []; thrown = Some class }) th mid.at
    (ap (λ (w : World). frames_fit w []) mid.same_world ∙ fit) refl mid.kept
thrown_in_kept world t th class id (frame ∷ callers) state none mid fit =
    go (handler_of state.world frame class)
    (thrown_in_kept world t th class id callers (left_by t frame state) none (mid_left world t th state mid t frame) (callers_fit world frame callers fit))
  where
    go : (o : Option ℕ) → WellKept (thrown_in t class id callers (left_by t frame state))
        → WellKept (match_option o (λ target. with_thread t (λ (th : Thread). record th { frames = caught_at id frame target ∷ callers }) state) (λ none. thrown_in t class id callers (left_by t frame state)))
    go (Some target) rest =
        thread_kept state t (λ (th : Thread). record th { frames = caught_at id frame target ∷ callers }) th mid.at
        (ap (λ (w : World). frames_fit w (frame ∷ callers)) mid.same_world ∙ fit)
        (alive_rightly (record th { frames = caught_at id frame target ∷ callers }) (caught_at id frame target) callers refl none) mid.kept
    go None rest = rest

-- a throw in a state in the middle of a step
thrown_kept : (r : Running) (here : Here r) (words : ℕ) (class : List ℕ) (id : ℕ) (native : Bool) (state : State) → MidOf r here state
    → KeptIn (thrown words r.thread class id native state)
thrown_kept r here words class id native state mid =
    subst (λ (fs : List Frame). WellKept (thrown_in r.thread class id fs state)) (sym frames_now)
    (thrown_in_kept r.state.world r.thread here.th class id (r.frame ∷ r.callers) state (none_thrown r here) mid (fits_now r here))
  where
    frames_now : frames_of r.thread state ≡ r.frame ∷ r.callers
    frames_now = ap (λ (o : Option Thread). flat_map (λ (th : Thread). th.frames) (option_to_list o)) mid.at ∙ (append-nil here.th.frames ∙ here.are_frames)

pub throws_new_kept : (r : Running) (here : Here r) (class : List ℕ) (native : Bool)
    → KeptIn (throws_new r.thread class native r.state)
throws_new_kept r here class native =
    thrown_kept r here (words_of (new_contents r.state.world class)) class (length r.state.heap) native
    (record r.state { heap = with_object (new_contents r.state.world class) r.state.heap })
    (mid_added r.state.world r.thread here.th r.state here.start (new_contents r.state.world class))

pub throw_object_kept : (r : Running) (here : Here r) (operands : List Value) → KeptIn (throw_object r operands)
throw_object_kept r here [] = tt
throw_object_kept r here (object ∷ rest) = search (in_bind, in_object, thrown_kept, same) depth 12
