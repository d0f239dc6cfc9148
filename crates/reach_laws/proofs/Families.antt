-- What each family of instructions leaves within reach.
use Rattle.std.proofs.Common.{◌≡◌, ℕ, ℤ, Bool, true, false, cond, List, [], ◌∷◌, length, Option, Some, None, sym, subst, append-nil}
use Rattle.std.specs.Prelude.{IfSome, pos, int_le, unsigned_abs, slice_get, slice_set, is_some, bytes_eq, codes, option_to_list, flat_map, replicate}
use Rattle.std.specs.Int.{w32, w64}
use Rattle.jv_model.specs.Descriptors.{FieldType, byte_type, char_type, int_type, long_type, short_type, boolean_type, class_type, array_of}
use Rattle.jv_model.specs.Operand.{MemberReference}
use Rattle.jv_model.specs.Instruction.{ElementKind, ints, longs, references, bytes, chars, shorts, ValueKind, of_int, of_long, of_reference, Arithmetic}
use Rattle.world_model.specs.World.{World, class_in}
use Rattle.world_model.specs.BootNames.{java_string}
use Rattle.world_model.specs.Layout.{layout}
use Rattle.world_model.specs.Resolution.{resolved_field}
use Rattle.machine_model.specs.Arithmetic.{arithmetic_result}
use Rattle.machine_model.specs.Value.{Value, int, long, half, null, reference, kind_of, zero_of, zeros, kind_of_type, is_of_kind, onto, taken_of}
use Rattle.machine_model.specs.Heap.{Contents, instance, array, string, values_of, contents_at, words_of, with_object, entered, exited, is_owned_by, is_owned_by_other}
use Rattle.machine_model.specs.State.{Frame, Thread, Interned, State, static_value, with_thread, with_static}
use Rattle.machine_model.specs.Deed.{throws, blocked, wrong, Running, ◌>>=◌, goes_on, class_of}
use Rattle.machine_model.specs.FieldSteps.{field_at, with_field_at, reads, get_static, put_static, get_field, put_field}
use Rattle.machine_model.specs.ArraySteps.{kind_of_elements, elements_of, element_at, out_of_bounds, loads_element, load_element, as_reference, narrowed, fits_element, with_elements, stores_element, stores_at, store_element, array_length, new_array}
use Rattle.machine_model.specs.ObjectSteps.{new_contents, new_object, is_of, check_cast, instance_of}
use Rattle.machine_model.specs.DivisionSteps.{divided_by_zero, divide_ints, divide_longs}
use Rattle.machine_model.specs.Monitors.{monitor_of, change_monitor, illegal_monitor_state, enter_monitor, exit_monitor}
use Rattle.machine_model.specs.Strings.{interned_string, with_interned, pushes_interned, load_string}
use Rattle.machine_model.specs.Throwing.{match_option, handler_of, caught_at, left_by, thrown_in, frames_of, thrown, throws_new, throw_object}
use Rattle.reach_laws.proofs.Lists.{all_get, all_set, all_find, all_replicate}
use Rattle.reach_laws.proofs.Holding.{MayReach, Names, Holds, FrameIn, FramesIn, ThreadIn, LiteralIn, Within, next_in, onto_in}
use Rattle.reach_laws.proofs.Changes.{contents_within, added_within, monitor_within, left_within, field_within, field_set_within, static_within, static_set_within, interned_within, thread_within}
use Rattle.reach_laws.proofs.Going.{WithinIn, Here, in_bind, in_given, in_test, in_object, in_contents, in_finishes, in_goes_on, goes_same, in_allocates, TakenIn, taken_in}

-- a value that isn't a reference names nothing
zero_in : (before : State) (kind : ValueKind) → Names before (zero_of kind)
zero_in before of_int = tt
zero_in before of_long = tt
zero_in before of_reference = tt

zeros_in : (before : State) (fields : List MemberReference) → Holds before (zeros fields)
zeros_in before [] = tt
zeros_in before (f ∷ fields) = (zero_in before (kind_of f.descriptor), zeros_in before fields)

new_in : (before : State) (world : World) (class : List ℕ) → Holds before (values_of (new_contents world class))
new_in before world class = go (bytes_eq class java_string)
  where
    go : (b : Bool) → Holds before (values_of (cond b (string []) (instance class (zeros (layout world class)))))
    go true = tt
    go false = zeros_in before (layout world class)

elements_in : (before : State) (contents : Contents) → Holds before (values_of contents) → IfSome (elements_of contents) (Holds before)
elements_in before (array type elements) holds = holds
elements_in before (instance class values) holds = tt
elements_in before (string units) holds = tt

element_in : (before : State) (elements : List Value) (index : ℤ) → Holds before elements → IfSome (element_at elements index) (Names before)
element_in before elements index holds = go (int_le (pos 0) index)
  where
    go : (b : Bool) → IfSome (cond b (slice_get elements (unsigned_abs index)) None) (Names before)
    go true = all_get (Names before) elements (unsigned_abs index) holds
    go false = tt

reference_in : (before : State) (value : Value) → Names before value → IfSome (as_reference value) (Names before)
reference_in before null names = tt
reference_in before (reference id) names = names
reference_in before (int n) names = tt
reference_in before (long n) names = tt
reference_in before half names = tt

narrowed_in : (before : State) (kind : ElementKind) (type : FieldType) (value : Value) → Names before value
    → IfSome (narrowed kind type value) (Names before)
narrowed_in before ints int_type (int n) names = tt
narrowed_in before longs long_type (long n) names = tt
narrowed_in before bytes boolean_type (int n) names = tt
narrowed_in before bytes byte_type (int n) names = tt
narrowed_in before chars char_type (int n) names = tt
narrowed_in before shorts short_type (int n) names = tt
narrowed_in before references (class_type name) value names = reference_in before value names
narrowed_in before references (array_of component) value names = reference_in before value names
narrowed_in before kind type value names = tt

module _ (before : State) (r : Running) (here : Here before r) where
  -- ---- fields

  reads_in : (field : MemberReference) (rest : List Value) (value : Value) → Names before value → Holds before rest
      → WithinIn before (reads r field rest value)
  reads_in field rest value names holds =
      in_test before (is_of_kind (kind_of field.descriptor) value) (goes_on r r.state (onto value rest)) wrong
      (goes_same before r here (onto value rest) (onto_in before value rest names holds)) tt

  pub get_static_in : (m : MemberReference) → WithinIn before (get_static r m)
  get_static_in m =
      in_bind before (resolved_field true r.state.world m) _ λ field _.
      in_given before (Names before) (static_value r.state.statics field) _ (static_within before r.state here.start field) λ value names.
      reads_in field r.frame.stack value names here.frame.stack

  pub put_static_in : (m : MemberReference) → WithinIn before (put_static r m)
  put_static_in m =
      in_given before (TakenIn before) (taken_of (kind_of m.descriptor) r.frame.stack) _ (taken_in before (kind_of m.descriptor) r.frame.stack here.frame.stack) λ taken is.
      in_bind before (resolved_field true r.state.world m) _ λ field _.
      in_bind before (static_value r.state.statics field) _ λ old _.
      in_goes_on before r here (record r.state { statics = with_static field taken.value r.state.statics }) taken.rest
      (static_set_within before r.state here.start field taken.value is.value) is.rest

  pub get_field_in : (m : MemberReference) → WithinIn before (get_field r m)
  get_field_in m =
      in_given before (TakenIn before) (taken_of of_reference r.frame.stack) _ (taken_in before of_reference r.frame.stack here.frame.stack) λ object is.
      in_object before object.value _ is.value λ id may.
      in_bind before (resolved_field false r.state.world m) _ λ field _.
      in_given before (Names before) (field_at r.state id field) _ (field_within before r.state here.start id field may) λ value names.
      reads_in field object.rest value names is.rest

  pub put_field_in : (m : MemberReference) → WithinIn before (put_field r m)
  put_field_in m =
      in_given before (TakenIn before) (taken_of (kind_of m.descriptor) r.frame.stack) _ (taken_in before (kind_of m.descriptor) r.frame.stack here.frame.stack) λ taken is.
      in_given before (TakenIn before) (taken_of of_reference taken.rest) _ (taken_in before of_reference taken.rest is.rest) λ object on.
      in_object before object.value _ on.value λ id may.
      in_bind before (resolved_field false r.state.world m) _ λ field _.
      in_given before (Within before) (with_field_at r.state id field taken.value) _ (field_set_within before r.state here.start id field taken.value may is.value) λ state within.
      in_goes_on before r here state object.rest within on.rest

  -- ---- arrays

  loads_element_in : (kind : ElementKind) (rest : List Value) (found : Option Value) → Holds before rest → IfSome found (Names before)
      → WithinIn before (loads_element r kind rest found)
  loads_element_in kind rest None holds given = tt
  loads_element_in kind rest (Some value) holds given =
      in_test before (is_of_kind (kind_of_elements kind) value) (goes_on r r.state (onto value rest)) wrong
      (goes_same before r here (onto value rest) (onto_in before value rest given holds)) tt

  pub load_element_in : (kind : ElementKind) (operands : List Value) → Holds before operands → WithinIn before (load_element r kind operands)
  load_element_in kind (int index ∷ object ∷ rest) holds =
      in_object before object _ holds.1.0 λ id may.
      in_contents before r.state here.start id _ may λ contents inside.
      in_given before (Holds before) (elements_of contents) _ (elements_in before contents inside) λ elements all.
      loads_element_in kind rest (element_at elements index) holds.1.1 (element_in before elements index all)
  load_element_in kind operands holds = tt

  stores_element_in : (kind : ElementKind) (id : ℕ) (contents : Contents) (index : ℤ) (value : Value) (rest : List Value)
      → Holds before (values_of contents) → Names before value → Holds before rest
      → WithinIn before (stores_element r kind id contents index value rest)
  stores_element_in kind id (array type elements) index value rest inside names holds =
      in_test before (is_some (element_at elements index)) _ out_of_bounds
      (in_given before (Names before) (narrowed kind type value) _ (narrowed_in before kind type value names) λ stored named.
      in_bind before (fits_element r type value) _ λ fits _.
      in_test before fits (goes_on r (with_elements id type (slice_set elements (unsigned_abs index) stored) r.state) rest) _
      (in_goes_on before r here (with_elements id type (slice_set elements (unsigned_abs index) stored) r.state) rest
      (contents_within before r.state here.start id (array type (slice_set elements (unsigned_abs index) stored)) (all_set (Names before) elements (unsigned_abs index) stored inside named)) holds) tt) tt
  stores_element_in kind id (instance class values) index value rest inside names holds = tt
  stores_element_in kind id (string units) index value rest inside names holds = tt

  stores_at_in : (kind : ElementKind) (value : Value) (operands : List Value) → Names before value → Holds before operands
      → WithinIn before (stores_at r kind value operands)
  stores_at_in kind value (int index ∷ object ∷ rest) names holds =
      in_object before object _ holds.1.0 λ id may.
      in_contents before r.state here.start id _ may λ contents inside.
      stores_element_in kind id contents index value rest inside names holds.1.1
  stores_at_in kind value operands names holds = tt

  pub store_element_in : (kind : ElementKind) → WithinIn before (store_element r kind)
  store_element_in kind =
      in_given before (TakenIn before) (taken_of (kind_of_elements kind) r.frame.stack) _ (taken_in before (kind_of_elements kind) r.frame.stack here.frame.stack) λ taken is.
      stores_at_in kind taken.value taken.rest is.value is.rest

  pub array_length_in : (operands : List Value) → Holds before operands → WithinIn before (array_length r operands)
  array_length_in [] holds = tt
  array_length_in (object ∷ rest) holds =
      in_object before object _ holds.0 λ id may.
      in_bind before (contents_at r.state.heap id) _ λ contents _.
      in_bind before (elements_of contents) _ λ elements _.
      goes_same before r here (int (pos (length elements)) ∷ rest) (tt, holds.1)

  pub new_array_in : (type : FieldType) (operands : List Value) → Holds before operands → WithinIn before (new_array r type operands)
  new_array_in type (int count ∷ rest) holds =
      in_test before (int_le (pos 0) count) _ _
      (in_allocates before r here false (array type (replicate (unsigned_abs count) (zero_of (kind_of_type type)))) rest
      (all_replicate (Names before) (unsigned_abs count) (zero_of (kind_of_type type)) (zero_in before (kind_of_type type))) holds.1) tt
  new_array_in type operands holds = tt

  -- ---- objects

  pub new_object_in : (name : List ℕ) → WithinIn before (new_object r name)
  new_object_in name =
      in_test before (is_some (class_in r.state.world name)) _ wrong
      (in_allocates before r here false (new_contents r.state.world name) r.frame.stack (new_in before r.state.world name) here.frame.stack) tt

  cast_in : (name : List ℕ) (value : Value) (rest : List Value) → Names before value → Holds before rest
      → WithinIn before (is_of r value name >>= λ fits. cond fits (goes_on r r.state (value ∷ rest)) (throws (codes "java/lang/ClassCastException") false))
  cast_in name value rest names holds =
      in_bind before (is_of r value name) _ λ fits _.
      in_test before fits (goes_on r r.state (value ∷ rest)) _ (goes_same before r here (value ∷ rest) (names, holds)) tt

  pub check_cast_in : (name : List ℕ) (operands : List Value) → Holds before operands → WithinIn before (check_cast r name operands)
  check_cast_in name [] holds = tt
  check_cast_in name (null ∷ rest) holds = goes_same before r here (null ∷ rest) holds
  check_cast_in name (value ∷ rest) holds = cast_in name value rest holds.0 holds.1

  told_in : (name : List ℕ) (value : Value) (rest : List Value) → Holds before rest
      → WithinIn before (is_of r value name >>= λ fits. goes_on r r.state (int (cond fits (pos 1) (pos 0)) ∷ rest))
  told_in name value rest holds =
      in_bind before (is_of r value name) _ λ fits _. goes_same before r here (int (cond fits (pos 1) (pos 0)) ∷ rest) (tt, holds)

  pub instance_of_in : (name : List ℕ) (operands : List Value) → Holds before operands → WithinIn before (instance_of r name operands)
  instance_of_in name [] holds = tt
  instance_of_in name (null ∷ rest) holds = goes_same before r here (int (pos 0) ∷ rest) (tt, holds.1)
  instance_of_in name (value ∷ rest) holds = told_in name value rest holds.1

  pub load_string_in : (units : List ℕ) → WithinIn before (load_string r units)
  load_string_in units =
      go (interned_string units r.state) (all_find (LiteralIn before) (λ (i : Interned). bytes_eq i.units units) r.state.interned here.start.literals)
    where
      go : (o : Option Interned) → IfSome o (LiteralIn before) → WithinIn before (pushes_interned r units o)
      go (Some row) given = goes_same before r here (reference row.id ∷ r.frame.stack) (given, here.frame.stack)
      go None given =
          in_finishes before r here (words_of (string units)) false (with_interned units r.state) (reference (length r.state.heap) ∷ r.frame.stack)
          (interned_within before r.state here.start units here.same_size) (next_in before r.state here.same_size, here.frame.stack)

  -- ---- numbers

  pub divide_ints_in : (operation : Arithmetic) (operands : List Value) → Holds before operands
      → WithinIn before (divide_ints r operation operands)
  divide_ints_in operation (int b ∷ int a ∷ rest) holds =
      in_test before _ divided_by_zero _ tt (goes_same before r here (int (arithmetic_result w32 operation a b) ∷ rest) (tt, holds.1.1))
  divide_ints_in operation operands holds = tt

  pub divide_longs_in : (operation : Arithmetic) (operands : List Value) → Holds before operands
      → WithinIn before (divide_longs r operation operands)
  divide_longs_in operation (half ∷ long b ∷ half ∷ long a ∷ rest) holds =
      in_test before _ divided_by_zero _ tt (goes_same before r here (onto (long (arithmetic_result w64 operation a b)) rest) (onto_in before (long (arithmetic_result w64 operation a b)) rest tt holds.1.1.1.1))
  divide_longs_in operation operands holds = tt

  -- ---- monitors

  pub enter_monitor_in : (operands : List Value) → Holds before operands → WithinIn before (enter_monitor r operands)
  enter_monitor_in [] holds = tt
  enter_monitor_in (object ∷ rest) holds =
      in_object before object _ holds.0 λ id may.
      in_bind before (monitor_of r.state [] (Some id)) _ λ monitor _.
      in_test before (is_owned_by_other r.thread monitor) blocked _ tt
      (in_goes_on before r here (change_monitor [] (Some id) (entered r.thread) r.state) rest (monitor_within before r.state here.start [] (Some id) (entered r.thread)) holds.1)

  pub exit_monitor_in : (operands : List Value) → Holds before operands → WithinIn before (exit_monitor r operands)
  exit_monitor_in [] holds = tt
  exit_monitor_in (object ∷ rest) holds =
      in_object before object _ holds.0 λ id may.
      in_bind before (monitor_of r.state [] (Some id)) _ λ monitor _.
      in_test before (is_owned_by r.thread monitor) _ illegal_monitor_state
      (in_goes_on before r here (change_monitor [] (Some id) exited r.state) rest (monitor_within before r.state here.start [] (Some id) exited) holds.1) tt

-- ---- throws

-- a throw of an object in reach in such frames
thrown_in_within : (before : State) (t : ℕ) (class : List ℕ) (id : ℕ) (frames : List Frame) (state : State) → MayReach before id
    → Within before state → FramesIn before frames → Within before (thrown_in t class id frames state)
unfolding thrown_in
thrown_in_within before t class id [] state may within all =
    thread_within before state within t (λ (th : Thread). record th { frames = []; to_start = []; thrown = Some class }) (λ th h. tt)
thrown_in_within before t class id (frame ∷ callers) state may within all =
    go (handler_of state.world frame class)
    (thrown_in_within before t class id callers (left_by t frame state) may (left_within before state within t frame) all.1)
  where
    caught : (target : ℕ) → FrameIn before (caught_at id frame target)
    caught target = record { held = all.0.held; locals = all.0.locals; stack = (may, tt) }

    go : (o : Option ℕ) → Within before (thrown_in t class id callers (left_by t frame state))
        → Within before (match_option o (λ target. with_thread t (λ (th : Thread). record th { frames = caught_at id frame target ∷ callers }) state) (λ none. thrown_in t class id callers (left_by t frame state)))
    go (Some target) rest =
        thread_within before state within t (λ (th : Thread). record th { frames = caught_at id frame target ∷ callers }) (λ th h. (caught target, all.1))
    go None rest = rest

-- the frames of each thread
frames_in : (before : State) (state : State) (t : ℕ) → Within before state → FramesIn before (frames_of t state)
frames_in before state t within = go (slice_get state.threads t) (all_get (ThreadIn before) state.threads t within.threads)
  where
    go : (o : Option Thread) → IfSome o (ThreadIn before) → FramesIn before (flat_map (λ (th : Thread). th.frames) (option_to_list o))
    go None given = tt
    go (Some th) given = subst (FramesIn before) (sym (append-nil th.frames)) given

thrown_within : (before : State) (words t : ℕ) (class : List ℕ) (id : ℕ) (native : Bool) (state : State) → MayReach before id
    → Within before state → WithinIn before (thrown words t class id native state)
thrown_within before words t class id native state may within =
    thrown_in_within before t class id (frames_of t state) state may within (frames_in before state t within)

pub throws_new_in : (before : State) (t : ℕ) (class : List ℕ) (native : Bool) (state : State) → length state.heap ≡ length before.heap
    → Within before state → WithinIn before (throws_new t class native state)
throws_new_in before t class native state same within =
    thrown_within before (words_of (new_contents state.world class)) t class (length state.heap) native
    (record state { heap = with_object (new_contents state.world class) state.heap })
    (next_in before state same) (added_within before state within (new_contents state.world class) (new_in before state.world class))

pub throw_object_in : (before : State) (r : Running) (here : Here before r) (operands : List Value) → Holds before operands
    → WithinIn before (throw_object r operands)
throw_object_in before r here [] holds = tt
throw_object_in before r here (object ∷ rest) holds =
    in_object before object _ holds.0 λ id may.
    in_bind before (class_of r.state id) _ λ class _. thrown_within before 0 r.thread class id false r.state may here.start
