-- `arraylength`, `newarray`, `anewarray`, `new`, `checkcast`, `instanceof` and monitors are right.
use Rattle.std.proofs.Common.{◌≡◌, ℕ, suc, pos, int_le, unsigned_abs, List, [], ◌∷◌, Option, Some, None, Bool, true, false, refl, ap, sym, subst, if◌then◌else◌, length, slice_get, option_map, codes, arith, replicate}
use Rattle.std.specs.Prelude.{is_some, bytes_eq, ◌||◌}
use Rattle.std.proofs.lemmas.Bool.{and_parts, or_left, or_right, le-leb}
use Rattle.jv_model.specs.Descriptors.{FieldType, byte_type, char_type, double_type, float_type, int_type as int_field, long_type as long_field, short_type, boolean_type, class_type, array_of}
use Rattle.jv_model.specs.Flow.{goes_on as flow_goes_on}
use Rattle.world_model.specs.World.{World}
use Rattle.world_model.specs.BootNames.{java_object}
use Rattle.typing_model.specs.VerificationType.{VerificationType, top, int as int_type, long as long_type, null as null_type, array as array_type, is_int, is_reference, is_same_field_type}
use Rattle.typing_model.specs.ArrayTypes.{is_any_array}
use Rattle.typing_model.specs.Environment.{Environment}
use Rattle.typing_model.specs.Transition.{below, popped, pushed, changed}
use Rattle.machine_model.specs.Value.{Value, int, null, reference, zero_of, kind_of_type}
use Rattle.machine_model.specs.Heap.{Contents, array, Object, words_of, Monitor, is_owned_by, is_owned_by_other, entered, exited}
use Rattle.machine_model.specs.Deed.{Deed, throws, blocked, Running, goes_on, allocates}
use Rattle.machine_model.specs.ArraySteps.{array_length, new_array}
use Rattle.machine_model.specs.Monitors.{monitor_of, change_monitor, enter_monitor, exit_monitor, illegal_monitor_state}
use Rattle.machine_model.specs.TypedValues.{HeapTyping, heap_typing, may_stand, stands_for, is_in_use, is_of_type, are_of_types}
use Rattle.frame_laws.proofs.Taking.{take_int, known_of}
use Rattle.frame_laws.proofs.Outcome.{some_inj, both, popped_is, changed_is, map_is}
use Rattle.frame_laws.proofs.Numbers.{int_lands}
use Rattle.link_laws.proofs.Names.{text_same}
use Rattle.typing_model.specs.Assignable.{names_interface}
use Rattle.machine_laws.proofs.TypedStates.{IsTypedDeed}
use Rattle.machine_laws.proofs.Heaps.{typed_is, and_next, allocated, new_type}
use Rattle.machine_laws.proofs.Ready.{Ready, allocating, monitoring, throws_rightly, operands_fit, operands_then, pushes_rightly, pops_rightly}
use Rattle.machine_laws.proofs.ArrayLoads.{array_there}
use Rattle.machine_laws.proofs.Zeros.{zero_of_type, all_zero}
use Rattle.machine_laws.proofs.Numbers.{gives_rightly}

-- ---- operands

-- An array or null on top.
data ArrayOn (heap : HeapTyping) (e : Environment) (rest : List VerificationType) (values : List Value) : Type 0 where
  null_on : (others : List Value) → values ≡ null ∷ others → ArrayOn heap e rest values
  array_on : (id : ℕ) (component : FieldType) (others : List Value) → values ≡ reference id ∷ others
      → stands_for heap id (array_of component) ≡ true → are_of_types heap e rest others ≡ true
      → ArrayOn heap e rest values

-- where typing takes an array, one stands on top, or null
take_array : (heap : HeapTyping) (e : Environment) (stack rest : List VerificationType) (values : List Value)
    → below (is_any_array ∷ []) stack ≡ Some rest → are_of_types heap e stack values ≡ true
    → ArrayOn heap e rest values
unfolding below are_of_types is_of_type
take_array heap e (null_type ∷ types) rest (null ∷ values) b f = null_on values refl
take_array heap e (array_type c ∷ types) rest (null ∷ values) b f = null_on values refl
take_array heap e (array_type c ∷ types) rest (reference id ∷ values) b f =
    let p = and_parts (stands_for heap id (array_of c)) (are_of_types heap e types values) f in
    array_on id c values refl p.0 (subst (λ (ts : List VerificationType). are_of_types heap e ts values ≡ true) (some_inj b) p.1)
take_array heap e stack rest values b f = absurd cc

-- An object in use, initialized or not, or null on top.
data KnownOn (heap : HeapTyping) (e : Environment) (rest : List VerificationType) (values : List Value) : Type 0 where
  no_known : (others : List Value) → values ≡ null ∷ others → KnownOn heap e rest values
  known_on : (id : ℕ) (others : List Value) → values ≡ reference id ∷ others → is_in_use heap id ≡ true
      → are_of_types heap e rest others ≡ true → KnownOn heap e rest values

-- where typing takes a reference, one lies on top
take_known : (heap : HeapTyping) (e : Environment) (stack rest : List VerificationType) (values : List Value)
    → below (is_reference ∷ []) stack ≡ Some rest → are_of_types heap e stack values ≡ true
    → KnownOn heap e rest values
unfolding below are_of_types is_of_type
take_known heap e (top ∷ types) rest values b f = absurd cc
take_known heap e (int_type ∷ types) rest values b f = absurd cc
take_known heap e (long_type ∷ types) rest values b f = absurd cc
take_known heap e (type ∷ types) rest (null ∷ values) b f = no_known values refl
take_known heap e (type ∷ types) rest (reference id ∷ values) b f =
    let p = and_parts (is_of_type heap e type (reference id)) (are_of_types heap e types values) f in
    known_on id values refl (known_of heap e type (reference id) p.0)
    (subst (λ (ts : List VerificationType). are_of_types heap e ts values ≡ true) (some_inj b) p.1)
take_known heap e stack rest values b f = absurd cc

-- a type stands for itself
same_stands : (a : FieldType) → is_same_field_type a a ≡ true
unfolding is_same_field_type
same_stands byte_type = refl
same_stands char_type = refl
same_stands double_type = refl
same_stands float_type = refl
same_stands int_field = refl
same_stands long_field = refl
same_stands short_type = refl
same_stands boolean_type = refl
same_stands (class_type name) = text_same name name refl
same_stands (array_of c) = same_stands c

pub stands_itself : (world : World) (a : FieldType) → may_stand world a a ≡ true
unfolding may_stand
stands_itself world (class_type name) =
    or_right (bytes_eq name java_object) _ (or_left (bytes_eq name name || names_interface world name) _ (or_left (bytes_eq name name) _ (text_same name name refl)))
stands_itself world (array_of c) = stands_itself world c
stands_itself world byte_type = same_stands byte_type
stands_itself world char_type = same_stands char_type
stands_itself world double_type = same_stands double_type
stands_itself world float_type = same_stands float_type
stands_itself world int_field = same_stands int_field
stands_itself world long_field = same_stands long_field
stands_itself world short_type = same_stands short_type
stands_itself world boolean_type = same_stands boolean_type

module _ (r : Running) (live : ℕ → Bool) (ready : Ready r live) (on : flow_goes_on ready.at.placed.instruction ≡ true) where
  abbrev heap : HeapTyping
  heap = heap_typing r.state live

  -- `arraylength` is right
  pub array_length_is_right : changed ready.e (is_any_array ∷ []) (int_type ∷ []) ready.before ≡ Some ready.at.applies.after
      → IsTypedDeed r.state.world (array_length r r.frame.stack)
  unfolding below
  array_length_is_right h =
      let c = changed_is ready.e (is_any_array ∷ []) (int_type ∷ []) ready.before ready.at.applies.after h in
      go c.0 c.2 (take_array heap ready.e ready.before.stack c.0 r.frame.stack c.1 (operands_fit r live ready))
    where
      go : (rest : List VerificationType) → pushed ready.e (int_type ∷ []) (record ready.before { stack = rest }) ≡ Some ready.at.applies.after
          → ArrayOn heap ready.e rest r.frame.stack → IsTypedDeed r.state.world (array_length r r.frame.stack)
      go rest h (null_on others is) = subst (λ (vs : List Value). IsTypedDeed r.state.world (array_length r vs)) (sym is)
          (throws_rightly r live ready (codes "java/lang/NullPointerException") false refl)
      go rest h (array_on id component others is stands f) =
          let a = array_there r live ready id component stands in
          subst (λ (vs : List Value). IsTypedDeed r.state.world (array_length r vs)) (sym is)
          (rw a.there (gives_rightly r live ready on int_type rest rest (int (pos (length a.elements))) others h refl f (int_lands heap ready.e (pos (length a.elements)))))

  -- a new array of elements of a type is right
  pub new_array_is_right : (type : FieldType)
      → changed ready.e (is_int ∷ []) (array_type type ∷ []) ready.before ≡ Some ready.at.applies.after
      → IsTypedDeed r.state.world (new_array r type r.frame.stack)
  unfolding below are_of_types is_of_type
  new_array_is_right type h =
      let c = changed_is ready.e (is_int ∷ []) (array_type type ∷ []) ready.before ready.at.applies.after h in
      let x = take_int heap ready.e [] ready.before.stack c.0 r.frame.stack c.1 (operands_fit r live ready) in
      let contents : Contents = array type (replicate (unsigned_abs x.found) (zero_of (kind_of_type type))) in
      let more = and_next r.state live in
      let after = allocated r.state live contents in
      let follows = allocating r.state live contents ready.conforms
      (all_zero (heap_typing after more) (unsigned_abs x.found) type (zero_of (kind_of_type type)) (zero_of_type (heap_typing after more) type)) in
      subst (λ (vs : List Value). IsTypedDeed r.state.world (new_array r type vs)) (sym x.is)
      (either (int_le (pos 0) x.found) (allocates false r contents x.others)
      (pushes_rightly r live ready after more follows (words_of contents) false (array_type type ∷ []) c.0 (reference (length r.state.heap) ∷ x.others) on c.2
      (both (stands_for (heap_typing after more) (length r.state.heap) (array_of type)) (are_of_types (heap_typing after more) ready.e c.0 x.others)
      (rw (new_type r.state live contents (array_of type) refl) (stands_itself r.state.world (array_of type)))
      (operands_then r live ready after more follows c.0 x.others (subst (λ (ts : List VerificationType). are_of_types heap ready.e ts x.others ≡ true) (some_inj x.are_below) x.fit)))))
    where
      either : (fits : Bool) (deed : Deed) → IsTypedDeed r.state.world deed
          → IsTypedDeed r.state.world (if fits then deed else throws (codes "java/lang/NegativeArraySizeException") false)
      either true deed right = right
      either false deed right = throws_rightly r live ready (codes "java/lang/NegativeArraySizeException") false refl

  -- ---- monitors

  -- an object in use has a monitor
  monitor_there : (id : ℕ) → is_in_use heap id ≡ true → (m : Monitor) × (monitor_of r.state [] (Some id) ≡ Some m)
  monitor_there id used = go (heap.type_at id) refl used
    where
      go : (o : Option FieldType) → heap.type_at id ≡ o → is_some o ≡ true → (m : Monitor) × (monitor_of r.state [] (Some id) ≡ Some m)
      go None is used = absurd cc
      go (Some type) is used =
          let t = typed_is r.state live id type is in
          let o = map_is (λ (o : Object). o.contents) (slice_get r.state.heap id) t.1 t.2 in
          (o.0.monitor, ap (option_map (λ (o : Object). o.monitor)) o.1)

  -- a monitor that changes leaves the operands below the object
  changes_rightly : (id : ℕ) (change : Monitor → Monitor) (rest : List VerificationType) (others : List Value)
      → record ready.before { stack = rest } ≡ ready.at.applies.after → are_of_types heap ready.e rest others ≡ true
      → r.frame.stack ≡ reference id ∷ others
      → IsTypedDeed r.state.world (goes_on r (change_monitor [] (Some id) change r.state) others)
  changes_rightly id change rest others h f is =
      let follows = monitoring [] (Some id) change r.state live ready.conforms in
      pops_rightly r live ready (change_monitor [] (Some id) change r.state) live follows 0 false rest others on h
      (operands_then r live ready (change_monitor [] (Some id) change r.state) live follows rest others f)
      (le-leb _ _ (let more : length r.frame.stack ≡ suc (length others) = ap length is in omega arith))

  pub enter_is_right : popped (is_reference ∷ []) ready.before ≡ Some ready.at.applies.after
      → IsTypedDeed r.state.world (enter_monitor r r.frame.stack)
  enter_is_right h =
      let p = popped_is (is_reference ∷ []) ready.before ready.at.applies.after h in
      go p.0 p.2 (take_known heap ready.e ready.before.stack p.0 r.frame.stack p.1 (operands_fit r live ready))
    where
      either : (b : Bool) (deed : Deed) → IsTypedDeed r.state.world deed → IsTypedDeed r.state.world (if b then blocked else deed)
      either true deed right = tt
      either false deed right = right

      go : (rest : List VerificationType) → record ready.before { stack = rest } ≡ ready.at.applies.after
          → KnownOn heap ready.e rest r.frame.stack → IsTypedDeed r.state.world (enter_monitor r r.frame.stack)
      go rest h (no_known others is) = subst (λ (vs : List Value). IsTypedDeed r.state.world (enter_monitor r vs)) (sym is)
          (throws_rightly r live ready (codes "java/lang/NullPointerException") false refl)
      go rest h (known_on id others is used f) =
          let m = monitor_there id used in
          subst (λ (vs : List Value). IsTypedDeed r.state.world (enter_monitor r vs)) (sym is)
          (rw m.1 (either (is_owned_by_other r.thread m.0) _ (changes_rightly id (entered r.thread) rest others h f is)))

  pub exit_is_right : popped (is_reference ∷ []) ready.before ≡ Some ready.at.applies.after
      → IsTypedDeed r.state.world (exit_monitor r r.frame.stack)
  exit_is_right h =
      let p = popped_is (is_reference ∷ []) ready.before ready.at.applies.after h in
      go p.0 p.2 (take_known heap ready.e ready.before.stack p.0 r.frame.stack p.1 (operands_fit r live ready))
    where
      either : (b : Bool) (deed : Deed) → IsTypedDeed r.state.world deed → IsTypedDeed r.state.world (if b then deed else illegal_monitor_state)
      either true deed right = right
      either false deed right = throws_rightly r live ready (codes "java/lang/IllegalMonitorStateException") false refl

      go : (rest : List VerificationType) → record ready.before { stack = rest } ≡ ready.at.applies.after
          → KnownOn heap ready.e rest r.frame.stack → IsTypedDeed r.state.world (exit_monitor r r.frame.stack)
      go rest h (no_known others is) = subst (λ (vs : List Value). IsTypedDeed r.state.world (exit_monitor r vs)) (sym is)
          (throws_rightly r live ready (codes "java/lang/NullPointerException") false refl)
      go rest h (known_on id others is used f) =
          let m = monitor_there id used in
          subst (λ (vs : List Value). IsTypedDeed r.state.world (exit_monitor r vs)) (sym is)
          (rw m.1 (either (is_owned_by r.thread m.0) _ (changes_rightly id exited rest others h f is)))
