-- Native methods are right.
use Rattle.std.proofs.Common.{◌≡◌, ℕ, ℤ, pos, int_le, unsigned_abs, ◌+◌, List, [], ◌∷◌, ◌++◌, Option, Some, None, Bool, true, false, refl, ap, subst, ◌∙◌, if◌then◌else◌, length, slice_get, option_and_then, map, codes, nat_le}
use Rattle.std.specs.Prelude.{bytes_eq, ◌&&◌, not}
use Rattle.std.specs.Fmt.{signed_decimal}
use Rattle.std.proofs.lemmas.Bool.{and_parts}
use lib.Pointwise.{pointwise}
use Rattle.jv_model.specs.Limits.{most_output_bytes}
use Rattle.jv_model.specs.Descriptors.{FieldType, int_type as int_field, char_type, boolean_type, class_type, MethodType}
use Rattle.jv_model.specs.Operand.{MemberReference}
use Rattle.jv_model.specs.Flow.{goes_on as flow_goes_on}
use Rattle.world_model.specs.BootNames.{java_object, java_string}
use Rattle.code_model.specs.TypeReading.{field_type_of, method_type_of, type_at, before_semicolon, are_parts, dimensions}
use Rattle.typing_model.specs.VerificationType.{VerificationType, top, int as int_type, long as long_type, class, type_of}
use Rattle.typing_model.specs.Environment.{Environment}
use Rattle.typing_model.specs.DescriptorFrame.{as_locals}
use Rattle.machine_model.specs.Value.{Value, int, long, half, null, reference}
use Rattle.machine_model.specs.Heap.{Contents, instance, array, string, words_of as words_of_object, contents_at}
use Rattle.machine_model.specs.ObjectTypes.{own_type}
use Rattle.machine_model.specs.State.{State}
use Rattle.machine_model.specs.Deed.{is_full, Running, ◌>>=◌, finishes, allocates}
use Rattle.machine_model.specs.Strings.{units_of}
use Rattle.machine_model.specs.Printing.{Printable, no_value, an_int, a_char, a_boolean, a_string, a_long}
use Rattle.machine_model.specs.ThreadNatives.{target_field}
use Rattle.machine_model.specs.Natives.{Native, does_nothing, same_object, string_length, string_char_at, string_equals, string_concat, string_value_of, sets_target, starts_a_thread, joins_a_thread, prints, sets_message, gets_message, requests_an_update}
use Rattle.machine_model.specs.NativeSteps.{message_field, gives, ends_with, sets, units_at, char_at, concatenates, with_line_feed, writes, native_step}
use Rattle.machine_model.specs.FieldSteps.{with_field_at}
use Rattle.machine_model.specs.TypedValues.{HeapTyping, heap_typing, may_stand, stands_for, is_of_type, holds, is_declared}
use Rattle.machine_model.specs.Conforms.{is_present, contents_conform, ConformsWith}
use Rattle.world_model.specs.Layout.{layout}
use Rattle.link_laws.proofs.Names.{text_same}
use Rattle.frame_laws.proofs.Verified.{some_and_is}
use Rattle.machine_laws.specs.Runnable.{is_operand, PlaceUse, NativeAsks, native_type, printed_types, is_static_native}
use Rattle.machine_laws.proofs.TypedStates.{IsTypedDeed}
use Rattle.machine_laws.proofs.Heaps.{typed_is, and_next, allocated, new_type}
use Rattle.machine_laws.proofs.Ready.{Ready, Follows, itself, allocating, throws_rightly}
use Rattle.machine_laws.proofs.Operands.{Object, no_object, object, class_object}
use Rattle.machine_laws.proofs.Objects.{stands_itself}
use Rattle.machine_laws.proofs.Calling.{call_goes_on}
use Rattle.machine_laws.proofs.Arguments.{are_whole}
use Rattle.machine_laws.proofs.Fields.{field_there, field_found, field_put}
use Rattle.machine_laws.proofs.NativeEnds.{Leaves, ends_rightly, gives_rightly}
use Rattle.machine_laws.proofs.Threads.{runnable_read, join_is_right, start_is_right}

-- ---- arguments

-- where one type is wanted one value stands
one_value : (p : VerificationType → Value → Bool) (t : VerificationType) (values : List Value) → pointwise p (t ∷ []) values ≡ true
    → (v : Value) × (values ≡ v ∷ []) × (p t v ≡ true)
one_value p t [] h = absurd cc
one_value p t (v ∷ []) h = (v, refl, (and_parts (p t v) true h).0)
one_value p t (v ∷ w ∷ values) h = absurd (let no = (and_parts (p t v) false h).1 in cc)

no_value_there : (p : VerificationType → Value → Bool) (values : List Value) → pointwise p [] values ≡ true → values ≡ []
no_value_there p [] h = refl
no_value_there p (v ∷ values) h = absurd cc

module _ (heap : HeapTyping) (e : Environment) where
  int_there : (v : Value) → is_of_type heap e int_type v ≡ true → (n : ℤ) × (v ≡ int n)
  unfolding is_of_type
  int_there (int n) h = (n, refl)
  int_there v h = absurd cc

  -- a long takes two places, the second one of its half
  long_there : (values : List Value) → pointwise (is_of_type heap e) (long_type ∷ top ∷ []) values ≡ true → are_whole values ≡ true
      → (n : ℤ) × (values ≡ long n ∷ half ∷ [])
  unfolding is_of_type
  long_there (long n ∷ half ∷ []) h whole = (n, refl)
  long_there (long n ∷ half ∷ v ∷ values) h whole = absurd cc
  long_there (long n ∷ []) h whole = absurd cc
  long_there (long n ∷ v ∷ values) h whole = absurd cc
  long_there values h whole = absurd cc

message_read : field_type_of message_field.descriptor ≡ Some (class_type java_string)
unfolding type_at before_semicolon are_parts dimensions
message_read = refl

-- the state with another output or another count of requests conforms
printing : (state : State) (live : ℕ → Bool) (output : List ℕ) → ConformsWith state live
    → Follows state live (record state { output = output }) live
printing state live output is = record {
  conforms = record {
    threads = is.threads;
    shared = record {
      statics = is.shared.statics;
      static_fields = is.shared.static_fields;
      class_monitors = is.shared.class_monitors;
      literals = is.shared.literals;
      arguments = is.shared.arguments;
      objects = is.shared.objects;
    };
  };
  same_world = refl;
  grows = λ id type h. h;
}

requesting : (state : State) (live : ℕ → Bool) → ConformsWith state live
    → Follows state live (record state { requests = state.requests + 1 }) live
requesting state live is = record {
  conforms = record {
    threads = is.threads;
    shared = record {
      statics = is.shared.statics;
      static_fields = is.shared.static_fields;
      class_monitors = is.shared.class_monitors;
      literals = is.shared.literals;
      arguments = is.shared.arguments;
      objects = is.shared.objects;
    };
  };
  same_world = refl;
  grows = λ id type h. h;
}

module _ (r : Running) (live : ℕ → Bool) (ready : Ready r live) where
  abbrev heap : HeapTyping
  heap = heap_typing r.state live

  -- ---- strings

  -- an object of type String is a String by its units
  string_of_type : (id : ℕ) → heap.type_at id ≡ Some (class_type java_string)
      → (units : List ℕ) × (units_at r id ≡ Some units)
  string_of_type id at =
      let is = typed_is r.state live id (class_type java_string) at in
      let u = of is.1 is.3 (ready.conforms.shared.objects id is.1 is.0 is.2) in
      (u.0, ap (option_and_then units_of) is.2 ∙ u.1)
    where
      name_or : FieldType → List ℕ
      name_or (class_type name) = name
      name_or other = []

      of : (contents : Contents) → own_type contents ≡ class_type java_string → contents_conform heap contents ≡ true
          → (units : List ℕ) × (units_of contents ≡ Some units)
      of (string units) own conforms = (units, refl)
      of (array type elements) own conforms = absurd cc
      of (instance name values) own conforms =
          let p = and_parts (is_present r.state.world name && not (bytes_eq name java_string)) (pointwise (λ (f : MemberReference) value. is_declared heap f.descriptor value) (layout r.state.world name) values) conforms in
          let q = and_parts (is_present r.state.world name) (not (bytes_eq name java_string)) p.0 in
          absurd (let same : bytes_eq name java_string ≡ true = text_same name java_string (ap name_or own) in let other = q.1 in cc)

  -- what stands for a String is one
  string_there : (id : ℕ) → stands_for heap id (class_type java_string) ≡ true
      → (units : List ℕ) × (units_at r id ≡ Some units)
  string_there id stands =
      let own = some_and_is (λ own. may_stand r.state.world own (class_type java_string)) (heap.type_at id) stands in
      string_of_type id (own.1 ∙ ap Some (ready.runnable.strings_alone own.0 own.2))

  -- what a value of a class names is there
  contents_there : (id : ℕ) (name : List ℕ) → stands_for heap id (class_type name) ≡ true
      → (contents : Contents) × (contents_at r.state.heap id ≡ Some contents)
  contents_there id name stands =
      let own = some_and_is (λ own. may_stand r.state.world own (class_type name)) (heap.type_at id) stands in
      let is = typed_is r.state live id own.0 own.1 in (is.1, is.2)

-- ---- a native method on its arguments

module _ (r : Running) (live : ℕ → Bool) (ready : Ready r live) (m : MemberReference) (others : List Value)
    (left : Leaves r live ready m others) (fewer : nat_le (length others) (length r.frame.stack) ≡ true) where
  abbrev here : HeapTyping
  here = heap_typing r.state live

  on : flow_goes_on ready.at.placed.instruction ≡ true
  on = call_goes_on here ready.e ready.typed.right ready.before ready.at.applies.after m.descriptor ready.at.placed.instruction left.is_call

  ends : (type : MethodType) → method_type_of m.descriptor ≡ Some type → type.result ≡ None → (after : State)
      → Follows r.state live after live → IsTypedDeed r.state.world (finishes 0 true r after others)
  ends type is none after follows = ends_rightly r live ready m type is others left after live follows 0 true none fewer

  -- a value that is an int or names an object, in the state as it is
  gives_int : (type : MethodType) → method_type_of m.descriptor ≡ Some type → (t : FieldType) → type.result ≡ Some t
      → type_of t ≡ int_type → (n : ℤ) → IsTypedDeed r.state.world (gives r (int n) others)
  unfolding is_of_type
  gives_int type is t some same n =
      gives_rightly r live ready m type is others left r.state live (itself r.state live ready.conforms) 0 true t (int n) some
      (ap is_operand same) (ap (λ (v : VerificationType). is_of_type here ready.e v (int n)) same)

  gives_value : (type : MethodType) → method_type_of m.descriptor ≡ Some type → (name : List ℕ) → type.result ≡ Some (class_type name)
      → (value : Value) → holds here (class_type name) value ≡ true → IsTypedDeed r.state.world (gives r value others)
  unfolding type_of is_of_type
  gives_value type is name some null h =
      gives_rightly r live ready m type is others left r.state live (itself r.state live ready.conforms) 0 true (class_type name) null some refl refl
  gives_value type is name some (reference id) h =
      gives_rightly r live ready m type is others left r.state live (itself r.state live ready.conforms) 0 true (class_type name) (reference id) some refl h
  gives_value type is name some value h = absurd cc

  -- a new String
  gives_string : (type : MethodType) → method_type_of m.descriptor ≡ Some type → type.result ≡ Some (class_type java_string)
      → (units : List ℕ) → IsTypedDeed r.state.world (allocates true r (string units) others)
  unfolding type_of is_of_type
  gives_string type is some units =
      let more = and_next r.state live in
      let after = allocated r.state live (string units) in
      gives_rightly r live ready m type is others left after more (allocating r.state live (string units) ready.conforms refl) (words_of_object (string units)) true (class_type java_string)
      (reference (length r.state.heap)) some refl
      (rw (new_type r.state live (string units) (class_type java_string) refl) (stands_itself r.state.world (class_type java_string)))

  -- a reference is stored in a field of an object
  sets_right : (type : MethodType) → method_type_of m.descriptor ≡ Some type → type.result ≡ None → (owner name : List ℕ) (id : ℕ)
      (field : MemberReference) → PlaceUse r.state.world owner field → field_type_of field.descriptor ≡ Some (class_type name)
      → stands_for here id (class_type owner) ≡ true → (value : Value) → is_of_type here ready.e (class name) value ≡ true
      → IsTypedDeed r.state.world (sets r id field value others)
  sets_right type is none owner name id field places read stands value of =
      go value (class_object here ready.e name value of)
    where
      stored : (value : Value) → holds here (class_type name) value ≡ true
          → IsTypedDeed r.state.world (with_field_at r.state id field value >>= λ state. ends_with r state others)
      stored value held =
          let there = field_there r live ready on owner field id places stands in
          let put = field_put r live ready on id field field (class_type name) there value refl read held in
          rw put.1 (ends type is none (record r.state { heap = put.0 }) put.2)

      go : (value : Value) → Object here ready.e (class_type name) value → IsTypedDeed r.state.world (sets r id field value others)
      go _ no_object = stored null refl
      go _ (object u h) = stored (reference u) h

  writes_right : (type : MethodType) → method_type_of m.descriptor ≡ Some type → type.result ≡ None → (bytes : List ℕ)
      → IsTypedDeed r.state.world (writes r bytes others)
  writes_right type is none bytes = go (nat_le (length r.state.output + length bytes) most_output_bytes)
    where
      go : (b : Bool) → IsTypedDeed r.state.world (if b then ends_with r (record r.state { output = r.state.output ++ bytes }) others else is_full)
      go true = ends type is none (record r.state { output = r.state.output ++ bytes }) (printing r.state live (r.state.output ++ bytes) ready.conforms)
      go false = tt

  -- the arguments behind the receiver are of the parameters' types
  abbrev Fit : List FieldType → List Value → Type 0
  Fit parameters arguments = pointwise (is_of_type here ready.e) (as_locals (map type_of parameters)) arguments ≡ true

  prints_right : (line : Bool) (printable : Printable) → method_type_of m.descriptor ≡ Some (native_type (prints line printable))
      → (receiver : Value) (arguments : List Value) → Fit (printed_types printable) arguments → are_whole arguments ≡ true
      → IsTypedDeed r.state.world (native_step r (prints line printable) (receiver ∷ arguments) others)
  unfolding native_step type_of
  prints_right line no_value is receiver arguments fit whole =
      rw (no_value_there (is_of_type here ready.e) arguments fit) (writes_right (native_type (prints line no_value)) is refl (with_line_feed line []))
  prints_right line an_int is receiver arguments fit whole =
      let v = one_value (is_of_type here ready.e) int_type arguments fit in
      let n = int_there here ready.e v.0 v.2 in
      rw (v.1, n.1) (writes_right (native_type (prints line an_int)) is refl _)
  prints_right line a_char is receiver arguments fit whole =
      let v = one_value (is_of_type here ready.e) int_type arguments fit in
      let n = int_there here ready.e v.0 v.2 in
      rw (v.1, n.1) (writes_right (native_type (prints line a_char)) is refl _)
  prints_right line a_boolean is receiver arguments fit whole =
      let v = one_value (is_of_type here ready.e) int_type arguments fit in
      let n = int_there here ready.e v.0 v.2 in
      rw (v.1, n.1) (writes_right (native_type (prints line a_boolean)) is refl _)
  prints_right line a_string is receiver arguments fit whole =
      let v = one_value (is_of_type here ready.e) (class java_string) arguments fit in
      rw v.1 (go v.0 (class_object here ready.e java_string v.0 v.2))
    where
      go : (value : Value) → Object here ready.e (class_type java_string) value
          → IsTypedDeed r.state.world (native_step r (prints line a_string) (receiver ∷ value ∷ []) others)
      go _ no_object = writes_right (native_type (prints line a_string)) is refl _
      go _ (object id stands) =
          let u = string_there r live ready id stands in rw u.1 (writes_right (native_type (prints line a_string)) is refl _)
  prints_right line a_long is receiver arguments fit whole =
      let n = long_there here ready.e arguments fit whole in
      rw n.1 (writes_right (native_type (prints line a_long)) is refl _)

  -- a native method of an object is right
  pub native_is_right : (owner : List ℕ) (native : Native) → is_static_native native ≡ false → NativeAsks r.state.world owner native
      → method_type_of m.descriptor ≡ Some (native_type native) → (id : ℕ) → stands_for here id (class_type owner) ≡ true
      → (arguments : List Value) → Fit (native_type native).parameters arguments → are_whole arguments ≡ true
      → IsTypedDeed r.state.world (native_step r native (reference id ∷ arguments) others)
  unfolding native_step type_of
  native_is_right owner does_nothing kind asks is id stands arguments fit whole = ends (native_type does_nothing) is refl r.state (itself r.state live ready.conforms)
  native_is_right owner same_object kind asks is id stands arguments fit whole =
      let v = one_value (is_of_type here ready.e) (class java_object) arguments fit in
      rw v.1 (go v.0 (class_object here ready.e java_object v.0 v.2))
    where
      go : (value : Value) → Object here ready.e (class_type java_object) value
          → IsTypedDeed r.state.world (native_step r same_object (reference id ∷ value ∷ []) others)
      go _ no_object = gives_int (native_type same_object) is boolean_type refl refl _
      go _ (object u h) = gives_int (native_type same_object) is boolean_type refl refl _
  native_is_right owner string_length kind asks is id stands arguments fit whole =
      let u = string_there r live ready id (subst (λ (n : List ℕ). stands_for here id (class_type n) ≡ true) asks stands) in
      rw (no_value_there (is_of_type here ready.e) arguments fit, u.1) (gives_int (native_type string_length) is int_field refl refl _)
  native_is_right owner string_char_at kind asks is id stands arguments fit whole =
      let u = string_there r live ready id (subst (λ (n : List ℕ). stands_for here id (class_type n) ≡ true) asks stands) in
      let v = one_value (is_of_type here ready.e) int_type arguments fit in
      let n = int_there here ready.e v.0 v.2 in
      rw (v.1, n.1, u.1) (go (if int_le (pos 0) n.0 then slice_get u.0 (unsigned_abs n.0) else None))
    where
      go : (o : Option ℕ) → IsTypedDeed r.state.world (char_at r others o)
      go None = throws_rightly r live ready (codes "java/lang/StringIndexOutOfBoundsException") true refl
      go (Some unit) = gives_int (native_type string_char_at) is char_type refl refl _
  native_is_right owner string_equals kind asks is id stands arguments fit whole =
      let v = one_value (is_of_type here ready.e) (class java_object) arguments fit in
      rw v.1 (go v.0 (class_object here ready.e java_object v.0 v.2))
    where
      go : (value : Value) → Object here ready.e (class_type java_object) value
          → IsTypedDeed r.state.world (native_step r string_equals (reference id ∷ value ∷ []) others)
      go _ no_object = gives_int (native_type string_equals) is boolean_type refl refl _
      go _ (object other h) =
          let u = string_there r live ready id (subst (λ (n : List ℕ). stands_for here id (class_type n) ≡ true) asks stands) in
          let c = contents_there r live ready other java_object h in
          rw (u.1, c.1) (gives_int (native_type string_equals) is boolean_type refl refl _)
  native_is_right owner string_concat kind asks is id stands arguments fit whole =
      let v = one_value (is_of_type here ready.e) (class java_string) arguments fit in
      rw v.1 (go v.0 (class_object here ready.e java_string v.0 v.2))
    where
      string_self : stands_for here id (class_type java_string) ≡ true
      string_self = subst (λ (n : List ℕ). stands_for here id (class_type n) ≡ true) asks stands

      joined : (first second : List ℕ) → IsTypedDeed r.state.world (concatenates r id first second others)
      joined first [] = gives_value (native_type string_concat) is java_string refl (reference id) string_self
      joined first (unit ∷ units) = gives_string (native_type string_concat) is refl (first ++ unit ∷ units)

      go : (value : Value) → Object here ready.e (class_type java_string) value
          → IsTypedDeed r.state.world (native_step r string_concat (reference id ∷ value ∷ []) others)
      go _ no_object = throws_rightly r live ready (codes "java/lang/NullPointerException") true refl
      go _ (object other h) =
          let u = string_there r live ready id string_self in
          let w = string_there r live ready other h in
          rw (u.1, w.1) (joined u.0 w.0)
  native_is_right owner string_value_of kind asks is id stands arguments fit whole = absurd cc
  native_is_right owner sets_target kind asks is id stands arguments fit whole =
      let v = one_value (is_of_type here ready.e) (class (codes "java/lang/Runnable")) arguments fit in
      rw v.1 (sets_right (native_type sets_target) is refl owner (codes "java/lang/Runnable") id target_field asks runnable_read stands v.0 v.2)
  native_is_right owner starts_a_thread kind asks is id stands arguments fit whole =
      rw (no_value_there (is_of_type here ready.e) arguments fit)
      (start_is_right r live ready on m (native_type starts_a_thread) is refl others left fewer owner id asks stands)
  native_is_right owner joins_a_thread kind asks is id stands arguments fit whole =
      rw (no_value_there (is_of_type here ready.e) arguments fit)
      (join_is_right r live ready on m (native_type joins_a_thread) is refl others left fewer owner id asks stands)
  native_is_right owner (prints line printable) kind asks is id stands arguments fit whole =
      prints_right line printable is (reference id) arguments fit whole
  native_is_right owner sets_message kind asks is id stands arguments fit whole =
      let v = one_value (is_of_type here ready.e) (class java_string) arguments fit in
      rw v.1 (sets_right (native_type sets_message) is refl owner java_string id message_field asks message_read stands v.0 v.2)
  native_is_right owner gets_message kind asks is id stands arguments fit whole =
      let there = field_there r live ready on owner message_field id asks stands in
      let found = field_found r live ready on id message_field message_field (class_type java_string) there refl message_read in
      rw (no_value_there (is_of_type here ready.e) arguments fit, found.0)
      (gives_value (native_type gets_message) is java_string refl there.value found.1)
  native_is_right owner requests_an_update kind asks is id stands arguments fit whole = absurd cc

  -- a static one is right
  pub static_native_is_right : (native : Native) → is_static_native native ≡ true
      → method_type_of m.descriptor ≡ Some (native_type native)
      → (arguments : List Value) → Fit (native_type native).parameters arguments
      → IsTypedDeed r.state.world (native_step r native arguments others)
  unfolding native_step type_of
  static_native_is_right string_value_of kind is arguments fit =
      let v = one_value (is_of_type here ready.e) int_type arguments fit in
      let n = int_there here ready.e v.0 v.2 in
      rw (v.1, n.1) (gives_string (native_type string_value_of) is refl (signed_decimal n.0))
  static_native_is_right requests_an_update kind is arguments fit =
      rw (no_value_there (is_of_type here ready.e) arguments fit)
      (ends (native_type requests_an_update) is refl (record r.state { requests = r.state.requests + 1 }) (requesting r.state live ready.conforms))
  static_native_is_right native kind is arguments fit = absurd cc
