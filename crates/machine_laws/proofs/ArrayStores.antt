-- Array stores, `arraylength` and `newarray` are right.
use Rattle.std.proofs.Common.{◌≡◌, ℕ, ℤ, zero, suc, ◌<◌, unsigned_abs, List, [], ◌∷◌, Some, Bool, true, false, refl, ap, sym, subst, ◌∙◌, if◌then◌else◌, length, slice_set, option_map, codes, nat_le, arith}
use Rattle.std.specs.Prelude.{is_some, bytes_eq, ◌||◌}
use Rattle.std.specs.List.{list_all}
use Rattle.std.proofs.lemmas.Bool.{and_parts, or_left, or_right, le-leb}
use Rattle.jv_model.specs.Descriptors.{FieldType, byte_type, char_type, int_type as int_field, long_type as long_field, short_type, boolean_type, class_type, array_of}
use Rattle.jv_model.specs.Flow.{goes_on as flow_goes_on}
use Rattle.jv_model.specs.Instruction.{ValueKind, of_int, of_long, of_reference, ElementKind, ints, longs, references, bytes, chars, shorts}
use Rattle.world_model.specs.World.{World}
use Rattle.world_model.specs.BootNames.{java_object}
use Rattle.world_model.specs.Supertypes.{is_sub}
use Rattle.typing_model.specs.VerificationType.{VerificationType, null as null_type, class, array as array_type, is_int, is_long, is_same_field_type}
use Rattle.typing_model.specs.Assignable.{is_subtype, names_interface}
use Rattle.typing_model.specs.ArrayTypes.{is_array_of, is_element, array_stored}
use Rattle.typing_model.specs.Environment.{Environment}
use Rattle.typing_model.specs.Transition.{Test, to, below}
use Rattle.machine_model.specs.Value.{Value, int, long, null, reference, taken_of}
use Rattle.machine_model.specs.Heap.{Contents, array}
use Rattle.machine_model.specs.ObjectTypes.{is_instance_of}
use Rattle.machine_model.specs.State.{State}
use Rattle.machine_model.specs.Deed.{throws, Running, goes_on, ◌>>=◌}
use Rattle.machine_model.specs.ArraySteps.{kind_of_elements, element_at, narrowed, fits_element, with_elements, stores_element, stores_at, store_element, out_of_bounds}
use Rattle.machine_model.specs.TypedValues.{HeapTyping, heap_typing, may_stand, stands_for, is_of_type, are_of_types, holds}
use Rattle.machine_model.specs.Conforms.{is_string}
use Rattle.frame_laws.proofs.Taking.{take_int, take_long}
use Rattle.frame_laws.proofs.Outcome.{both, popped_is}
use Rattle.frame_laws.proofs.Verified.{Subsumes, some_and_is}
use Rattle.frame_laws.proofs.Onward.{subsumes}
use Rattle.frame_laws.proofs.Growing.{all_pass, holds_kept}
use Rattle.machine_laws.proofs.TypedStates.{IsTypedDeed}
use Rattle.machine_laws.proofs.Heaps.{typed_is, rewriting_grows}
use Rattle.machine_laws.proofs.Ready.{Ready, rewriting, throws_rightly, operands_fit, operands_then, pops_rightly}
use Rattle.machine_laws.proofs.Operands.{one_place, Object, no_object, object, class_object, take_wanted}
use Rattle.machine_laws.proofs.ArrayLoads.{ArrayThere, array_there, fits_kind, FitsAll, kinded, any_array, load_shape}

-- an object of a subtype may stand where the type is declared
pub subtype_stands : (world : World) (from to : FieldType) → is_subtype world from to ≡ true → may_stand world from to ≡ true
unfolding is_subtype may_stand is_same_field_type
subtype_stands world (class_type from) (class_type to) h =
    or_right (bytes_eq to java_object) (bytes_eq from to || names_interface world to || is_sub world from to) (or_right (bytes_eq from to || names_interface world to) (is_sub world from to) h)
subtype_stands world (array_of from) (class_type to) h = or_left (bytes_eq to java_object) (names_interface world to) h
subtype_stands world (array_of from) (array_of to) h = subtype_stands world from to h
subtype_stands world from to h = h

-- what all pass they pass with another in a place
pub all_set : {A : Type 0} (test : A → Bool) (xs : List A) (n : ℕ) (x : A) → list_all test xs ≡ true → test x ≡ true
    → list_all test (slice_set xs n x) ≡ true
all_set test [] n x all h = refl
all_set test (y ∷ ys) zero x all h = both (test x) (list_all test ys) h (and_parts (test y) (list_all test ys) all).1
all_set test (y ∷ ys) (suc n) x all h =
    let p = and_parts (test y) (list_all test ys) all in
    both (test y) (list_all test (slice_set ys n x)) p.0 (all_set test ys n x p.1 h)

-- ---- what is stored

-- a value that an instruction of a kind stores: an int, a long, null, or an object in use
-- whether an instruction of a kind stores ints
abbrev pub is_int_kind : ElementKind → Bool
is_int_kind longs = false
is_int_kind references = false
is_int_kind other = true

pub data Storable (heap : HeapTyping) : ElementKind → Value → Type 0 where
  an_int : (kind : ElementKind) (n : ℤ) → is_int_kind kind ≡ true → Storable heap kind (int n)
  a_long : (n : ℤ) → Storable heap longs (long n)
  a_null : Storable heap references null
  an_object : (id : ℕ) (type : FieldType) → heap.type_at id ≡ Some type → Storable heap references (reference id)

-- a value that is stored may stand in a place of that type
abbrev pub fits_place : HeapTyping → FieldType → Value → Bool
fits_place heap type (reference id) = stands_for heap id type
fits_place heap type value = true

-- what is left in an element of a type that fits the kind, which holds it
pub is_stored : (heap : HeapTyping) (kind : ElementKind) (type : FieldType) (value : Value) → fits_kind kind type ≡ true
    → Storable heap kind value
    → (left : Value) × (narrowed kind type value ≡ Some left) × (fits_place heap type value ≡ true → holds heap type left ≡ true)
is_stored heap ints int_field _ fits (an_int _ n is) = (int n, refl, λ h. refl)
is_stored heap bytes byte_type _ fits (an_int _ n is) = (_, refl, λ h. refl)
is_stored heap bytes boolean_type _ fits (an_int _ n is) = (_, refl, λ h. refl)
is_stored heap chars char_type _ fits (an_int _ n is) = (_, refl, λ h. refl)
is_stored heap shorts short_type _ fits (an_int _ n is) = (_, refl, λ h. refl)
is_stored heap longs long_field _ fits (a_long n) = (long n, refl, λ h. refl)
is_stored heap references (class_type name) _ fits a_null = (null, refl, λ h. refl)
is_stored heap references (array_of c) _ fits a_null = (null, refl, λ h. refl)
is_stored heap references (class_type name) _ fits (an_object id own at) = (reference id, refl, λ h. h)
is_stored heap references (array_of c) _ fits (an_object id own at) = (reference id, refl, λ h. h)
is_stored heap kind type _ fits (an_int _ n is) = absurd cc
is_stored heap kind type value fits storable = absurd cc

module _ (r : Running) (live : ℕ → Bool) (ready : Ready r live) (on : flow_goes_on ready.at.placed.instruction ≡ true) where
  abbrev heap : HeapTyping
  heap = heap_typing r.state live

  -- an object is asked whether it fits; where it does, it may stand there
  asked : (kind : ElementKind) (type : FieldType) (value : Value) → Storable heap kind value
      → (fits : Bool) × (fits_element r type value ≡ Some fits) × (fits ≡ true → fits_place heap type value ≡ true)
  asked kind type _ (an_int _ n is) = (true, refl, λ h. refl)
  asked kind type _ (a_long n) = (true, refl, λ h. refl)
  asked kind type _ a_null = (true, refl, λ h. refl)
  asked kind type _ (an_object id own at) =
      let is = typed_is r.state live id own at in (
        is_instance_of r.state.world type is.1,
        ap (option_map (is_instance_of r.state.world type)) is.2,
        λ h. rw at (subtype_stands r.state.world own type (sym (ap (λ (o : FieldType). is_subtype r.state.world o type) is.3) ∙ h)),
      )

  -- an element is stored in an array
  stores_in : (kind : ElementKind) (component : FieldType) (id : ℕ) (index : ℤ) (value : Value) (rest : List VerificationType)
      (others : List Value) → is_array_of ready.e kind (array_type component) ≡ true
      → (a : ArrayThere r.state heap id component) → Storable heap kind value
      → record ready.before { stack = rest } ≡ ready.at.applies.after → are_of_types heap ready.e rest others ≡ true
      → nat_le (length others) (length r.frame.stack) ≡ true
      → IsTypedDeed r.state.world (stores_element r kind id (array a.type a.elements) index value others)
  stores_in kind component id index value rest others taken a storable h f fewer = within (is_some (element_at a.elements index))
    where
      fits : fits_kind kind a.type ≡ true
      fits = subst (λ (w : World). FitsAll w kind component) ready.typed.same_world (kinded ready.e kind component taken) a.type a.stands

      new_contents : Value → Contents
      new_contents left = array a.type (slice_set a.elements (unsigned_abs index) left)

      no_string : (units : List ℕ) → is_string units (array a.type a.elements) ≡ false
      no_string units = refl

      puts : (left : Value) → holds heap a.type left ≡ true
          → IsTypedDeed r.state.world (goes_on r (with_elements id a.type (slice_set a.elements (unsigned_abs index) left) r.state) others)
      puts left held =
          let grows = rewriting_grows r.state live id (array a.type a.elements) (new_contents left) a.there refl in
          let after : State = with_elements id a.type (slice_set a.elements (unsigned_abs index) left) r.state in
          let follows = rewriting r.state live id (array a.type a.elements) (new_contents left) a.there refl ready.conforms no_string
          (all_set (holds (heap_typing after live) a.type) a.elements (unsigned_abs index) left
          (all_pass (holds heap a.type) (holds (heap_typing after live) a.type) (λ v k. holds_kept r.state.world heap.type_at (heap_typing after live).type_at grows a.type v k) a.elements a.hold)
          (holds_kept r.state.world heap.type_at (heap_typing after live).type_at grows a.type left held)) in
          pops_rightly r live ready after live follows 0 false rest others on h (operands_then r live ready after live follows rest others f) fewer

      either : (left : Value) (b : Bool) → (b ≡ true → holds heap a.type left ≡ true)
          → IsTypedDeed r.state.world (if b then goes_on r (with_elements id a.type (slice_set a.elements (unsigned_abs index) left) r.state) others else throws (codes "java/lang/ArrayStoreException") false)
      either left true held = puts left (held refl)
      either left false held = throws_rightly r live ready (codes "java/lang/ArrayStoreException") false refl

      within : (b : Bool) → IsTypedDeed r.state.world (if b then (do
        left ← narrowed kind a.type value
        fits ← fits_element r a.type value
        if fits then goes_on r (with_elements id a.type (slice_set a.elements (unsigned_abs index) left) r.state) others
            else throws (codes "java/lang/ArrayStoreException") false) else out_of_bounds)
      within false = throws_rightly r live ready (codes "java/lang/ArrayIndexOutOfBoundsException") false refl
      within true =
          let s = is_stored heap kind a.type value fits storable in
          let q = asked kind a.type value storable in
          rw (s.1, q.1) (either s.0 q.0 (λ k. s.2 (q.2 k)))

-- What a store takes from the operands: a value of its kind.
record StoreTaken (heap : HeapTyping) (e : Environment) (kind : ElementKind) (tests : List Test)
    (rest : List VerificationType) (values : List Value) : Type 0 where
  value : Value
  others : List Value
  types : List VerificationType
  taken : taken_of (kind_of_elements kind) values ≡ Some (record { value = value; rest = others })
  storable : Storable heap kind value
  are_below : below tests types ≡ Some rest
  fit : are_of_types heap e types others ≡ true
  fewer : length others < length values

module _ (heap : HeapTyping) (e : Environment) (subsumes : Subsumes heap e) (tests : List Test) (stack rest : List VerificationType)
    (values : List Value) (fit : are_of_types heap e stack values ≡ true) where
  takes_int : (kind : ElementKind) → is_int_kind kind ≡ true → kind_of_elements kind ≡ of_int
      → below (is_int ∷ tests) stack ≡ Some rest → StoreTaken heap e kind tests rest values
  takes_int kind is same b =
      let x = take_int heap e tests stack rest values b fit in
      record {
        value = int x.found;
        others = x.others;
        types = x.types;
        taken = ap (λ (k : ValueKind). taken_of k values) same ∙ ap (taken_of of_int) x.is;
        storable = an_int kind x.found is;
        are_below = x.are_below;
        fit = x.fit;
        fewer = subst (λ (vs : List Value). length x.others < length vs) (sym x.is) (omega arith);
      }

  takes_long : below (is_long ∷ tests) stack ≡ Some rest → StoreTaken heap e longs tests rest values
  takes_long b =
      let x = take_long heap e tests stack rest values b fit in
      record {
        value = long x.found;
        others = x.others;
        types = x.types;
        taken = ap (taken_of of_long) x.is;
        storable = a_long x.found;
        are_below = x.are_below;
        fit = x.fit;
        fewer = subst (λ (vs : List Value). length x.others < length vs) (sym x.is) (omega arith);
      }

  takes_object : below (to e (class java_object) ∷ tests) stack ≡ Some rest → StoreTaken heap e references tests rest values
  takes_object b =
      let x = take_wanted heap e subsumes (class java_object) tests stack rest values refl b fit in
      of x.value x.others x.types (x.is ∙ one_place heap e (class java_object) x.value x.others refl x.of) x.are_below x.fit
      (class_object heap e java_object x.value x.of)
    where
      of : (value : Value) (others : List Value) (types : List VerificationType) → values ≡ value ∷ others
          → below tests types ≡ Some rest → are_of_types heap e types others ≡ true → Object heap e (class_type java_object) value
          → StoreTaken heap e references tests rest values
      of _ others types is b f no_object = record {
        value = null;
        others = others;
        types = types;
        taken = ap (taken_of of_reference) is;
        storable = a_null;
        are_below = b;
        fit = f;
        fewer = subst (λ (vs : List Value). length others < length vs) (sym is) (omega arith);
      }
      of _ others types is b f (object id stands) =
          let own = some_and_is (λ own. may_stand heap.world own (class_type java_object)) (heap.type_at id) stands in
          record {
            value = reference id;
            others = others;
            types = types;
            taken = ap (taken_of of_reference) is;
            storable = an_object id own.0 own.1;
            are_below = b;
            fit = f;
            fewer = subst (λ (vs : List Value). length others < length vs) (sym is) (omega arith);
          }

  takes : (kind : ElementKind) → below (is_element e kind ∷ tests) stack ≡ Some rest → StoreTaken heap e kind tests rest values
  takes ints b = takes_int ints refl refl b
  takes longs b = takes_long b
  takes references b = takes_object b
  takes bytes b = takes_int bytes refl refl b
  takes chars b = takes_int chars refl refl b
  takes shorts b = takes_int shorts refl refl b

module _ (r : Running) (live : ℕ → Bool) (ready : Ready r live) (on : flow_goes_on ready.at.placed.instruction ≡ true) where
  -- into null or into an array
  stores_of : (kind : ElementKind) (rest : List VerificationType) (others : List Value) (index : ℤ) (type : VerificationType)
      (place value : Value) → is_array_of ready.e kind type ≡ true
      → is_of_type (heap_typing r.state live) ready.e type place ≡ true → Storable (heap_typing r.state live) kind value
      → record ready.before { stack = rest } ≡ ready.at.applies.after
      → are_of_types (heap_typing r.state live) ready.e rest others ≡ true
      → nat_le (length others) (length r.frame.stack) ≡ true
      → IsTypedDeed r.state.world (stores_at r kind value (int index ∷ place ∷ others))
  unfolding is_of_type
  stores_of kind rest others index type null value taken of storable h f fewer =
      throws_rightly r live ready (codes "java/lang/NullPointerException") false refl
  stores_of kind rest others index (array_type component) (reference id) value taken of storable h f fewer =
      let a = array_there r live ready id component of in
      rw a.there (stores_in r live ready on kind component id index value rest others taken a storable h f fewer)
  stores_of kind rest others index null_type place value taken of storable h f fewer = absurd cc
  stores_of kind rest others index (array_type component) place value taken of storable h f fewer = absurd cc
  stores_of kind rest others index type place value taken of storable h f fewer =
      absurd (let any = any_array ready.e kind type taken in cc)

  -- array stores are right
  pub store_element_is_right : (kind : ElementKind) → array_stored ready.e kind ready.before ≡ Some ready.at.applies.after
      → IsTypedDeed r.state.world (store_element r kind)
  store_element_is_right kind h =
      let p = popped_is (is_element ready.e kind ∷ is_int ∷ is_array_of ready.e kind ∷ []) ready.before ready.at.applies.after h in
      let v = takes (heap_typing r.state live) ready.e (subsumes (heap_typing r.state live) ready.runnable.verified ready.e ready.typed) (is_int ∷ is_array_of ready.e kind ∷ []) ready.before.stack p.0 r.frame.stack (operands_fit r live ready) kind p.1 in
      let s = load_shape (heap_typing r.state live) ready.e kind v.types p.0 v.others v.are_below v.fit in
      rw v.taken (subst (λ (vs : List Value). IsTypedDeed r.state.world (stores_at r kind v.value vs)) (sym s.is)
      (stores_of kind p.0 s.others s.index s.type s.value v.value s.array s.of v.storable p.2 s.fit
      (le-leb _ _ (let first = v.fewer in let second : length v.others ≡ suc (suc (length s.others)) = ap length s.is in omega arith))))
