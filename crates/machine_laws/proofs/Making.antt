-- `new`, `checkcast`, `instanceof`, and `ldc` of a string are right.
use Rattle.std.proofs.Common.{◌≡◌, ℕ, suc, pos, List, [], ◌∷◌, ◌++◌, Option, Some, None, Bool, true, false, refl, ap, sym, subst, ◌∙◌, if◌then◌else◌, length, option_and_then, codes, find, cond}
use Rattle.std.specs.Prelude.{is_some, bytes_eq, not, ◌&&◌, nat_le}
use Rattle.std.specs.List.{list_all}
use Rattle.std.proofs.lemmas.Bool.{and_parts, or_left}
use lib.Pointwise.{pointwise}
use Rattle.jv_model.specs.Partial.{passes}
use Rattle.jv_model.specs.Descriptors.{FieldType, class_type, array_of}
use Rattle.jv_model.specs.Operand.{MemberReference, Operand}
use Rattle.jv_model.specs.Code.{Body}
use Rattle.jv_model.specs.Flow.{goes_on as flow_goes_on}
use Rattle.world_model.specs.World.{World, Class, class_in, is_stub}
use Rattle.world_model.specs.BootNames.{java_object, java_string}
use Rattle.world_model.specs.Layout.{layout}
use Rattle.code_model.specs.TypeReading.{field_type_of}
use Rattle.typing_model.specs.VerificationType.{VerificationType, top, int as int_type, new_at, class, TypeFrame, is_same, type_of, words_of}
use Rattle.typing_model.specs.Assignable.{is_subtype}
use Rattle.typing_model.specs.ObjectTypes.{forgotten}
use Rattle.typing_model.specs.Environment.{named_type, array_or_class}
use Rattle.typing_model.specs.Transition.{to, below, pushed, changed}
use Rattle.machine_model.specs.Value.{Value, int, null, reference, zeros}
use Rattle.machine_model.specs.Heap.{Contents, instance, string, contents_at, words_of as words_of_object, with_object}
use Rattle.machine_model.specs.ObjectTypes.{own_type, is_instance_of}
use Rattle.machine_model.specs.State.{Interned}
use Rattle.machine_model.specs.Deed.{Deed, throws, Running, goes_on, frame_after}
use Rattle.machine_model.specs.ObjectSteps.{new_contents, new_object, is_of, check_cast, instance_of}
use Rattle.machine_model.specs.Strings.{interned_string, with_interned, pushes_interned, load_string}
use Rattle.machine_model.specs.TypedValues.{HeapTyping, heap_typing, stands_for, is_in_use, class_made_at, is_of_type, are_of_types, fits_frame}
use Rattle.machine_model.specs.Conforms.{is_present, contents_conform, is_string, literal_conforms}
use Rattle.frame_laws.proofs.Taking.{known_of, stands_in_use, length_is_words}
use Rattle.frame_laws.proofs.Outcome.{some_inj, both, pushed_is, changed_is}
use Rattle.frame_laws.proofs.Numbers.{int_lands}
use Rattle.frame_laws.proofs.Onward.{subsumes}
use Rattle.link_laws.proofs.Names.{same_text, text_same}
use Rattle.machine_laws.specs.Runnable.{is_operand}
use Rattle.machine_laws.proofs.TypedStates.{IsTypedDeed}
use Rattle.machine_laws.proofs.Heaps.{typed_is, and_next, allocated, new_type, new_contents_at}
use Rattle.machine_laws.proofs.Ready.{Ready, Follows, itself, allocating, throws_rightly, operands_fit, operands_then, locals_then, finishes_rightly, pushes_rightly}
use Rattle.machine_laws.proofs.Operands.{lands, Object, no_object, object, class_object, take_wanted, one_place}
use Rattle.machine_laws.proofs.ArrayStores.{subtype_stands}
use Rattle.machine_laws.proofs.Zeros.{zeros_declared}
use Rattle.machine_laws.proofs.Objects.{stands_itself}
use Rattle.machine_laws.proofs.Numbers.{gives_rightly}

-- a class or an array type, as a Class entry names one
abbrev pub is_class_or_array : FieldType → Bool
is_class_or_array (class_type name) = true
is_class_or_array (array_of component) = true
is_class_or_array other = false

pub is_named : (name : List ℕ) → is_class_or_array (named_type name) ≡ true
is_named name = go (field_type_of name)
  where
    go : (o : Option FieldType) → is_class_or_array (array_or_class name o) ≡ true
    go (Some (array_of component)) = refl
    go other = refl

-- the contents of a new object of a class have the class's type
pub made_type : (world : World) (name : List ℕ) → own_type (new_contents world name) ≡ class_type name
made_type world name = go (bytes_eq name java_string) refl
  where
    go : (b : Bool) → bytes_eq name java_string ≡ b
        → own_type (if b then string [] else instance name (zeros (layout world name))) ≡ class_type name
    go true is = ap (λ (n : List ℕ). class_type n) (sym (same_text name java_string is))
    go false is = refl

-- and they conform, where the class is there and its fields have descriptors
pub made_conforms : (heap : HeapTyping) (name : List ℕ) → is_present heap.world name ≡ true
    → list_all (λ (f : MemberReference). is_some (field_type_of f.descriptor)) (layout heap.world name) ≡ true
    → contents_conform heap (new_contents heap.world name) ≡ true
made_conforms heap name present fields = go (bytes_eq name java_string) refl
  where
    go : (b : Bool) → bytes_eq name java_string ≡ b
        → contents_conform heap (if b then string [] else instance name (zeros (layout heap.world name))) ≡ true
    go true is = refl
    go false is = both (is_present heap.world name && not (bytes_eq name java_string)) _
        (both (is_present heap.world name) (not (bytes_eq name java_string)) present (ap not is)) (zeros_declared heap (layout heap.world name) fields)

-- a class that is present is there
present_there : (world : World) (name : List ℕ) → is_present world name ≡ true → is_some (class_in world name) ≡ true
present_there world name h = go (class_in world name) h
  where
    go : (o : Option Class) → passes (λ (c : Class). not (is_stub c)) o ≡ true → is_some o ≡ true
    go None h = absurd cc
    go (Some c) h = refl

-- what is found in a list passes what all pass
pub found_passes : {A : Type 0} (test p : A → Bool) (xs : List A) (x : A) → find test xs ≡ Some x → list_all p xs ≡ true
    → (p x ≡ true) × (test x ≡ true)
found_passes test p [] x h all = absurd cc
found_passes test p (y ∷ ys) x h all = go (test y) refl h (λ k. found_passes test p ys x k (and_parts (p y) (list_all p ys) all).1)
  where
    go : (b : Bool) → test y ≡ b → cond b (Some y) (find test ys) ≡ Some x
        → (find test ys ≡ Some x → (p x ≡ true) × (test x ≡ true)) → (p x ≡ true) × (test x ≡ true)
    go true is h rest = (
      sym (ap p (some_inj h)) ∙ (and_parts (p y) (list_all p ys) all).0,
      sym (ap test (some_inj h)) ∙ is,
    )
    go false is h rest = rest h

module _ (r : Running) (live : ℕ → Bool) (ready : Ready r live) (on : flow_goes_on ready.at.placed.instruction ≡ true) where
  abbrev heap : HeapTyping
  heap = heap_typing r.state live

  -- ---- casts

  -- an object is asked whether it is of a type; where it is, it stands for it
  asked_of : (id : ℕ) (name : List ℕ) → is_in_use heap id ≡ true
      → (fits : Bool) × (is_of r (reference id) name ≡ Some fits) × (fits ≡ true → stands_for heap id (named_type name) ≡ true)
  asked_of id name used = go (heap.type_at id) refl used
    where
      go : (o : Option FieldType) → heap.type_at id ≡ o → is_some o ≡ true
          → (fits : Bool) × (is_of r (reference id) name ≡ Some fits) × (fits ≡ true → stands_for heap id (named_type name) ≡ true)
      go None at used = absurd cc
      go (Some own) at used =
          let is = typed_is r.state live id own at in (
            is_instance_of r.state.world (named_type name) is.1,
            ap (option_and_then (λ contents. Some (is_instance_of r.state.world (named_type name) contents))) is.2,
            λ h. rw at (subtype_stands r.state.world own (named_type name) (sym (ap (λ (o : FieldType). is_subtype r.state.world o (named_type name)) is.3) ∙ h)),
          )

  -- null, or an object that stands for Object, lies on top
  object_on : (types rest : List VerificationType) → changed ready.e (to ready.e (class java_object) ∷ []) types ready.before ≡ Some ready.at.applies.after
      → (deed : List Value → Deed)
      → ((others : List Value) (rest : List VerificationType) → pushed ready.e types (record ready.before { stack = rest }) ≡ Some ready.at.applies.after
      → are_of_types heap ready.e rest others ≡ true → IsTypedDeed r.state.world (deed (null ∷ others)))
      → ((id : ℕ) (others : List Value) (rest : List VerificationType) → pushed ready.e types (record ready.before { stack = rest }) ≡ Some ready.at.applies.after
      → are_of_types heap ready.e rest others ≡ true → is_in_use heap id ≡ true → IsTypedDeed r.state.world (deed (reference id ∷ others)))
      → IsTypedDeed r.state.world (deed r.frame.stack)
  unfolding below
  object_on types rest h deed of_null of_object =
      let c = changed_is ready.e (to ready.e (class java_object) ∷ []) types ready.before ready.at.applies.after h in
      let x = take_wanted heap ready.e (subsumes heap ready.runnable.verified ready.e ready.typed) (class java_object) [] ready.before.stack c.0 r.frame.stack refl c.1 (operands_fit r live ready) in
      subst (λ (vs : List Value). IsTypedDeed r.state.world (deed vs)) (sym (x.is ∙ one_place heap ready.e (class java_object) x.value x.others refl x.of))
      (of x.value x.others c.0 c.2 (subst (λ (ts : List VerificationType). are_of_types heap ready.e ts x.others ≡ true) (some_inj x.are_below) x.fit) (class_object heap ready.e java_object x.value x.of))
    where
      of : (value : Value) (others : List Value) (rest : List VerificationType) → pushed ready.e types (record ready.before { stack = rest }) ≡ Some ready.at.applies.after
          → are_of_types heap ready.e rest others ≡ true → Object heap ready.e (class_type java_object) value
          → IsTypedDeed r.state.world (deed (value ∷ others))
      of _ others rest h f no_object = of_null others rest h f
      of _ others rest h f (object id stands) = of_object id others rest h f (stands_in_use heap id (class_type java_object) stands)

  -- `instanceof` is right
  pub instance_of_is_right : (name : List ℕ)
      → changed ready.e (to ready.e (class java_object) ∷ []) (int_type ∷ []) ready.before ≡ Some ready.at.applies.after
      → IsTypedDeed r.state.world (instance_of r name r.frame.stack)
  unfolding below
  instance_of_is_right name h = object_on (int_type ∷ []) [] h (instance_of r name)
      (λ others rest h f. gives_rightly r live ready on int_type rest rest (int (pos 0)) others h refl f (int_lands heap ready.e (pos 0)))
      (λ id others rest h f used.
      let q = asked_of id name used in
      rw q.1 (gives_rightly r live ready on int_type rest rest (int (if q.0 then pos 1 else pos 0)) others h refl f (int_lands heap ready.e _)))

  -- a named type is a class or an array
  named_lands : (type : FieldType) → (class_or_array : is_class_or_array type ≡ true) → (id : ℕ) → stands_for heap id type ≡ true
      → is_of_type heap ready.e (type_of type) (reference id) ≡ true
  unfolding is_of_type type_of
  named_lands (class_type name) is id h = h
  named_lands (array_of c) is id h = h
  named_lands type is id h = absurd cc

  null_lands_in : (type : FieldType) → is_class_or_array type ≡ true → is_of_type heap ready.e (type_of type) null ≡ true
  unfolding is_of_type type_of
  null_lands_in (class_type name) is = refl
  null_lands_in (array_of c) is = refl
  null_lands_in type is = absurd cc

  named_operand : (type : FieldType) → is_class_or_array type ≡ true → is_operand (type_of type) ≡ true
  unfolding type_of
  named_operand (class_type name) is = refl
  named_operand (array_of c) is = refl
  named_operand type is = absurd cc

  -- `checkcast` is right
  pub check_cast_is_right : (name : List ℕ)
      → changed ready.e (to ready.e (class java_object) ∷ []) (type_of (named_type name) ∷ []) ready.before ≡ Some ready.at.applies.after
      → IsTypedDeed r.state.world (check_cast r name r.frame.stack)
  unfolding below
  check_cast_is_right name h = object_on (type_of (named_type name) ∷ []) [] h (check_cast r name)
      (λ others rest h f. gives_rightly r live ready on (type_of (named_type name)) rest rest null others h refl f
      (lands heap ready.e (type_of (named_type name)) null (named_operand (named_type name) (is_named name)) (null_lands_in (named_type name) (is_named name))))
      (λ id others rest h f used.
      let q = asked_of id name used in
      rw q.1 (either id others rest h f q.0 q.2))
    where
      either : (id : ℕ) (others : List Value) (rest : List VerificationType)
          → pushed ready.e (type_of (named_type name) ∷ []) (record ready.before { stack = rest }) ≡ Some ready.at.applies.after
          → are_of_types heap ready.e rest others ≡ true → (b : Bool) → (b ≡ true → stands_for heap id (named_type name) ≡ true)
          → IsTypedDeed r.state.world (if b then goes_on r r.state (reference id ∷ others) else throws (codes "java/lang/ClassCastException") false)
      either id others rest h f false stands = throws_rightly r live ready (codes "java/lang/ClassCastException") false refl
      either id others rest h f true stands =
          gives_rightly r live ready on (type_of (named_type name)) rest rest (reference id) others h refl f
          (lands heap ready.e (type_of (named_type name)) (reference id) (named_operand (named_type name) (is_named name)) (named_lands (named_type name) (is_named name) id (stands refl)))

  -- ---- new objects

  -- locals fit where what the same `new` made before is forgotten
  forgets : (pc : ℕ) (types : List VerificationType) (values : List Value) → (typing : HeapTyping)
      → pointwise (is_of_type typing ready.e) types values ≡ true
      → pointwise (is_of_type typing ready.e) (forgotten pc types) values ≡ true
  unfolding is_of_type
  forgets pc [] [] typing h = refl
  forgets pc [] (v ∷ values) typing h = absurd cc
  forgets pc (t ∷ types) [] typing h = absurd cc
  forgets pc (t ∷ types) (v ∷ values) typing h =
      let p = and_parts (is_of_type typing ready.e t v) (pointwise (is_of_type typing ready.e) types values) h in
      both (is_of_type typing ready.e (if is_same (new_at pc) t then top else t) v) (pointwise (is_of_type typing ready.e) (forgotten pc types) values)
      (either (is_same (new_at pc) t) p.0) (forgets pc types values typing p.1)
    where
      either : (b : Bool) → is_of_type typing ready.e t v ≡ true → is_of_type typing ready.e (if b then top else t) v ≡ true
      either true f = known_of typing ready.e t v f
      either false f = f

  -- `new` is right
  pub new_is_right : (name : List ℕ) → is_present r.state.world name ≡ true
      → class_made_at ready.e ready.at.placed.pc ≡ Some name
      → pushed ready.e (new_at ready.at.placed.pc ∷ []) (record ready.before { locals = forgotten ready.at.placed.pc ready.before.locals }) ≡ Some ready.at.applies.after
      → IsTypedDeed r.state.world (new_object r name)
  unfolding is_of_type are_of_types
  new_is_right name present made h =
      let contents : Contents = new_contents r.state.world name in
      let more = and_next r.state live in
      let after = allocated r.state live contents in
      let follows = allocating r.state live contents ready.conforms
      (made_conforms (heap_typing after more) name present (ready.runnable.fields name present)) in
      let pc = ready.at.placed.pc in
      let p = pushed_is ready.e (new_at pc ∷ []) (record ready.before { locals = forgotten pc ready.before.locals }) ready.at.applies.after h in
      let stands : stands_for (heap_typing after more) (length r.state.heap) (class_type name) ≡ true =
      rw (new_type r.state live contents (class_type name) (made_type r.state.world name)) (stands_itself r.state.world (class_type name)) in
      let fit : are_of_types (heap_typing after more) ready.e (new_at pc ∷ ready.before.stack) (reference (length r.state.heap) ∷ r.frame.stack) ≡ true =
      both (passes (λ n. stands_for (heap_typing after more) (length r.state.heap) (class_type n)) (class_made_at ready.e pc)) (are_of_types (heap_typing after more) ready.e ready.before.stack r.frame.stack)
      (rw made stands) (operands_then r live ready after more follows ready.before.stack r.frame.stack (operands_fit r live ready)) in
      rw (present_there r.state.world name present)
      (finishes_rightly r live ready after more follows (words_of_object contents) false (reference (length r.state.heap) ∷ r.frame.stack) on
      (subst (λ (a : TypeFrame). fits_frame (heap_typing after more) ready.e (frame_after r (reference (length r.state.heap) ∷ r.frame.stack)) a ≡ true) p.1
      (both (pointwise (is_of_type (heap_typing after more) ready.e) (forgotten pc ready.before.locals) r.frame.locals) (are_of_types (heap_typing after more) ready.e (new_at pc ∷ ready.before.stack) (reference (length r.state.heap) ∷ r.frame.stack))
      (forgets pc ready.before.locals r.frame.locals (heap_typing after more) (locals_then r live ready after more follows)) fit))
      (or_left (nat_le (suc (length r.frame.stack)) r.body.max_stack) (nat_le (suc (length r.frame.stack)) (length r.frame.stack))
      (ap (λ (n : ℕ). nat_le n r.body.max_stack) (length_is_words (heap_typing after more) ready.e (new_at pc ∷ ready.before.stack) (reference (length r.state.heap) ∷ r.frame.stack) fit)
      ∙ (ap (λ (b : Body Operand). nat_le (words_of (new_at pc ∷ ready.before.stack)) b.max_stack) ready.same_body ∙ p.0))))

  -- ---- literals

  -- the string of a literal stands for a String
  literal_stands : (units : List ℕ) (row : Interned) → literal_conforms r.state heap row ≡ true
      → stands_for heap row.id (class_type java_string) ≡ true
  literal_stands units row h =
      let p = and_parts (is_in_use heap row.id) (passes (is_string row.units) (contents_at r.state.heap row.id)) h in
      go (heap.type_at row.id) refl p.0 p.1
    where
      string_type : (c : Contents) → is_string row.units c ≡ true → own_type c ≡ class_type java_string
      string_type (string units) h = refl
      string_type c h = absurd cc

      go : (o : Option FieldType) → heap.type_at row.id ≡ o → is_some o ≡ true
          → passes (is_string row.units) (contents_at r.state.heap row.id) ≡ true → stands_for heap row.id (class_type java_string) ≡ true
      go None at used h = absurd cc
      go (Some own) at used h =
          let is = typed_is r.state live row.id own at in
          let same : own ≡ class_type java_string = sym is.3 ∙ string_type is.1 (sym (ap (passes (is_string row.units)) is.2) ∙ h) in
          rw (at ∙ ap Some same) (stands_itself r.state.world (class_type java_string))

  -- with a literal's string, which is new
  interning : (units : List ℕ) → Follows r.state live (with_interned units r.state) (and_next r.state live)
  interning units =
      let f = allocating r.state live (string units) ready.conforms refl in
      record {
        conforms = record {
          threads = f.conforms.threads;
          shared = record {
            statics = f.conforms.shared.statics;
            static_fields = f.conforms.shared.static_fields;
            class_monitors = f.conforms.shared.class_monitors;
            literals = all_and_last (literal_conforms (with_interned units r.state) (heap_typing (with_interned units r.state) (and_next r.state live))) r.state.interned (record { units = units; id = length r.state.heap }) f.conforms.shared.literals
                (both (is_in_use (heap_typing (with_interned units r.state) (and_next r.state live)) (length r.state.heap)) (passes (is_string units) (contents_at (with_object (string units) r.state.heap) (length r.state.heap)))
                (ap is_some (new_type r.state live (string units) (class_type java_string) refl))
                (ap (passes (is_string units)) (new_contents_at r.state live (string units)) ∙ text_same units units refl));
            arguments = f.conforms.shared.arguments;
            objects = f.conforms.shared.objects;
          };
        };
        same_world = refl;
        grows = f.grows;
      }
    where
      all_and_last : {A : Type 0} (test : A → Bool) (xs : List A) (x : A) → list_all test xs ≡ true → test x ≡ true
          → list_all test (xs ++ x ∷ []) ≡ true
      all_and_last test [] x all h = both (test x) true h refl
      all_and_last test (y ∷ ys) x all h =
          let p = and_parts (test y) (list_all test ys) all in
          both (test y) (list_all test (ys ++ x ∷ [])) p.0 (all_and_last test ys x p.1 h)

  -- `ldc` of a string is right
  pub load_string_is_right : (units : List ℕ) → pushed ready.e (class java_string ∷ []) ready.before ≡ Some ready.at.applies.after
      → IsTypedDeed r.state.world (load_string r units)
  unfolding is_of_type are_of_types
  load_string_is_right units h = go (interned_string units r.state) refl
    where
      go : (o : Option Interned) → interned_string units r.state ≡ o → IsTypedDeed r.state.world (pushes_interned r units o)
      go (Some row) is =
          let row_is = found_passes (λ (i : Interned). bytes_eq i.units units) (literal_conforms r.state heap) r.state.interned row is ready.conforms.shared.literals in
          pushes_rightly r live ready r.state live (itself r.state live ready.conforms) 0 false (class java_string ∷ []) ready.before.stack (reference row.id ∷ r.frame.stack) on h
          (both (stands_for heap row.id (class_type java_string)) (are_of_types heap ready.e ready.before.stack r.frame.stack) (literal_stands units row row_is.0) (operands_fit r live ready))
      go None is =
          let more = and_next r.state live in
          let after = with_interned units r.state in
          pushes_rightly r live ready after more (interning units) (words_of_object (string units)) false (class java_string ∷ []) ready.before.stack (reference (length r.state.heap) ∷ r.frame.stack) on h
          (both (stands_for (heap_typing after more) (length r.state.heap) (class_type java_string)) (are_of_types (heap_typing after more) ready.e ready.before.stack r.frame.stack)
          (rw (new_type r.state live (string units) (class_type java_string) refl) (stands_itself r.state.world (class_type java_string)))
          (operands_then r live ready after more (interning units) ready.before.stack r.frame.stack (operands_fit r live ready)))
