-- What calls do to types, and the frame of a method as it begins.
use Rattle.std.proofs.Common.{◌≡◌, ℕ, suc, List, [], ◌∷◌, ◌++◌, Option, Some, None, Bool, true, false, refl, ap, sym, subst, ◌∙◌, if◌then◌else◌, cond, length, slice_get, option_and_then, option_map, map, find, nat_le, inl, inr, ◌==◌}
use Rattle.std.specs.Prelude.{◌⊎◌, is_none, bytes_eq, ◌||◌, ◌&&◌, option_to_list}
use Rattle.std.specs.List.{list_any}
use Rattle.std.proofs.lemmas.Bool.{and_parts, or_cases, eqb-true}
use lib.Pointwise.{pointwise}
use Rattle.jv_model.specs.Partial.{passes, ◌>>=◌}
use Rattle.jv_model.specs.Descriptors.{FieldType, class_type, MethodType}
use Rattle.jv_model.specs.Operand.{Operand, MemberReference, class_named, member_named}
use Rattle.jv_model.specs.Flow.{goes_on as flow_goes_on}
use Rattle.jv_model.specs.Code.{Placed}
use Rattle.jv_model.specs.Instruction.{Instruction, invokevirtual, invokespecial, invokestatic, invokeinterface, new}
use Rattle.world_model.specs.World.{World, Class, Method, class_in, declared_method}
use Rattle.world_model.specs.BootNames.{is_constructor_name, is_initializer_name}
use Rattle.world_model.specs.Members.{method_named, body_of}
use Rattle.code_model.specs.TypeReading.{method_type_of}
use Rattle.typing_model.specs.VerificationType.{VerificationType, this, new_at, class, TypeFrame, is_same, type_of, words_of}
use Rattle.typing_model.specs.Environment.{Environment, environment_of}
use Rattle.typing_model.specs.CallTypes.{are_arguments, results, is_new_of, is_made_at, is_own_or_super, initialized, with_each, constructor_called, selected_called, is_special_receiver, special_called, static_called}
use Rattle.typing_model.specs.Transition.{Test, to, popped, changed, operand_at}
use Rattle.typing_model.specs.InstructionTypes.{type_step}
use Rattle.machine_model.specs.Value.{Value, reference}
use Rattle.machine_model.specs.State.{Frame}
use Rattle.machine_model.specs.LocalStep.{instruction_at}
use Rattle.machine_model.specs.TypedValues.{HeapTyping, class_made, class_made_at, stands_for, is_of_type}
use Rattle.machine_model.specs.Conforms.{calls, frame_environment}
use Rattle.link_laws.proofs.Names.{same_text}
use Rattle.frame_laws.specs.Worlds.{StandsRight}
use Rattle.frame_laws.proofs.Outcome.{some_inj, both, bind_is, when_is, changed_is, popped_is, pushed_is}
use Rattle.frame_laws.proofs.Subsumption.{same_type}
use Rattle.frame_laws.proofs.Verified.{found}

-- ---- the environment of a method

-- What the environment of a frame says of its method.
pub record OfFrame (world : World) (frame : Frame) (e : Environment) : Type 0 where
  pub class_there : class_in world frame.method.class ≡ Some e.class
  pub declared : declared_method frame.method.name frame.method.descriptor e.class ≡ Some e.method
  pub code : e.method.code ≡ Some e.body
  pub is_type : method_type_of e.method.descriptor ≡ Some e.type
  pub same_descriptor : e.method.descriptor ≡ frame.method.descriptor
  pub named : method_named world frame.method ≡ Some e.method
  pub body : body_of world frame.method ≡ Some e.body

-- what was found in a list passes the test
pub found_is : {A : Type 0} (test : A → Bool) (xs : List A) (x : A) → find test xs ≡ Some x → test x ≡ true
found_is test [] x h = absurd cc
found_is test (y ∷ ys) x h = go (test y) refl h (λ k. found_is test ys x k)
  where
    go : (b : Bool) → test y ≡ b → cond b (Some y) (find test ys) ≡ Some x → (find test ys ≡ Some x → test x ≡ true) → test x ≡ true
    go true is h rest = sym (ap test (some_inj h)) ∙ is
    go false is h rest = rest h

-- the parts of a method's environment
pub of_environment : (world : World) (c : Class) (method : Method) (e : Environment) → environment_of world c method ≡ Some e
    → (c ≡ e.class) × (method ≡ e.method) × (method.code ≡ Some e.body) × (method_type_of method.descriptor ≡ Some e.type)
of_environment world c method e h =
    let body = bind_is (λ body. method_type_of method.descriptor >>= λ type. Some (record { world = world; class = c; method = method; type = type; body = body })) method.code e h in
    let type = bind_is (λ type. Some (record { world = world; class = c; method = method; type = type; body = body.0 })) (method_type_of method.descriptor) e body.2 in
    let is = some_inj type.2 in (
      ap (λ (d : Environment). d.class) is,
      ap (λ (d : Environment). d.method) is,
      body.1 ∙ ap (λ (d : Environment). Some d.body) is,
      type.1 ∙ ap (λ (d : Environment). Some d.type) is,
    )

pub of_frame : (world : World) (frame : Frame) (e : Environment) → frame_environment world frame ≡ Some e → OfFrame world frame e
of_frame world frame e h =
    let c = bind_is (λ (c : Class). option_and_then (environment_of world c) (declared_method frame.method.name frame.method.descriptor c)) (class_in world frame.method.class) e h in
    let m = bind_is (environment_of world c.0) (declared_method frame.method.name frame.method.descriptor c.0) e c.2 in
    let is = of_environment world c.0 m.0 e m.2 in
    let found = found_is (λ (m : Method). bytes_eq m.name frame.method.name && bytes_eq m.descriptor frame.method.descriptor) c.0.methods m.0 m.1 in
    record {
      class_there = c.1 ∙ ap Some is.0;
      declared = ap (declared_method frame.method.name frame.method.descriptor) (sym is.0) ∙ (m.1 ∙ ap Some is.1);
      code = ap (λ (m : Method). m.code) (sym is.1) ∙ is.2;
      is_type = ap (λ (m : Method). method_type_of m.descriptor) (sym is.1) ∙ is.3;
      same_descriptor = ap (λ (m : Method). m.descriptor) (sym is.1) ∙ same_text m.0.descriptor frame.method.descriptor (and_parts (bytes_eq m.0.name frame.method.name) (bytes_eq m.0.descriptor frame.method.descriptor) found).1;
      named = ap (option_and_then (declared_method frame.method.name frame.method.descriptor)) c.1 ∙ (m.1 ∙ ap Some is.1);
      body = ap (option_and_then (λ (m : Method). m.code)) (ap (option_and_then (declared_method frame.method.name frame.method.descriptor)) c.1 ∙ m.1) ∙ is.2;
    }

-- ---- one type in another's place

module _ (heap : HeapTyping) (e : Environment) (old fresh : VerificationType)
    (goes : (value : Value) → is_of_type heap e old value ≡ true → is_of_type heap e fresh value ≡ true) where
  each_value : (type : VerificationType) (value : Value) → is_of_type heap e type value ≡ true
      → is_of_type heap e (if is_same old type then fresh else type) value ≡ true
  each_value type value f = go (is_same old type) refl
    where
      go : (b : Bool) → is_same old type ≡ b → is_of_type heap e (if b then fresh else type) value ≡ true
      go true is = goes value (subst (λ (t : VerificationType). is_of_type heap e t value ≡ true) (sym (same_type old type is)) f)
      go false is = f

  pub each_local : (types : List VerificationType) (values : List Value) → pointwise (is_of_type heap e) types values ≡ true
      → pointwise (is_of_type heap e) (map (λ type. if is_same old type then fresh else type) types) values ≡ true
  each_local [] [] h = refl
  each_local [] (v ∷ values) h = absurd cc
  each_local (t ∷ types) [] h = absurd cc
  each_local (t ∷ types) (v ∷ values) h =
      let p = and_parts (is_of_type heap e t v) (pointwise (is_of_type heap e) types values) h in
      both (is_of_type heap e (if is_same old t then fresh else t) v) (pointwise (is_of_type heap e) (map (λ type. if is_same old type then fresh else type) types) values) (each_value t v p.0) (each_local types values p.1)

-- ---- constructors

-- what some element passes one at a number passes
pub any_at : {A : Type 0} (test : A → Bool) (xs : List A) → list_any test xs ≡ true
    → (n : ℕ) × (x : A) × (slice_get xs n ≡ Some x) × (test x ≡ true)
any_at test [] h = absurd cc
any_at test (y ∷ ys) h = go (or_cases (test y) (list_any test ys) h) (λ k. any_at test ys k)
  where
    go : (test y ≡ true) ⊎ (list_any test ys ≡ true)
        → (list_any test ys ≡ true → (n : ℕ) × (x : _) × (slice_get ys n ≡ Some x) × (test x ≡ true))
        → (n : ℕ) × (x : _) × (slice_get (y ∷ ys) n ≡ Some x) × (test x ≡ true)
    go (inl is) rest = (0, y, refl, is)
    go (inr h) rest = let r = rest h in (suc r.0, r.1, r.2, r.3)

-- the class that a `new` makes
new_makes : (name : List ℕ) (i : Instruction Operand) → is_new_of name i ≡ true → class_made i ≡ Some name
new_makes name (new (class_named made)) h = ap Some (same_text made name h)
new_makes name i h = absurd cc

-- at the pc of a `new` of a class this class is made
pub made_at : (e : Environment) → StandsRight e.body → (name : List ℕ) (pc : ℕ) → is_made_at e name pc ≡ true
    → class_made_at e pc ≡ Some name
made_at e right name pc h =
    let a = any_at (λ (p : Placed Operand). (p.pc == pc) && is_new_of name p.instruction) e.body.instructions h in
    let p = and_parts (a.1.pc == pc) (is_new_of name a.1.instruction) a.3 in
    let there : instruction_at e.body pc ≡ Some a.1 = ap (instruction_at e.body) (sym (eqb-true a.1.pc pc p.0)) ∙ found e.body right a.0 a.1 a.2 in
    ap (option_and_then (λ (placed : Placed Operand). class_made placed.instruction)) there ∙ new_makes name a.1.instruction p.1

-- an object that a constructor was called on is one of the class that it is of then
pub initializes : (heap : HeapTyping) (e : Environment) → StandsRight e.body → (name : List ℕ) (receiver fresh : VerificationType)
    → initialized e name receiver ≡ Some fresh → (value : Value) → is_of_type heap e receiver value ≡ true
    → is_of_type heap e fresh value ≡ true
unfolding is_of_type
initializes heap e right name this fresh h value f =
    let w = when_is (is_own_or_super e name) (Some (class e.class.name)) fresh h in
    subst (λ (t : VerificationType). is_of_type heap e t value ≡ true) (some_inj w.1) (own value f)
  where
    own : (value : Value) → is_of_type heap e this value ≡ true → is_of_type heap e (class e.class.name) value ≡ true
    own (reference id) f = f
    own value f = absurd cc
initializes heap e right name (new_at pc) fresh h value f =
    let w = when_is (is_made_at e name pc) (Some (class name)) fresh h in
    subst (λ (t : VerificationType). is_of_type heap e t value ≡ true) (some_inj w.1) (made value f (made_at e right name pc w.0))
  where
    made : (value : Value) → is_of_type heap e (new_at pc) value ≡ true → class_made_at e pc ≡ Some name
        → is_of_type heap e (class name) value ≡ true
    made (reference id) f is = sym (ap (passes (λ n. stands_for heap id (class_type n))) is) ∙ f
    made value f is = absurd cc
initializes heap e right name receiver fresh h value f = absurd cc

-- ---- the shape of a call

-- The types behind a call are its result and what lies below; locals that fitted before it fit.
pub record CallShape (heap : HeapTyping) (e : Environment) (descriptor : List ℕ) (before after : TypeFrame) : Type 0 where
  pub type : MethodType
  pub is_type : method_type_of descriptor ≡ Some type
  pub rest : List VerificationType
  pub stack : after.stack ≡ results type ++ rest
  pub room : (results type ≡ []) ⊎ (nat_le (words_of after.stack) e.body.max_stack ≡ true)
  pub locals : (values : List Value) → pointwise (is_of_type heap e) before.locals values ≡ true
      → pointwise (is_of_type heap e) after.locals values ≡ true

by_changed : (heap : HeapTyping) (e : Environment) (descriptor : List ℕ) (tests : List Test) (type : MethodType)
    (before after : TypeFrame) → method_type_of descriptor ≡ Some type → changed e tests (results type) before ≡ Some after
    → CallShape heap e descriptor before after
by_changed heap e descriptor tests type before after is h =
    let c = changed_is e tests (results type) before after h in
    let p = pushed_is e (results type) (record before { stack = c.0 }) after c.2 in
    record {
      type = type;
      is_type = is;
      rest = c.0;
      stack = ap (λ (f : TypeFrame). f.stack) (sym p.1);
      room = inr (subst (λ (f : TypeFrame). nat_le (words_of f.stack) e.body.max_stack ≡ true) p.1 p.0);
      locals = λ values f. subst (λ (a : TypeFrame). pointwise (is_of_type heap e) a.locals values ≡ true) p.1 f;
    }

pub no_results : (type : MethodType) → is_none type.result ≡ true → results type ≡ []
no_results type h = go type.result h
  where
    go : (o : Option FieldType) → is_none o ≡ true → option_to_list (option_map type_of o) ≡ []
    go None h = refl
    go (Some t) h = absurd cc

by_constructor : (heap : HeapTyping) (e : Environment) → StandsRight e.body → (m : MemberReference) (type : MethodType)
    (before after : TypeFrame) → method_type_of m.descriptor ≡ Some type → constructor_called e m type before ≡ Some after
    → CallShape heap e m.descriptor before after
by_constructor heap e right m type before after is h =
    let receiver = bind_is (λ receiver. initialized e m.class receiver >>= λ object. popped (are_arguments e type ++ is_same receiver ∷ []) before >>= λ rest. if is_none type.result then Some (with_each receiver object rest) else None) (operand_at (length type.parameters) before) after h in
    let object = bind_is (λ object. popped (are_arguments e type ++ is_same receiver.0 ∷ []) before >>= λ rest. if is_none type.result then Some (with_each receiver.0 object rest) else None) (initialized e m.class receiver.0) after receiver.2 in
    let rest = bind_is (λ rest. if is_none type.result then Some (with_each receiver.0 object.0 rest) else None) (popped (are_arguments e type ++ is_same receiver.0 ∷ []) before) after object.2 in
    let last = when_is (is_none type.result) (Some (with_each receiver.0 object.0 rest.0)) after rest.2 in
    let p = popped_is (are_arguments e type ++ is_same receiver.0 ∷ []) before rest.0 rest.1 in
    let none = no_results type last.0 in
    record {
      type = type;
      is_type = is;
      rest = after.stack;
      stack = ap (λ (types : List VerificationType). types ++ after.stack) (sym none);
      room = inl none;
      locals = λ values f. subst (λ (a : TypeFrame). pointwise (is_of_type heap e) a.locals values ≡ true) (some_inj last.1)
          (each_local heap e receiver.0 object.0 (initializes heap e right m.class receiver.0 object.0 object.1) rest.0.locals values
          (subst (λ (a : TypeFrame). pointwise (is_of_type heap e) a.locals values ≡ true) p.2 f));
    }

-- what isn't nothing in one case or the other is what is in the other
pub unless_is : {A : Type 0} (b : Bool) (o : Option A) (a : A) → cond b None o ≡ Some a → (b ≡ false) × (o ≡ Some a)
unless_is true o a h = absurd cc
unless_is false o a h = (refl, h)

module _ (heap : HeapTyping) (e : Environment) (right : StandsRight e.body) (before after : TypeFrame) where
  selected_shape : (m : MemberReference) → selected_called e (member_named m) before ≡ Some after
      → CallShape heap e m.descriptor before after
  selected_shape m h =
      let type = bind_is (λ (type : MethodType). if is_constructor_name m.name || is_initializer_name m.name then None else changed e (are_arguments e type ++ to e (class m.class) ∷ []) (results type) before) (method_type_of m.descriptor) after h in
      let w = unless_is (is_constructor_name m.name || is_initializer_name m.name) (changed e (are_arguments e type.0 ++ to e (class m.class) ∷ []) (results type.0) before) after type.2 in
      by_changed heap e m.descriptor (are_arguments e type.0 ++ to e (class m.class) ∷ []) type.0 before after type.1 w.1

  special_shape : (m : MemberReference) → special_called e (member_named m) before ≡ Some after
      → CallShape heap e m.descriptor before after
  special_shape m h =
      let type = bind_is (λ (type : MethodType). if is_constructor_name m.name then constructor_called e m type before else if is_initializer_name m.name then None else changed e (are_arguments e type ++ is_special_receiver e m ∷ []) (results type) before) (method_type_of m.descriptor) after h in
      go type.0 type.1 (is_constructor_name m.name) type.2
    where
      go : (type : MethodType) → method_type_of m.descriptor ≡ Some type → (b : Bool)
          → cond b (constructor_called e m type before) (if is_initializer_name m.name then None else changed e (are_arguments e type ++ is_special_receiver e m ∷ []) (results type) before) ≡ Some after
          → CallShape heap e m.descriptor before after
      go type is true h = by_constructor heap e right m type before after is h
      go type is false h =
          let w = unless_is (is_initializer_name m.name) (changed e (are_arguments e type ++ is_special_receiver e m ∷ []) (results type) before) after h in
          by_changed heap e m.descriptor (are_arguments e type ++ is_special_receiver e m ∷ []) type before after is w.1

  static_shape : (m : MemberReference) → static_called e (member_named m) before ≡ Some after
      → CallShape heap e m.descriptor before after
  static_shape m h =
      let type = bind_is (λ (type : MethodType). if is_constructor_name m.name then None else changed e (are_arguments e type) (results type) before) (method_type_of m.descriptor) after h in
      let w = unless_is (is_constructor_name m.name) (changed e (are_arguments e type.0) (results type.0) before) after type.2 in
      by_changed heap e m.descriptor (are_arguments e type.0) type.0 before after type.1 w.1

  -- the shape of a call of a method of that descriptor
  pub call_shape : (pc : ℕ) (descriptor : List ℕ) (i : Instruction Operand) → calls descriptor i ≡ true
      → type_step e pc i before ≡ Some after → CallShape heap e descriptor before after
  unfolding type_step
  call_shape pc descriptor (invokevirtual (member_named m)) is h =
      subst (λ (d : List ℕ). CallShape heap e d before after) (same_text m.descriptor descriptor is) (selected_shape m h)
  call_shape pc descriptor (invokespecial (member_named m)) is h =
      subst (λ (d : List ℕ). CallShape heap e d before after) (same_text m.descriptor descriptor is) (special_shape m h)
  call_shape pc descriptor (invokestatic (member_named m)) is h =
      subst (λ (d : List ℕ). CallShape heap e d before after) (same_text m.descriptor descriptor is) (static_shape m h)
  call_shape pc descriptor (invokeinterface (member_named m)) is h =
      subst (λ (d : List ℕ). CallShape heap e d before after) (same_text m.descriptor descriptor is) (selected_shape m h)
  call_shape pc descriptor i is h = absurd cc

  -- flow goes on behind a call
  pub call_goes_on : (descriptor : List ℕ) (i : Instruction Operand) → calls descriptor i ≡ true → flow_goes_on i ≡ true
  unfolding flow_goes_on
  call_goes_on descriptor (invokevirtual operand) is = refl
  call_goes_on descriptor (invokespecial operand) is = refl
  call_goes_on descriptor (invokestatic operand) is = refl
  call_goes_on descriptor (invokeinterface operand) is = refl
  call_goes_on descriptor i is = absurd cc
