-- `invokevirtual`, `invokespecial`, `invokestatic` and `invokeinterface` are right.
use Rattle.std.proofs.Common.{◌≡◌, ℕ, ◌+◌, List, [], ◌∷◌, ◌++◌, Option, Some, None, Bool, true, false, refl, ap, sym, subst, ◌∙◌, if◌then◌else◌, cond, length, slice_get, option_map, map, reverse, take, drop, codes, inl, inr, unwrap_or, length-append, nat_le, suc, arith}
use Rattle.std.specs.Prelude.{◌⊎◌, is_some, is_none, bytes_eq, ◌||◌}
use Rattle.std.proofs.lemmas.Bool.{and_parts, le-leb}
use Rattle.std.proofs.lemmas.List.{reverse-append, append-nil, append_assoc}
use Rattle.std.proofs.Math.Seq.{take-append_seam, drop-append_seam}
use lib.Pointwise.{pointwise}
use Rattle.jv_model.specs.Partial.{passes, ◌>>=◌}
use Rattle.jv_model.specs.Descriptors.{FieldType, class_type, MethodType}
use Rattle.jv_model.specs.Operand.{Operand, MemberReference, member_named}
use Rattle.jv_model.specs.Code.{Body}
use Rattle.world_model.specs.World.{Class, Method, is_static_method, has_flag, acc_abstract}
use Rattle.world_model.specs.BootNames.{is_constructor_name, is_initializer_name}
use Rattle.world_model.specs.Supertypes.{is_sub}
use Rattle.world_model.specs.LookUp.{Found, method_found}
use Rattle.world_model.specs.Resolution.{class_with_methods}
use Rattle.world_model.specs.Selection.{selected, specially_selected}
use Rattle.code_model.specs.TypeReading.{method_type_of, parameter_words}
use Rattle.typing_model.specs.VerificationType.{VerificationType, long as long_type, this, new_at, class, TypeFrame, type_of, is_same}
use Rattle.typing_model.specs.Environment.{Environment, is_constructor}
use Rattle.typing_model.specs.DescriptorFrame.{as_locals, parameter_locals}
use Rattle.typing_model.specs.CallTypes.{are_arguments, results, is_made_at, is_own_or_super, initialized, with_each, constructor_called, selected_called, is_special_receiver, special_called, static_called}
use Rattle.typing_model.specs.Transition.{Test, to, below, popped, changed, operand_at}
use Rattle.machine_model.specs.Value.{Value, long, half, null, reference}
use Rattle.machine_model.specs.Deed.{Deed, throws, Running}
use Rattle.machine_model.specs.CallSteps.{argument_words, new_frame}
use Rattle.machine_model.specs.InvokeSteps.{runs_code, runs, on_receiver, invoke_virtual, invoke_special, invoke_static, invoke_interface}
use Rattle.machine_model.specs.TypedValues.{class_made_at, HeapTyping, heap_typing, may_stand, stands_for, is_of_type, are_of_types}
use Rattle.machine_model.specs.Conforms.{calls, result_types, frame_environment}
use Rattle.link_laws.proofs.Names.{same_text}
use Rattle.frame_laws.proofs.Outcome.{some_inj, both, bind_is, when_is, changed_is, popped_is, pushed_is}
use Rattle.frame_laws.proofs.Verified.{some_and_is}
use Rattle.frame_laws.proofs.Subsumption.{same_type}
use Rattle.frame_laws.proofs.Onward.{subsumes}
use Rattle.machine_model.specs.NativeSteps.{native_step}
use Rattle.machine_laws.specs.Runnable.{class_of_type, NativeUse, native_type, MethodUse, CallUse, Selects, StaticCallUse, VirtualCallUse, InterfaceCallUse, IsReceived, SpecialCallUse}
use Rattle.machine_laws.proofs.TypedStates.{IsTypedDeed}
use Rattle.machine_laws.proofs.Ready.{Ready, throws_rightly, operands_fit}
use Rattle.machine_laws.proofs.Operands.{Object, no_object, object, class_object, take_wanted, one_place, when_test}
use Rattle.machine_laws.proofs.Calling.{of_frame, found_is, unless_is, made_at, no_results}
use Rattle.machine_laws.proofs.Receivers.{receiver_fits, object_type, object_class}
use Rattle.machine_laws.proofs.Arguments.{are_whole, take_arguments, places_are}
use Rattle.machine_laws.proofs.NativeEnds.{Leaves}
use Rattle.machine_laws.proofs.Natives.{native_is_right, static_native_is_right}
use Rattle.machine_laws.proofs.Calls.{call_code_is_right}

-- the element behind a front
get_seam : {A : Type 0} (xs : List A) (y : A) (ys : List A) → slice_get (xs ++ y ∷ ys) (length xs) ≡ Some y
get_seam [] y ys = refl
get_seam (x ∷ xs) y ys = get_seam xs y ys

-- what passes a test that is stronger passes one that is weaker
below_weaker : (p q : Test) → ((t : VerificationType) → p t ≡ true → q t ≡ true) → (tests : List Test)
    (stack rest : List VerificationType) → below (p ∷ tests) stack ≡ Some rest → below (q ∷ tests) stack ≡ Some rest
unfolding below
below_weaker p q each tests [] rest h = absurd cc
below_weaker p q each tests (t ∷ types) rest h =
    let w = when_test (p t) (below tests types) rest h in rw (each t w.0) w.1

module _ (r : Running) (live : ℕ → Bool) (ready : Ready r live) where
  abbrev heap : HeapTyping
  heap = heap_typing r.state live

  is_abstract : (b : Bool) (deed : Deed) → (b ≡ false → IsTypedDeed r.state.world deed)
      → IsTypedDeed r.state.world (if b then throws (codes "java/lang/AbstractMethodError") false else deed)
  is_abstract true deed right = throws_rightly r live ready (codes "java/lang/AbstractMethodError") false refl
  is_abstract false deed right = right refl

  -- the environment of a method that is used has the type of the reference
  same_parameters : (m : MemberReference) (call : CallUse m) (found : Found Method) (e : Environment)
      → found.member.descriptor ≡ m.descriptor → e.method ≡ found.member
      → frame_environment r.state.world (new_frame (method_found found) None []) ≡ Some e → e.type ≡ call.type
  same_parameters m call found e same_descriptor same_method environment =
      let of = of_frame r.state.world (new_frame (method_found found) None []) e environment in
      some_inj (sym of.is_type ∙ (ap (λ (x : Method). method_type_of x.descriptor) same_method ∙ (ap method_type_of same_descriptor ∙ call.is_type)))

  -- a method of an object runs rightly, on a receiver and arguments
  instance_runs : (m : MemberReference) (call : CallUse m) (front : List Value) (id : ℕ) (own : FieldType) (others : List Value)
      → r.frame.stack ≡ front ++ (reference id ∷ others) → heap.type_at id ≡ Some own
      → ((callee : Environment) → pointwise (is_of_type heap callee) (as_locals (map type_of call.type.parameters)) (reverse front) ≡ true)
      → are_whole (reverse front) ≡ true → Leaves r live ready m others → (o : Option (Found Method)) → Selects r.state.world m own o
      → IsTypedDeed r.state.world (runs r (length front + 1) (Some id) o)
  instance_runs m call front id own others is at fit whole left None selects =
      throws_rightly r live ready (codes "java/lang/AbstractMethodError") false refl
  instance_runs m call front id own others is at fit whole left (Some found) selects =
      is_abstract (has_flag acc_abstract found.member.flags) _ (by_code found.member.code refl)
    where
      longer : r.frame.stack ≡ (front ++ reference id ∷ []) ++ others
      longer = is ∙ sym (append_assoc front (reference id ∷ []) others)

      places : length (front ++ reference id ∷ []) ≡ length front + 1
      places = length-append front (reference id ∷ [])

      taken : take (length front + 1) r.frame.stack ≡ front ++ reference id ∷ []
      taken = ap (λ (n : ℕ). take n r.frame.stack) (sym places) ∙ (ap (take (length (front ++ reference id ∷ []))) longer ∙ take-append_seam (front ++ reference id ∷ []) others)

      dropped : drop (length front + 1) r.frame.stack ≡ others
      dropped = ap (λ (n : ℕ). drop n r.frame.stack) (sym places) ∙ (ap (drop (length (front ++ reference id ∷ []))) longer ∙ drop-append_seam (front ++ reference id ∷ []) others)

      by_native : (used : NativeUse r.state.world m false found)
          → IsTypedDeed r.state.world (native_step r used.native (reverse (take (length front + 1) r.frame.stack)) (drop (length front + 1) r.frame.stack))
      by_native used =
          let same : call.type ≡ native_type used.native = some_inj (sym call.is_type ∙ used.is_type) in
          let fewer : nat_le (length others) (length r.frame.stack) ≡ true =
          le-leb _ _ (let more : length r.frame.stack ≡ length front + suc (length others) = ap length is ∙ length-append front (reference id ∷ others) in omega arith) in
          subst (λ (vs : List Value). IsTypedDeed r.state.world (native_step r used.native vs (drop (length front + 1) r.frame.stack))) (sym (ap reverse taken ∙ reverse-append front (reference id ∷ [])))
          (subst (λ (vs : List Value). IsTypedDeed r.state.world (native_step r used.native (reference id ∷ reverse front) vs)) (sym dropped)
          (native_is_right r live ready m others left fewer found.class used.native used.kind used.asks used.is_type id (rw at selects.1) (reverse front)
          (subst (λ (t : MethodType). pointwise (is_of_type heap ready.e) (as_locals (map type_of t.parameters)) (reverse front) ≡ true) same (fit ready.e)) whole))

      by_code : (code : Option (Body Operand)) → found.member.code ≡ code → has_flag acc_abstract found.member.flags ≡ false
          → IsTypedDeed r.state.world (runs_code r found (length front + 1) (Some id) code)
      by_code None none concrete = elim (selects.0.without_code none) [
        | inl abstract ↦ absurd cc
        | inr native ↦ rw native.is_native (by_native native)
      ]
      by_code (Some body) some concrete =
          let use_of = selects.0.environment body some in
          let e = use_of.0 in
          let same = same_parameters m call found e selects.0.same_descriptor use_of.2 use_of.1 in
          let stands : stands_for heap id (class_type e.class.name) ≡ true =
          subst (λ (n : List ℕ). stands_for heap id (class_type n) ≡ true) (sym use_of.4) (rw at selects.1) in
          call_code_is_right r live ready found body (length front + 1) (Some id) e use_of.1 use_of.2 use_of.3
          (subst (λ (vs : List Value). pointwise (is_of_type heap e) (parameter_locals e) vs ≡ true) (sym (ap reverse taken ∙ reverse-append front (reference id ∷ [])))
          (receiver_fits heap e id (reverse front) (ap is_static_method use_of.2 ∙ selects.0.kind) stands
          (subst (λ (t : MethodType). pointwise (is_of_type heap e) (as_locals (map type_of t.parameters)) (reverse front) ≡ true) (sym same) (fit e))))
          (λ u some. ap is_some (ap heap.type_at (sym (some_inj some)) ∙ at))
          (inr refl)
          (subst (λ (d : List ℕ). calls d ready.at.placed.instruction ≡ true) (sym selects.0.same_descriptor) left.is_call)
          (subst (λ (d : List ℕ). are_of_types heap ready.e (drop (length (result_types d)) ready.at.applies.after.stack) (drop (length front + 1) r.frame.stack) ≡ true) (sym selects.0.same_descriptor)
          (subst (λ (vs : List Value). are_of_types heap ready.e (drop (length (result_types m.descriptor)) ready.at.applies.after.stack) vs ≡ true) (sym dropped) left.rest))

  -- ---- static methods

  -- what lies below a result is what a call leaves
  below_result : (m : MemberReference) (call : CallUse m) (rest : List VerificationType) (others : List Value)
      → ready.at.applies.after.stack ≡ results call.type ++ rest → are_of_types heap ready.e rest others ≡ true
      → are_of_types heap ready.e (drop (length (result_types m.descriptor)) ready.at.applies.after.stack) others ≡ true
  below_result m call rest others is f =
      subst (λ (ts : List VerificationType). are_of_types heap ready.e ts others ≡ true)
      (sym (ap (λ (ts : List VerificationType). drop (length ts) ready.at.applies.after.stack) (ap (λ (o : Option MethodType). unwrap_or (option_map results o) []) call.is_type)
      ∙ (ap (drop (length (results call.type))) is ∙ drop-append_seam (results call.type) rest))) f

  static_runs : (m : MemberReference) (call : CallUse m) (found : Found Method) → MethodUse r.state.world m true found
      → (front others : List Value) → r.frame.stack ≡ front ++ others
      → ((callee : Environment) → pointwise (is_of_type heap callee) (as_locals (map type_of call.type.parameters)) (reverse front) ≡ true)
      → Leaves r live ready m others → IsTypedDeed r.state.world (runs r (length front) None (Some found))
  static_runs m call found used front others is fit left =
      is_abstract (has_flag acc_abstract found.member.flags) _ (by_code found.member.code refl)
    where
      by_native : (native : NativeUse r.state.world m true found)
          → IsTypedDeed r.state.world (native_step r native.native (reverse (take (length front) r.frame.stack)) (drop (length front) r.frame.stack))
      by_native native =
          let same : call.type ≡ native_type native.native = some_inj (sym call.is_type ∙ native.is_type) in
          let fewer : nat_le (length others) (length r.frame.stack) ≡ true =
          le-leb _ _ (let more : length r.frame.stack ≡ length front + length others = ap length is ∙ length-append front others in omega arith) in
          subst (λ (vs : List Value). IsTypedDeed r.state.world (native_step r native.native (reverse vs) (drop (length front) r.frame.stack))) (sym (ap (take (length front)) is ∙ take-append_seam front others))
          (subst (λ (vs : List Value). IsTypedDeed r.state.world (native_step r native.native (reverse front) vs)) (sym (ap (drop (length front)) is ∙ drop-append_seam front others))
          (static_native_is_right r live ready m others left fewer native.native native.kind native.is_type (reverse front)
          (subst (λ (t : MethodType). pointwise (is_of_type heap ready.e) (as_locals (map type_of t.parameters)) (reverse front) ≡ true) same (fit ready.e))))

      by_code : (code : Option (Body Operand)) → found.member.code ≡ code → has_flag acc_abstract found.member.flags ≡ false
          → IsTypedDeed r.state.world (runs_code r found (length front) None code)
      by_code None none concrete = elim (used.without_code none) [
        | inl abstract ↦ absurd cc
        | inr native ↦ rw native.is_native (by_native native)
      ]
      by_code (Some body) some concrete =
          let use_of = used.environment body some in
          let e = use_of.0 in
          let same = same_parameters m call found e used.same_descriptor use_of.2 use_of.1 in
          let static : is_static_method e.method ≡ true = ap is_static_method use_of.2 ∙ used.kind in
          call_code_is_right r live ready found body (length front) None e use_of.1 use_of.2 use_of.3
          (subst (λ (vs : List Value). pointwise (is_of_type heap e) (parameter_locals e) (reverse vs) ≡ true) (sym (ap (take (length front)) is ∙ take-append_seam front others))
          (ap (λ (b : Bool). pointwise (is_of_type heap e) (as_locals ((if b then [] else (if is_constructor e then this else class e.class.name) ∷ []) ++ map type_of e.type.parameters)) (reverse front)) static
          ∙ subst (λ (t : MethodType). pointwise (is_of_type heap e) (as_locals (map type_of t.parameters)) (reverse front) ≡ true) (sym same) (fit e)))
          (λ u some. absurd cc)
          (inl used.kind)
          (subst (λ (d : List ℕ). calls d ready.at.placed.instruction ≡ true) (sym used.same_descriptor) left.is_call)
          (subst (λ (d : List ℕ). are_of_types heap ready.e (drop (length (result_types d)) ready.at.applies.after.stack) (drop (length front) r.frame.stack) ≡ true) (sym used.same_descriptor)
          (subst (λ (vs : List Value). are_of_types heap ready.e (drop (length (result_types m.descriptor)) ready.at.applies.after.stack) vs ≡ true) (sym (ap (drop (length front)) is ∙ drop-append_seam front others)) left.rest))

  -- the words of a call's arguments
  words_are : (m : MemberReference) (call : CallUse m) (front : List Value)
      → ((callee : Environment) → pointwise (is_of_type heap callee) (as_locals (map type_of call.type.parameters)) (reverse front) ≡ true)
      → argument_words m ≡ Some (length front)
  words_are m call front fit =
      ap (option_map parameter_words) call.is_type ∙ ap Some (places_are heap ready.e call.type front call.has_values (fit ready.e))

  -- the type of a reference is one alone
  of_type : (m : MemberReference) (call : CallUse m) (type : MethodType) → method_type_of m.descriptor ≡ Some type → type ≡ call.type
  of_type m call type is = some_inj (sym is ∙ call.is_type)

  -- `invokestatic` is right
  pub static_is_right : (m : MemberReference) (used : StaticCallUse r.state.world m)
      → calls m.descriptor ready.at.placed.instruction ≡ true
      → static_called ready.e (member_named m) ready.before ≡ Some ready.at.applies.after → IsTypedDeed r.state.world (invoke_static r m)
  unfolding below
  static_is_right m used is_call h =
      let type = bind_is (λ (type : MethodType). if is_constructor_name m.name then None else changed ready.e (are_arguments ready.e type) (results type) ready.before) (method_type_of m.descriptor) ready.at.applies.after h in
      let w = unless_is (is_constructor_name m.name) (changed ready.e (are_arguments ready.e type.0) (results type.0) ready.before) ready.at.applies.after type.2 in
      let same = of_type m used.call type.0 type.1 in
      go (subst (λ (t : MethodType). changed ready.e (are_arguments ready.e t) (results t) ready.before ≡ Some ready.at.applies.after) same w.1)
    where
      go : changed ready.e (are_arguments ready.e used.call.type) (results used.call.type) ready.before ≡ Some ready.at.applies.after
          → IsTypedDeed r.state.world (invoke_static r m)
      go h =
          let c = changed_is ready.e (are_arguments ready.e used.call.type) (results used.call.type) ready.before ready.at.applies.after h in
          let p = pushed_is ready.e (results used.call.type) (record ready.before { stack = c.0 }) ready.at.applies.after c.2 in
          let a = take_arguments heap ready.e (subsumes heap ready.runnable.verified ready.e ready.typed) used.call.type.parameters [] ready.before.stack c.0 r.frame.stack used.call.has_values
          (subst (λ (ts : List Test). below ts ready.before.stack ≡ Some c.0) (sym (append-nil (are_arguments ready.e used.call.type))) c.1) (operands_fit r live ready) in
          rw (used.resolved, words_are m used.call a.front a.fit)
          (static_runs m used.call used.found used.method a.front a.others a.is a.fit (record {
            is_call = is_call;
            rest = below_result m used.call c.0 a.others (ap (λ (f : TypeFrame). f.stack) (sym p.1))
                (subst (λ (ts : List VerificationType). are_of_types heap ready.e ts a.others ≡ true) (some_inj a.are_below) a.below_fit);
          }))

  -- ---- objects

  -- null or a receiver lies below the arguments, and what follows it is right
  on_receiver_right : (m : MemberReference) (call : CallUse m) (front : List Value) (value : Value) (others : List Value)
      (owner : List ℕ) (next : ℕ → Deed) → r.frame.stack ≡ front ++ (value ∷ others)
      → Object heap ready.e (class_type owner) value
      → ((id : ℕ) → value ≡ reference id → stands_for heap id (class_type owner) ≡ true → IsTypedDeed r.state.world (next id))
      → IsTypedDeed r.state.world (on_receiver r (length front) next)
  on_receiver_right m call front _ others owner next is no_object each =
      rw (ap (λ (vs : List Value). slice_get vs (length front)) is ∙ get_seam front null others)
      (throws_rightly r live ready (codes "java/lang/NullPointerException") false refl)
  on_receiver_right m call front _ others owner next is (object id stands) each =
      rw (ap (λ (vs : List Value). slice_get vs (length front)) is ∙ get_seam front (reference id) others) (each id refl stands)

  -- What a call of a method of an object finds on the operands: a receiver of the class below the arguments.
  record Received (m : MemberReference) (call : CallUse m) (owner : List ℕ) (test : Test) : Type 0 where
    front : List Value
    value : Value
    others : List Value
    is : r.frame.stack ≡ front ++ (value ∷ others)
    fit : (callee : Environment) → pointwise (is_of_type heap callee) (as_locals (map type_of call.type.parameters)) (reverse front) ≡ true
    whole : are_whole (reverse front) ≡ true
    receiver : Object heap ready.e (class_type owner) value
    -- it is of whatever class its test wants
    also : (name : List ℕ) → ((t : VerificationType) → test t ≡ true → to ready.e (class name) t ≡ true)
        → is_of_type heap ready.e (class name) value ≡ true
    rest : are_of_types heap ready.e (drop (length (result_types m.descriptor)) ready.at.applies.after.stack) others ≡ true

  receive : (m : MemberReference) (call : CallUse m) (owner : List ℕ) (test : Test)
      → ((t : VerificationType) → test t ≡ true → to ready.e (class owner) t ≡ true)
      → changed ready.e (are_arguments ready.e call.type ++ test ∷ []) (results call.type) ready.before ≡ Some ready.at.applies.after
      → Received m call owner test
  unfolding below
  receive m call owner test weaker h =
      let c = changed_is ready.e (are_arguments ready.e call.type ++ test ∷ []) (results call.type) ready.before ready.at.applies.after h in
      let p = pushed_is ready.e (results call.type) (record ready.before { stack = c.0 }) ready.at.applies.after c.2 in
      let a = take_arguments heap ready.e (subsumes heap ready.runnable.verified ready.e ready.typed) call.type.parameters (test ∷ []) ready.before.stack c.0 r.frame.stack call.has_values c.1 (operands_fit r live ready) in
      let x = take_wanted heap ready.e (subsumes heap ready.runnable.verified ready.e ready.typed) (class owner) [] a.types c.0 a.others refl (below_weaker test (to ready.e (class owner)) weaker [] a.types c.0 a.are_below) a.below_fit in
      record {
        front = a.front;
        value = x.value;
        others = x.others;
        is = a.is ∙ ap (λ (vs : List Value). a.front ++ vs) (x.is ∙ one_place heap ready.e (class owner) x.value x.others refl x.of);
        fit = a.fit;
        whole = a.whole;
        receiver = class_object heap ready.e owner x.value x.of;
        also = λ name more.
            (let y = take_wanted heap ready.e (subsumes heap ready.runnable.verified ready.e ready.typed) (class name) [] a.types c.0 a.others refl (below_weaker test (to ready.e (class name)) more [] a.types c.0 a.are_below) a.below_fit in
            let same : y.value ∷ y.others ≡ x.value ∷ x.others =
            sym (y.is ∙ one_place heap ready.e (class name) y.value y.others refl y.of) ∙ (x.is ∙ one_place heap ready.e (class owner) x.value x.others refl x.of) in
            let one : y.value ≡ x.value = cc in
            subst (λ (v : Value). is_of_type heap ready.e (class name) v ≡ true) one y.of);
        rest = below_result m call c.0 x.others (ap (λ (f : TypeFrame). f.stack) (sym p.1))
            (subst (λ (ts : List VerificationType). are_of_types heap ready.e ts x.others ≡ true) (some_inj x.are_below) x.fit);
      }

  -- ---- `invokevirtual` and `invokeinterface`

  selected_received : (m : MemberReference) (call : CallUse m) → selected_called ready.e (member_named m) ready.before ≡ Some ready.at.applies.after
      → Received m call m.class (to ready.e (class m.class))
  selected_received m call h =
      let type = bind_is (λ (type : MethodType). if is_constructor_name m.name || is_initializer_name m.name then None else changed ready.e (are_arguments ready.e type ++ to ready.e (class m.class) ∷ []) (results type) ready.before) (method_type_of m.descriptor) ready.at.applies.after h in
      let w = unless_is (is_constructor_name m.name || is_initializer_name m.name) (changed ready.e (are_arguments ready.e type.0 ++ to ready.e (class m.class) ∷ []) (results type.0) ready.before) ready.at.applies.after type.2 in
      receive m call m.class (to ready.e (class m.class)) (λ t h. h)
      (subst (λ (t : MethodType). changed ready.e (are_arguments ready.e t ++ to ready.e (class m.class) ∷ []) (results t) ready.before ≡ Some ready.at.applies.after) (of_type m call type.0 type.1) w.1)

  pub virtual_is_right : (m : MemberReference) (used : VirtualCallUse r.state.world m)
      → calls m.descriptor ready.at.placed.instruction ≡ true
      → selected_called ready.e (member_named m) ready.before ≡ Some ready.at.applies.after → IsTypedDeed r.state.world (invoke_virtual r m)
  virtual_is_right m used is_call h =
      let x = selected_received m used.call h in
      rw (used.resolved, words_are m used.call x.front x.fit)
      (on_receiver_right m used.call x.front x.value x.others m.class _ x.is x.receiver (λ id same stands.
      let own = some_and_is (λ own. may_stand r.state.world own (class_type m.class)) (heap.type_at id) stands in
      rw (object_class r live ready id own.0 own.1)
      (instance_runs m used.call x.front id own.0 x.others (x.is ∙ ap (λ (v : Value). x.front ++ (v ∷ x.others)) same) own.1 x.fit x.whole (record { is_call = is_call; rest = x.rest })
      (selected r.state.world used.found m (class_of_type own.0)) (used.selects own.0 own.2))))

  pub interface_is_right : (m : MemberReference) (used : InterfaceCallUse r.state.world m)
      → calls m.descriptor ready.at.placed.instruction ≡ true
      → selected_called ready.e (member_named m) ready.before ≡ Some ready.at.applies.after → IsTypedDeed r.state.world (invoke_interface r m)
  interface_is_right m used is_call h =
      let x = selected_received m used.call h in
      rw (used.resolved, words_are m used.call x.front x.fit)
      (on_receiver_right m used.call x.front x.value x.others m.class _ x.is x.receiver (λ id same stands.
      let own = some_and_is (λ own. may_stand r.state.world own (class_type m.class)) (heap.type_at id) stands in
      rw (object_class r live ready id own.0 own.1)
      (either (is_sub r.state.world (class_of_type own.0) (class_with_methods m.class)) _
      (λ below. instance_runs m used.call x.front id own.0 x.others (x.is ∙ ap (λ (v : Value). x.front ++ (v ∷ x.others)) same) own.1 x.fit x.whole (record { is_call = is_call; rest = x.rest })
      (selected r.state.world used.found m (class_of_type own.0)) (used.selects own.0 (object_type r live ready id own.0 own.1) below)))))
    where
      either : (b : Bool) (deed : Deed) → (b ≡ true → IsTypedDeed r.state.world deed)
          → IsTypedDeed r.state.world (if b then deed else throws (codes "java/lang/IncompatibleClassChangeError") false)
      either true deed right = right refl
      either false deed right = throws_rightly r live ready (codes "java/lang/IncompatibleClassChangeError") false refl

  -- ---- `invokespecial`

  -- the class of the current method is that of its environment
  own_class : ready.e.class.name ≡ r.frame.method.class
  own_class =
      let of = of_frame r.state.world r.frame ready.e ready.is_environment in
      same_text ready.e.class.name r.frame.method.class (found_is (λ (c : Class). bytes_eq c.name r.frame.method.class) r.state.world.classes ready.e.class of.class_there)

  special_selects : (m : MemberReference) (used : SpecialCallUse r.state.world ready.e m) (own : FieldType)
      → IsReceived r.state.world ready.e m own → Selects r.state.world m own (specially_selected r.state.world r.frame.method.class used.found m)
  special_selects m used own which =
      subst (λ (n : List ℕ). Selects r.state.world m own (specially_selected r.state.world n used.found m)) own_class (used.selects own which)

  -- an object of a class stands for it
  of_class : (name : List ℕ) (id : ℕ) (value : Value) → value ≡ reference id → is_of_type heap ready.e (class name) value ≡ true
      → stands_for heap id (class_type name) ≡ true
  unfolding is_of_type
  of_class name id value same f = subst (λ (v : Value). is_of_type heap ready.e (class name) v ≡ true) same f

  plain_special : (m : MemberReference) (used : SpecialCallUse r.state.world ready.e m)
      → calls m.descriptor ready.at.placed.instruction ≡ true
      → changed ready.e (are_arguments ready.e used.call.type ++ is_special_receiver ready.e m ∷ []) (results used.call.type) ready.before ≡ Some ready.at.applies.after
      → IsTypedDeed r.state.world (invoke_special r m)
  plain_special m used is_call h =
      let x = receive m used.call m.class (is_special_receiver ready.e m) (λ t h. (and_parts (to ready.e (class ready.e.class.name) t) (to ready.e (class m.class) t) h).1) h in
      rw (used.resolved, words_are m used.call x.front x.fit)
      (on_receiver_right m used.call x.front x.value x.others m.class _ x.is x.receiver (λ id same stands.
      let own = some_and_is (λ own. may_stand r.state.world own (class_type m.class)) (heap.type_at id) stands in
      let mine : stands_for heap id (class_type ready.e.class.name) ≡ true =
      of_class ready.e.class.name id x.value same (x.also ready.e.class.name (λ t h. (and_parts (to ready.e (class ready.e.class.name) t) (to ready.e (class m.class) t) h).0)) in
      instance_runs m used.call x.front id own.0 x.others (x.is ∙ ap (λ (v : Value). x.front ++ (v ∷ x.others)) same) own.1 x.fit x.whole (record { is_call = is_call; rest = x.rest })
      (specially_selected r.state.world r.frame.method.class used.found m)
      (special_selects m used own.0 (inl (own.2, inr (sym (ap (passes (λ t. may_stand r.state.world t (class_type ready.e.class.name))) own.1) ∙ mine))))))

  -- ---- constructors

  -- The receiver of a constructor: an object of its class, or the current constructor's own.
  record Constructed (m : MemberReference) (receiver fresh : VerificationType) : Type 0 where
    name : List ℕ
    is_class : fresh ≡ class name
    short : is_same receiver long_type ≡ false
    goes : (value : Value) → is_of_type heap ready.e receiver value ≡ true → is_of_type heap ready.e (class name) value ≡ true
    receives : (value : Value) → is_of_type heap ready.e receiver value ≡ true → (id : ℕ) × (value ≡ reference id)
        × ((stands_for heap id (class_type m.class) ≡ true)
        ⊎ ((is_own_or_super ready.e m.class ≡ true) × (stands_for heap id (class_type ready.e.class.name) ≡ true)))

  constructed : (m : MemberReference) (receiver fresh : VerificationType) → initialized ready.e m.class receiver ≡ Some fresh
      → Constructed m receiver fresh
  unfolding is_of_type is_same
  constructed m this fresh h =
      let w = when_is (is_own_or_super ready.e m.class) (Some (class ready.e.class.name)) fresh h in
      record {
        name = ready.e.class.name;
        is_class = sym (some_inj w.1);
        short = refl;
        goes = λ value f. own value f;
        receives = λ value f. (let o = object_of value f in (o.0, o.1, inr (w.0, o.2)));
      }
    where
      own : (value : Value) → is_of_type heap ready.e this value ≡ true → is_of_type heap ready.e (class ready.e.class.name) value ≡ true
      own (reference id) f = f
      own value f = absurd cc

      object_of : (value : Value) → is_of_type heap ready.e this value ≡ true
          → (id : ℕ) × (value ≡ reference id) × (stands_for heap id (class_type ready.e.class.name) ≡ true)
      object_of (reference id) f = (id, refl, f)
      object_of value f = absurd cc
  constructed m (new_at pc) fresh h =
      let w = when_is (is_made_at ready.e m.class pc) (Some (class m.class)) fresh h in
      let made = made_at ready.e ready.typed.right m.class pc w.0 in
      record {
        name = m.class;
        is_class = sym (some_inj w.1);
        short = refl;
        goes = λ value f. own value f made;
        receives = λ value f. (let o = object_of value f made in (o.0, o.1, inl o.2));
      }
    where
      own : (value : Value) → is_of_type heap ready.e (new_at pc) value ≡ true → class_made_at ready.e pc ≡ Some m.class
          → is_of_type heap ready.e (class m.class) value ≡ true
      own (reference id) f made = sym (ap (passes (λ n. stands_for heap id (class_type n))) made) ∙ f
      own value f made = absurd cc

      object_of : (value : Value) → is_of_type heap ready.e (new_at pc) value ≡ true → class_made_at ready.e pc ≡ Some m.class
          → (id : ℕ) × (value ≡ reference id) × (stands_for heap id (class_type m.class) ≡ true)
      object_of (reference id) f made = (id, refl, sym (ap (passes (λ n. stands_for heap id (class_type n))) made) ∙ f)
      object_of value f made = absurd cc
  constructed m receiver fresh h = absurd cc

  -- operands fit where a receiver is initialized
  each_operand : (old : VerificationType) (name : List ℕ) → is_same old long_type ≡ false
      → ((value : Value) → is_of_type heap ready.e old value ≡ true → is_of_type heap ready.e (class name) value ≡ true)
      → (types : List VerificationType) (values : List Value) → are_of_types heap ready.e types values ≡ true
      → are_of_types heap ready.e (map (λ type. if is_same old type then class name else type) types) values ≡ true
  unfolding are_of_types
  each_operand old name short goes [] [] h = refl
  each_operand old name short goes [] (v ∷ values) h = absurd cc
  each_operand old name short goes (long_type ∷ types) (half ∷ long n ∷ values) h =
      rw short (each_operand old name short goes types values h)
  each_operand old name short goes (long_type ∷ types) values h = absurd cc
  each_operand old name short goes (t ∷ types) [] h = absurd cc
  each_operand old name short goes (t ∷ types) (v ∷ values) h =
      let p = and_parts (is_of_type heap ready.e t v) (are_of_types heap ready.e types values) h in
      go (is_same old t) refl p.0 (each_operand old name short goes types values p.1)
    where
      go : (b : Bool) → is_same old t ≡ b → is_of_type heap ready.e t v ≡ true
          → are_of_types heap ready.e (map (λ type. if is_same old type then class name else type) types) values ≡ true
          → are_of_types heap ready.e ((if b then class name else t) ∷ map (λ type. if is_same old type then class name else type) types) (v ∷ values) ≡ true
      go true is f rest = both (is_of_type heap ready.e (class name) v) (are_of_types heap ready.e (map (λ type. if is_same old type then class name else type) types) values)
          (goes v (subst (λ (t : VerificationType). is_of_type heap ready.e t v ≡ true) (sym (same_type old t is)) f)) rest
      go false is f rest = both (is_of_type heap ready.e t v) (are_of_types heap ready.e (map (λ type. if is_same old type then class name else type) types) values) f rest

  -- the receiver lies below the arguments
  receiver_on : (receiver : VerificationType) (types rest : List VerificationType) (values : List Value) → is_same receiver long_type ≡ false
      → below (is_same receiver ∷ []) types ≡ Some rest → are_of_types heap ready.e types values ≡ true
      → (value : Value) × (others : List Value) × (values ≡ value ∷ others) × (is_of_type heap ready.e receiver value ≡ true)
      × (are_of_types heap ready.e rest others ≡ true)
  unfolding below are_of_types
  receiver_on receiver [] rest values short b f = absurd cc
  receiver_on receiver (long_type ∷ types) rest values short b f =
      absurd (let w = when_test (is_same receiver long_type) (Some types) rest b in let is = w.0 in let isnt = short in cc)
  receiver_on receiver (t ∷ types) rest [] short b f = absurd cc
  receiver_on receiver (t ∷ types) rest (v ∷ values) short b f =
      let w = when_test (is_same receiver t) (Some types) rest b in
      let p = and_parts (is_of_type heap ready.e t v) (are_of_types heap ready.e types values) f in (
        v,
        values,
        refl,
        subst (λ (t : VerificationType). is_of_type heap ready.e t v ≡ true) (sym (same_type receiver t w.0)) p.0,
        subst (λ (ts : List VerificationType). are_of_types heap ready.e ts values ≡ true) (some_inj w.1) p.1,
      )

  constructor_special : (m : MemberReference) (used : SpecialCallUse r.state.world ready.e m) → is_constructor_name m.name ≡ true
      → calls m.descriptor ready.at.placed.instruction ≡ true
      → constructor_called ready.e m used.call.type ready.before ≡ Some ready.at.applies.after
      → IsTypedDeed r.state.world (invoke_special r m)
  constructor_special m used named is_call h =
      let type = used.call.type in
      let receiver = bind_is (λ receiver. initialized ready.e m.class receiver >>= λ object. popped (are_arguments ready.e type ++ is_same receiver ∷ []) ready.before >>= λ rest. if is_none type.result then Some (with_each receiver object rest) else None) (operand_at (length type.parameters) ready.before) ready.at.applies.after h in
      let fresh = bind_is (λ object. popped (are_arguments ready.e type ++ is_same receiver.0 ∷ []) ready.before >>= λ rest. if is_none type.result then Some (with_each receiver.0 object rest) else None) (initialized ready.e m.class receiver.0) ready.at.applies.after receiver.2 in
      let rest = bind_is (λ rest. if is_none type.result then Some (with_each receiver.0 fresh.0 rest) else None) (popped (are_arguments ready.e type ++ is_same receiver.0 ∷ []) ready.before) ready.at.applies.after fresh.2 in
      let last = when_is (is_none type.result) (Some (with_each receiver.0 fresh.0 rest.0)) ready.at.applies.after rest.2 in
      let p = popped_is (are_arguments ready.e type ++ is_same receiver.0 ∷ []) ready.before rest.0 rest.1 in
      let c = constructed m receiver.0 fresh.0 fresh.1 in
      let a = take_arguments heap ready.e (subsumes heap ready.runnable.verified ready.e ready.typed) type.parameters (is_same receiver.0 ∷ []) ready.before.stack p.0 r.frame.stack used.call.has_values p.1 (operands_fit r live ready) in
      let x = receiver_on receiver.0 a.types p.0 a.others c.short a.are_below a.below_fit in
      let o = c.receives x.0 x.3 in
      let is : r.frame.stack ≡ a.front ++ (reference o.0 ∷ x.1) = a.is ∙ ap (λ (vs : List Value). a.front ++ vs) (x.2 ∙ ap (λ (v : Value). v ∷ x.1) o.1) in
      let stack : ready.at.applies.after.stack ≡ map (λ t. if is_same receiver.0 t then class c.name else t) p.0 =
      ap (λ (f : TypeFrame). f.stack) (sym (some_inj last.1)) ∙ (ap (λ (f : VerificationType). map (λ t. if is_same receiver.0 t then f else t) rest.0.stack) c.is_class
      ∙ ap (λ (f : TypeFrame). map (λ t. if is_same receiver.0 t then class c.name else t) f.stack) (sym p.2)) in
      let left : are_of_types heap ready.e (drop (length (result_types m.descriptor)) ready.at.applies.after.stack) x.1 ≡ true =
      below_result m used.call ready.at.applies.after.stack x.1 (ap (λ (types : List VerificationType). types ++ ready.at.applies.after.stack) (sym (no_results type last.0)))
      (subst (λ (ts : List VerificationType). are_of_types heap ready.e ts x.1 ≡ true) (sym stack) (each_operand receiver.0 c.name c.short c.goes p.0 x.1 x.4)) in
      rw (used.resolved, words_are m used.call a.front a.fit, ap (λ (vs : List Value). slice_get vs (length a.front)) is ∙ get_seam a.front (reference o.0) x.1)
      (of a.front o.0 x.1 is a.fit a.whole (record { is_call = is_call; rest = left }) o.2)
    where
      of : (front : List Value) (id : ℕ) (others : List Value) → r.frame.stack ≡ front ++ (reference id ∷ others)
          → ((callee : Environment) → pointwise (is_of_type heap callee) (as_locals (map type_of used.call.type.parameters)) (reverse front) ≡ true)
          → are_whole (reverse front) ≡ true → Leaves r live ready m others
          → (stands_for heap id (class_type m.class) ≡ true) ⊎ ((is_own_or_super ready.e m.class ≡ true) × (stands_for heap id (class_type ready.e.class.name) ≡ true))
          → IsTypedDeed r.state.world (runs r (length front + 1) (Some id) (specially_selected r.state.world r.frame.method.class used.found m))
      of front id others is fit whole left (inl stands) =
          let own = some_and_is (λ own. may_stand r.state.world own (class_type m.class)) (heap.type_at id) stands in
          instance_runs m used.call front id own.0 others is own.1 fit whole left (specially_selected r.state.world r.frame.method.class used.found m) (special_selects m used own.0 (inl (own.2, inl named)))
      of front id others is fit whole left (inr (super, stands)) =
          let own = some_and_is (λ own. may_stand r.state.world own (class_type ready.e.class.name)) (heap.type_at id) stands in
          instance_runs m used.call front id own.0 others is own.1 fit whole left (specially_selected r.state.world r.frame.method.class used.found m) (special_selects m used own.0 (inr (super, own.2)))

  -- `invokespecial` is right
  pub special_is_right : (m : MemberReference) (used : SpecialCallUse r.state.world ready.e m)
      → calls m.descriptor ready.at.placed.instruction ≡ true
      → special_called ready.e (member_named m) ready.before ≡ Some ready.at.applies.after → IsTypedDeed r.state.world (invoke_special r m)
  special_is_right m used is_call h =
      let type = bind_is (λ (type : MethodType). if is_constructor_name m.name then constructor_called ready.e m type ready.before else if is_initializer_name m.name then None else changed ready.e (are_arguments ready.e type ++ is_special_receiver ready.e m ∷ []) (results type) ready.before) (method_type_of m.descriptor) ready.at.applies.after h in
      go (is_constructor_name m.name) refl (subst (λ (t : MethodType). cond (is_constructor_name m.name) (constructor_called ready.e m t ready.before) (if is_initializer_name m.name then None else changed ready.e (are_arguments ready.e t ++ is_special_receiver ready.e m ∷ []) (results t) ready.before) ≡ Some ready.at.applies.after) (of_type m used.call type.0 type.1) type.2)
    where
      go : (b : Bool) → is_constructor_name m.name ≡ b → cond b (constructor_called ready.e m used.call.type ready.before) (if is_initializer_name m.name then None else changed ready.e (are_arguments ready.e used.call.type ++ is_special_receiver ready.e m ∷ []) (results used.call.type) ready.before) ≡ Some ready.at.applies.after
          → IsTypedDeed r.state.world (invoke_special r m)
      go true named h = constructor_special m used named is_call h
      go false named h = plain_special m used is_call (unless_is (is_initializer_name m.name) (changed ready.e (are_arguments ready.e used.call.type ++ is_special_receiver ready.e m ∷ []) (results used.call.type) ready.before) ready.at.applies.after h).1
