-- Loads, stores and `iinc` are sound.
use Rattle.std.proofs.Common.{◌≡◌, ℕ, suc, ℤ, ◌+ℤ◌, inl, List, [], ◌∷◌, Option, Some, None, true, refl, ap, sym, subst, if◌then◌else◌, slice_get, slice_set, length}
use Rattle.std.proofs.Math.Path.{◌∙◌}
use Rattle.std.proofs.lemmas.Bool.{and_parts, le-leb}
use Rattle.std.specs.Int.{w32, int_wrap}
use lib.Pointwise.{pointwise}
use Rattle.jv_model.specs.Partial.{◌>>=◌}
use Rattle.jv_model.specs.Operand.{Operand}
use Rattle.jv_model.specs.Code.{Placed}
use Rattle.jv_model.specs.Instruction.{ValueKind, of_int, of_long, of_reference}
use Rattle.typing_model.specs.VerificationType.{VerificationType, top, int as int_type, long as long_type, TypeFrame, is_int, is_of_kind as is_type_of_kind}
use Rattle.typing_model.specs.Environment.{Environment}
use Rattle.typing_model.specs.Transition.{below, popped, pushed}
use Rattle.typing_model.specs.LocalTypes.{loaded, put, stored, incremented}
use Rattle.machine_model.specs.Value.{Value, int, long, half, null, reference, is_of_kind, Taken, taken_of}
use Rattle.machine_model.specs.State.{Frame}
use Rattle.machine_model.specs.LocalStep.{local_of_kind, with_local, loads, stores_in, stores, increments}
use Rattle.machine_model.specs.TypedValues.{HeapTyping, is_of_type, are_of_types}
use Rattle.frame_laws.proofs.Taking.{int_value, value_of_kind}
use Rattle.frame_laws.proofs.Outcome.{IsSound, Lands, some_inj, both, bind_is, when_is, popped_is}
use Rattle.frame_laws.proofs.Numbers.{Before, int_lands, long_lands, push_is_sound}
use Rattle.frame_laws.proofs.Locals.{local_of_type, replaced, puts}

-- ---- values by kind

module _ (heap : HeapTyping) (e : Environment) where
  -- the value on top, of the type on top
  taken_right : (kind : ValueKind) (type : VerificationType) (types : List VerificationType) (values : List Value)
      → is_type_of_kind kind type ≡ true → are_of_types heap e (type ∷ types) values ≡ true
      → (taken : Taken) × (taken_of kind values ≡ Some taken) × (is_of_type heap e type taken.value ≡ true)
      × (are_of_types heap e types taken.rest ≡ true)
  unfolding are_of_types is_of_type
  taken_right of_int int_type types (int n ∷ values) is f = (record { value = int n; rest = values }, refl, refl, f)
  taken_right of_int type types values is f = absurd cc
  taken_right of_long long_type types (half ∷ long n ∷ values) is f = (record { value = long n; rest = values }, refl, refl, f)
  taken_right of_long type types values is f = absurd cc
  taken_right of_reference top types values is f = absurd cc
  taken_right of_reference int_type types values is f = absurd cc
  taken_right of_reference long_type types values is f = absurd cc
  taken_right of_reference type types (null ∷ values) is f =
      let parts = and_parts (is_of_type heap e type null) (are_of_types heap e types values) f in (record { value = null; rest = values }, refl, parts.0, parts.1)
  taken_right of_reference type types (reference id ∷ values) is f =
      let parts = and_parts (is_of_type heap e type (reference id)) (are_of_types heap e types values) f in (record { value = reference id; rest = values }, refl, parts.0, parts.1)
  taken_right of_reference type types values is f = absurd cc

  -- a value of a kind that moves comes onto the stack
  pub kind_lands : (kind : ValueKind) (type : VerificationType) (value : Value) → is_type_of_kind kind type ≡ true
      → is_of_type heap e type value ≡ true → Lands heap e type value
  unfolding are_of_types is_of_type
  kind_lands of_int int_type (int n) is of = int_lands heap e n
  kind_lands of_int type value is of = absurd cc
  kind_lands of_long long_type (long n) is of = long_lands heap e n
  kind_lands of_long type value is of = absurd cc
  kind_lands of_reference top value is of = absurd cc
  kind_lands of_reference int_type value is of = absurd cc
  kind_lands of_reference long_type value is of = absurd cc
  kind_lands of_reference type null is of = λ types others f. both (is_of_type heap e type null) (are_of_types heap e types others) of f
  kind_lands of_reference type (reference id) is of =
      λ types others f. both (is_of_type heap e type (reference id)) (are_of_types heap e types others) of f
  kind_lands of_reference type value is of = absurd cc

-- ---- what the typing of these instructions says

-- what typing says of a load
abbrev Loaded : Environment → ValueKind → ℕ → TypeFrame → TypeFrame → Type 0
Loaded e kind n before after =
    (type : VerificationType) × (slice_get before.locals n ≡ Some type) × (is_type_of_kind kind type ≡ true) ×
    (pushed e (type ∷ []) before ≡ Some after)

-- a load that is typed is so
loaded_is : (e : Environment) (kind : ValueKind) (n : ℕ) (before after : TypeFrame) → loaded e kind n before ≡ Some after
    → Loaded e kind n before after
loaded_is e kind n before after h =
    let l = bind_is (λ type. if is_type_of_kind kind type then pushed e (type ∷ []) before else None) (slice_get before.locals n) after h in
    let w = when_is (is_type_of_kind kind l.0) (pushed e (l.0 ∷ []) before) after l.2 in
    (l.0, l.1, w.0, w.1)

-- what typing says of `iinc`
incremented_is : (n : ℕ) (before after : TypeFrame) → incremented n before ≡ Some after
    → (type : VerificationType) × (slice_get before.locals n ≡ Some type) × (is_int type ≡ true) × (before ≡ after)
incremented_is n before after h =
    let l = bind_is (λ type. if is_int type then Some before else None) (slice_get before.locals n) after h in
    let w = when_is (is_int l.0) (Some before) after l.2 in
    (l.0, l.1, w.0, some_inj w.1)

-- what typing says of a store
record Stored (kind : ValueKind) (n : ℕ) (locals stack : List VerificationType) (after : TypeFrame) : Type 0 where
  type : VerificationType
  rest : List VerificationType
  put_in : List VerificationType
  is_stack : stack ≡ type ∷ rest
  is_kind : is_type_of_kind kind type ≡ true
  is_put : put n type locals ≡ Some put_in
  is_after : record { locals = put_in; stack = rest } ≡ after

-- a store that is typed is so
stored_in : (kind : ValueKind) (n : ℕ) (locals stack : List VerificationType) (after : TypeFrame)
    → stored kind n (record { locals = locals; stack = stack }) ≡ Some after → Stored kind n locals stack after
unfolding below
stored_in kind n locals [] after h = absurd cc
stored_in kind n locals (type ∷ rest) after h =
    let p = bind_is (λ (r : TypeFrame). put n type r.locals >>= λ put_in. Some (record r { locals = put_in }))
    (popped (is_type_of_kind kind ∷ []) (record { locals = locals; stack = type ∷ rest })) after h in
    let q = popped_is (is_type_of_kind kind ∷ []) (record { locals = locals; stack = type ∷ rest }) p.0 p.1 in
    let w = when_is (is_type_of_kind kind type) (Some rest) q.0 q.1 in
    let same : record { locals = locals; stack = rest } ≡ p.0 =
    subst (λ (ts : List VerificationType). record { locals = locals; stack = ts } ≡ p.0) (sym (some_inj w.1)) q.2 in
    let s = bind_is (λ put_in. Some (record { locals = put_in; stack = rest })) (put n type locals) after
    (subst (λ (r : TypeFrame). (put n type r.locals >>= λ put_in. Some (record r { locals = put_in })) ≡ Some after) (sym same) p.2) in
    record { type = type; rest = rest; put_in = s.0; is_stack = refl; is_kind = w.0; is_put = s.1; is_after = some_inj s.2 }

-- ---- soundness

module _ (heap : HeapTyping) (e : Environment) (placed : Placed Operand) (frame : Frame) (before after : TypeFrame) (b : Before heap e placed frame before) where
  -- loads are sound
  pub load_is_sound : (kind : ValueKind) (n : ℕ) → loaded e kind n before ≡ Some after
      → IsSound heap e placed frame after (loads e.body placed frame (local_of_kind kind n frame.locals))
  load_is_sound kind n h =
      let l = loaded_is e kind n before after h in
      let v = local_of_type (is_of_type heap e) before.locals frame.locals n l.0 b.locals l.1 in
      rw (local_is v.0 v.1 (value_of_kind heap e kind l.0 v.0 l.2 v.2))
      (push_is_sound heap e placed frame before after b l.0 v.0 (kind_lands heap e kind l.0 v.0 l.2 v.2) l.3)
    where
      local_is : (value : Value) → slice_get frame.locals n ≡ Some value → is_of_kind kind value ≡ true
          → local_of_kind kind n frame.locals ≡ Some value
      local_is value at of = rw (at, of) refl

  -- these locals and operands are of the types there
  stored_is_sound : (locals rest : List Value) (result : Option (List Value)) → result ≡ Some locals
      → pointwise (is_of_type heap e) after.locals locals ≡ true
      → are_of_types heap e after.stack rest ≡ true → IsSound heap e placed frame after (stores_in placed frame rest result)
  stored_is_sound locals rest result is fl fs = rw is (record {
    place = inl (refl, b.on);
    same_method = refl;
    same_held = refl;
    fits = both (pointwise (is_of_type heap e) after.locals locals) (are_of_types heap e after.stack rest) fl fs;
  })

  -- stores are sound
  pub store_is_sound : (kind : ValueKind) (n : ℕ) → stored kind n before ≡ Some after
      → IsSound heap e placed frame after (stores placed frame n (taken_of kind frame.stack))
  store_is_sound kind n h =
      let s = stored_in kind n before.locals before.stack after h in
      let t = taken_right heap e kind s.type s.rest frame.stack s.is_kind (subst (λ (ts : List VerificationType). are_of_types heap e ts frame.stack ≡ true) s.is_stack b.stack) in
      let p = puts heap e kind n s.type t.0.value before.locals s.put_in frame.locals s.is_kind t.2 s.is_put b.locals in
      rw t.1 (stored_is_sound p.0 t.0.rest (with_local n t.0.value frame.locals) p.1
      (subst (λ (a : TypeFrame). pointwise (is_of_type heap e) a.locals p.0 ≡ true) s.is_after p.2)
      (subst (λ (a : TypeFrame). are_of_types heap e a.stack t.0.rest ≡ true) s.is_after t.3))

  -- `iinc` is sound
  pub increment_is_sound : (n : ℕ) (by : ℤ) → incremented n before ≡ Some after
      → IsSound heap e placed frame after (increments placed frame n by (slice_get frame.locals n))
  unfolding is_of_type
  increment_is_sound n by h =
      let i = incremented_is n before after h in
      let v = local_of_type (is_of_type heap e) before.locals frame.locals n i.0 b.locals i.1 in
      let a = int_value heap e i.0 v.0 i.2 v.2 in
      let result : Value = int (int_wrap w32 (a.0 +ℤ by)) in
      let p = replaced (is_of_type heap e) before.locals frame.locals n i.0 result b.locals i.1 (of_int_type i.0 i.2 (int_wrap w32 (a.0 +ℤ by))) in
      rw (v.1 ∙ ap Some a.1) (stored_is_sound (slice_set frame.locals n result) frame.stack (with_local n result frame.locals) (rw (le-leb (suc n) (length frame.locals) p.0) refl)
      (subst (λ (t : TypeFrame). pointwise (is_of_type heap e) t.locals (slice_set frame.locals n result) ≡ true) i.3 p.1)
      (subst (λ (t : TypeFrame). are_of_types heap e t.stack frame.stack ≡ true) i.3 b.stack))
    where
      of_int_type : (type : VerificationType) → is_int type ≡ true → (n : ℤ) → is_of_type heap e type (int n) ≡ true
      of_int_type int_type is n = refl
      of_int_type type is n = absurd cc
