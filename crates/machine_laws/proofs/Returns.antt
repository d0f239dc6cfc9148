-- Returns are right: the caller goes on behind its call with the result, or the thread with its next method.
use Rattle.std.proofs.Common.{◌≡◌, ℕ, List, [], ◌∷◌, ◌++◌, Option, Some, None, Bool, true, false, refl, ap, sym, subst, ◌∙◌, if◌then◌else◌, length, slice_get, option_map, nat_le, inl, inr, codes, flat_map, drop, unwrap_or, arith}
use Rattle.std.specs.Prelude.{◌⊎◌, is_none, not, ◌&&◌, option_to_list}
use Rattle.std.specs.List.{list_all}
use Rattle.std.proofs.lemmas.Bool.{and_parts, or_left, or_right, le-leb}
use lib.Pointwise.{pointwise}
use Rattle.jv_model.specs.Partial.{◌>>=◌}
use Rattle.jv_model.specs.Descriptors.{FieldType, MethodType}
use Rattle.jv_model.specs.Operand.{Operand, MemberReference}
use Rattle.jv_model.specs.Code.{Placed, Body}
use Rattle.jv_model.specs.Flow.{goes_on as flow_goes_on}
use Rattle.jv_model.specs.Instruction.{ValueKind, of_int, of_long, of_reference}
use Rattle.world_model.specs.World.{World}
use Rattle.world_model.specs.Members.{body_of}
use Rattle.code_model.specs.TypeReading.{method_type_of}
use Rattle.typing_model.specs.VerificationType.{VerificationType, top, long as long_type, this, TypeFrame, is_of_kind, type_of, words_of, has}
use Rattle.typing_model.specs.Environment.{Environment, is_constructor}
use Rattle.typing_model.specs.CallTypes.{results}
use Rattle.typing_model.specs.ReturnTypes.{value_returned, returned}
use Rattle.typing_model.specs.Transition.{to, popped}
use Rattle.typing_model.specs.InstructionTypes.{type_step}
use Rattle.machine_model.specs.Value.{Value, onto, taken_of}
use Rattle.machine_model.specs.Heap.{exited}
use Rattle.machine_model.specs.State.{Frame, Thread, State}
use Rattle.machine_model.specs.LocalStep.{instruction_at}
use Rattle.machine_model.specs.Deed.{Deed, Running, has_room}
use Rattle.machine_model.specs.Monitors.{change_monitor, illegal_monitor_state}
use Rattle.machine_model.specs.Throwing.{is_synchronized_frame, owns, left_by}
use Rattle.machine_model.specs.ReturnSteps.{with_result, methods_to_start, leaves, return_with, return_of}
use Rattle.machine_model.specs.TypedValues.{HeapTyping, heap_typing, is_of_type, are_of_types, fits_frame, holds}
use Rattle.machine_model.specs.Conforms.{calls, result_types, current_types, waiting_types, frame_conforms, callers_conform, frames_conform, can_begin, thread_conforms, ConformsWith}
use Rattle.frame_laws.proofs.Taking.{length_is_words, value_of_kind}
use Rattle.frame_laws.proofs.Outcome.{some_inj, both, bind_is, when_is, map_is, popped_is, all_of}
use Rattle.frame_laws.proofs.Standing.{typed_frame, at_pc, conforms_is}
use Rattle.frame_laws.proofs.Onward.{subsumes, arrives_next}
use Rattle.frame_laws.proofs.Growing.{holds_kept}
use Rattle.machine_laws.specs.Runnable.{IsRunnable, is_operand}
use Rattle.machine_laws.proofs.TypedStates.{IsTypedDeed}
use Rattle.machine_laws.proofs.Ready.{Ready, Follows, itself, monitoring, frames_set, throws_rightly, operands_fit, callers_then}
use Rattle.machine_laws.proofs.Operands.{lands, held_of_type, of_type_held, take_wanted}
use Rattle.machine_laws.proofs.Fields.{taken_onto}
use Rattle.machine_laws.proofs.Calling.{of_frame, call_shape, call_goes_on}
use Rattle.machine_laws.proofs.Beginning.{starts_next_is_right}

-- ---- results

-- What a method of a type gives back: nothing, or a value that its result holds.
pub data Gives (heap : HeapTyping) (type : MethodType) : Option Value → Type 0 where
  nothing : type.result ≡ None → Gives heap type None
  a_value : (t : FieldType) (value : Value) → type.result ≡ Some t → is_operand (type_of t) ≡ true → holds heap t value ≡ true
      → Gives heap type (Some value)

-- the result comes onto operands of types
result_lands : (heap : HeapTyping) (e : Environment) (type : MethodType) (result : Option Value) → Gives heap type result
    → (rest : List VerificationType) (values : List Value) → are_of_types heap e rest values ≡ true
    → are_of_types heap e (results type ++ rest) (with_result result values) ≡ true
result_lands heap e type _ (nothing none) rest values f =
    subst (λ (o : Option FieldType). are_of_types heap e (option_to_list (option_map type_of o) ++ rest) values ≡ true) (sym none) f
result_lands heap e type _ (a_value t value some operand held) rest values f =
    subst (λ (o : Option FieldType). are_of_types heap e (option_to_list (option_map type_of o) ++ rest) (onto value values) ≡ true) (sym some)
    (lands heap e (type_of t) value operand (held_of_type heap e t value operand held) rest values f)

-- and has room
result_room : (heap : HeapTyping) (e : Environment) (type : MethodType) (result : Option Value) → Gives heap type result
    → (rest : List VerificationType) (values : List Value) → are_of_types heap e (results type ++ rest) (with_result result values) ≡ true
    → (results type ≡ []) ⊎ (nat_le (words_of (results type ++ rest)) e.body.max_stack ≡ true)
    → has_room e.body values (with_result result values) ≡ true
result_room heap e type _ (nothing none) rest values f room =
    or_right (nat_le (length values) e.body.max_stack) (nat_le (length values) (length values)) (le-leb _ _ (omega arith))
result_room heap e type _ (a_value t value some operand held) rest values f (inl empty) =
    absurd (let yes : results type ≡ type_of t ∷ [] = ap (λ (o : Option FieldType). option_to_list (option_map type_of o)) some in cc)
result_room heap e type _ (a_value t value some operand held) rest values f (inr room) =
    or_left (nat_le (length (onto value values)) e.body.max_stack) (nat_le (length (onto value values)) (length values))
    (ap (λ (n : ℕ). nat_le n e.body.max_stack) (length_is_words heap e (results type ++ rest) (onto value values) f) ∙ room)

-- the rest of a list behind its front
drop_front : {A : Type 0} (xs ys : List A) → drop (length xs) (xs ++ ys) ≡ ys
drop_front [] ys = refl
drop_front (x ∷ xs) ys = drop_front xs ys

-- a type of a kind isn't Top
kind_operand : (kind : ValueKind) (type : VerificationType) → is_of_kind kind type ≡ true → is_operand type ≡ true
kind_operand of_int top h = absurd cc
kind_operand of_long top h = absurd cc
kind_operand of_reference top h = absurd cc
kind_operand kind long_type h = refl
kind_operand kind type h = refl

-- ---- a caller goes on

module _ (state : State) (live : ℕ → Bool) (runnable : IsRunnable state.world) (is : ConformsWith state live) where
  abbrev heap : HeapTyping
  heap = heap_typing state live

  -- What is known of a caller: the instruction at which it waits, and the frame that goes on behind it with a result.
  record GoesOn (descriptor : List ℕ) (caller : Frame) (result : Option Value) : Type 0 where
    body : Body Operand
    placed : Placed Operand
    is_body : body_of state.world caller.method ≡ Some body
    is_placed : instruction_at body caller.pc ≡ Some placed
    room : has_room body caller.stack (with_result result caller.stack) ≡ true
    conforms : frame_conforms heap (λ e. current_types e placed.next) (record caller { pc = placed.next; stack = with_result result caller.stack }) ≡ true

  goes_on_with : (descriptor : List ℕ) (caller : Frame) (type : MethodType) (result : Option Value)
      → method_type_of descriptor ≡ Some type → Gives heap type result
      → frame_conforms heap (λ e. waiting_types descriptor e caller.pc) caller ≡ true → GoesOn descriptor caller result
  goes_on_with descriptor caller type result read gives conforms =
      let p = conforms_is heap (λ e. waiting_types descriptor e caller.pc) caller conforms in
      let t = typed_frame state.world runnable.verified caller p.e p.is_environment in
      let of = of_frame state.world caller p.e p.is_environment in
      let before = bind_is (λ before. instruction_at p.e.body caller.pc >>= λ placed. type_step p.e caller.pc placed.instruction before >>= λ after. if calls descriptor placed.instruction then Some (record before { stack = drop (length (result_types descriptor)) after.stack }) else None) (current_types p.e caller.pc) p.types p.are_types in
      let placed = bind_is (λ placed. type_step p.e caller.pc placed.instruction before.0 >>= λ after. if calls descriptor placed.instruction then Some (record before.0 { stack = drop (length (result_types descriptor)) after.stack }) else None) (instruction_at p.e.body caller.pc) p.types before.2 in
      let after = bind_is (λ (after : TypeFrame). if calls descriptor placed.0.instruction then Some (record before.0 { stack = drop (length (result_types descriptor)) after.stack }) else None) (type_step p.e caller.pc placed.0.instruction before.0) p.types placed.2 in
      let w = when_is (calls descriptor placed.0.instruction) (Some (record before.0 { stack = drop (length (result_types descriptor)) after.0.stack })) p.types after.2 in
      let at = at_pc state.world p.e t caller.pc before.0 before.1 in
      let same_placed : at.placed ≡ placed.0 = some_inj (sym at.is_placed ∙ placed.1) in
      let same_after : at.applies.after ≡ after.0 =
      some_inj (sym at.applies.is_after ∙ (ap (λ (pc : ℕ). type_step p.e pc at.placed.instruction before.0) at.is_pc ∙ (ap (λ (q : Placed Operand). type_step p.e caller.pc q.instruction before.0) same_placed ∙ after.1))) in
      let shape = call_shape heap p.e t.right before.0 after.0 caller.pc descriptor placed.0.instruction w.0 after.1 in
      let same_type : shape.type ≡ type = some_inj (sym shape.is_type ∙ read) in
      let stack : after.0.stack ≡ results type ++ shape.rest = shape.stack ∙ ap (λ (t : MethodType). results t ++ shape.rest) same_type in
      let dropped : drop (length (result_types descriptor)) after.0.stack ≡ shape.rest =
      ap (λ (ts : List VerificationType). drop (length ts) after.0.stack) (ap (λ (o : Option MethodType). unwrap_or (option_map results o) []) read)
      ∙ (ap (drop (length (results type))) stack ∙ drop_front (results type) shape.rest) in
      let fits = subst (λ (f : TypeFrame). fits_frame heap p.e caller f ≡ true) (sym (some_inj w.1)) p.fits in
      let parts = and_parts (pointwise (is_of_type heap p.e) before.0.locals caller.locals) (are_of_types heap p.e (drop (length (result_types descriptor)) after.0.stack) caller.stack) fits in
      let below = subst (λ (ts : List VerificationType). are_of_types heap p.e ts caller.stack ≡ true) dropped parts.1 in
      let landed = result_lands heap p.e type result gives shape.rest caller.stack below in
      record {
        body = p.e.body;
        placed = placed.0;
        is_body = of.body;
        is_placed = placed.1;
        room = result_room heap p.e type result gives shape.rest caller.stack landed
            (subst (λ (t : MethodType). (results t ≡ []) ⊎ (nat_le (words_of (results t ++ shape.rest)) p.e.body.max_stack ≡ true)) same_type
            (subst (λ (ts : List VerificationType). (results shape.type ≡ []) ⊎ (nat_le (words_of ts) p.e.body.max_stack ≡ true)) shape.stack shape.room));
        conforms = arrives_next heap runnable.verified caller (record caller { pc = placed.0.next; stack = with_result result caller.stack }) p.e t before.0 at p.is_environment
            (inl (ap (λ (q : Placed Operand). q.next) (sym same_placed), ap (λ (q : Placed Operand). flow_goes_on q.instruction) same_placed ∙ call_goes_on heap p.e t.right before.0 after.0 descriptor placed.0.instruction w.0))
            (subst (λ (a : TypeFrame). fits_frame heap p.e (record caller { pc = placed.0.next; stack = with_result result caller.stack }) a ≡ true) (sym same_after)
            (both (pointwise (is_of_type heap p.e) after.0.locals caller.locals) (are_of_types heap p.e after.0.stack (with_result result caller.stack)) (shape.locals caller.locals parts.0)
            (subst (λ (ts : List VerificationType). are_of_types heap p.e ts (with_result result caller.stack) ≡ true) (sym stack) landed)))
            p.held;
      }

-- ---- a thread returns

-- the monitor of a synchronized method is left, where it's owned
pub leaving : (t : ℕ) (frame : Frame) (state : State) (live : ℕ → Bool) → ConformsWith state live
    → Follows state live (left_by t frame state) live
leaving t frame state live is = go (is_synchronized_frame state.world frame && owns t state frame)
  where
    go : (b : Bool) → Follows state live (if b then change_monitor frame.method.class frame.held exited state else state) live
    go true = monitoring frame.method.class frame.held exited state live is
    go false = itself state live is

module _ (r : Running) (live : ℕ → Bool) (ready : Ready r live) where
  -- the methods that the thread is still to run can be begun
  to_start_right : (state : State) (live : ℕ → Bool) → ConformsWith state live → (t : ℕ)
      → list_all (can_begin state.world) (methods_to_start state t) ≡ true
  to_start_right state live is t = go (slice_get state.threads t) refl
    where
      one : (xs : List MemberReference) → list_all (can_begin state.world) xs ≡ true → list_all (can_begin state.world) (xs ++ []) ≡ true
      one [] h = refl
      one (x ∷ xs) h =
          let p = and_parts (can_begin state.world x) (list_all (can_begin state.world) xs) h in
          both (can_begin state.world x) (list_all (can_begin state.world) (xs ++ [])) p.0 (one xs p.1)

      go : (o : Option Thread) → slice_get state.threads t ≡ o
          → list_all (can_begin state.world) (flat_map (λ (th : Thread). th.to_start) (option_to_list o)) ≡ true
      go None at = refl
      go (Some th) at =
          let conforms = all_of (thread_conforms (heap_typing state live)) state.threads t th is.threads at in
          one th.to_start (and_parts (frames_conform (heap_typing state live) th.frames) (list_all (can_begin state.world) th.to_start) conforms).1

  leaves_rightly : (state : State) → Follows r.state live state live → (type : MethodType) (result : Option Value)
      → method_type_of r.frame.method.descriptor ≡ Some type → Gives (heap_typing state live) type result
      → (callers : List Frame) → callers_conform (heap_typing state live) r.frame.method.descriptor callers ≡ true
      → IsTypedDeed r.state.world (leaves r state result callers)
  unfolding callers_conform
  leaves_rightly state f type result read gives [] conform =
      subst (λ (w : World). IsTypedDeed w (leaves r state result [])) f.same_world
      (starts_next_is_right state live (subst IsRunnable (sym f.same_world) ready.runnable) r.thread (methods_to_start state r.thread) f.conforms (to_start_right state live f.conforms r.thread))
  leaves_rightly state f type result read gives (caller ∷ callers) conform =
      let p = and_parts (frame_conforms (heap_typing state live) (λ e. waiting_types r.frame.method.descriptor e caller.pc) caller) (callers_conform (heap_typing state live) caller.method.descriptor callers) conform in
      let g = goes_on_with state live (subst IsRunnable (sym f.same_world) ready.runnable) f.conforms r.frame.method.descriptor caller type result read gives p.0 in
      rw (g.is_body, g.is_placed, g.room) (record {
        live = live;
        is = frames_set state live r.thread (record caller { pc = g.placed.next; stack = with_result result caller.stack } ∷ callers) f.conforms
            (both (frame_conforms (heap_typing state live) (λ e. current_types e g.placed.next) (record caller { pc = g.placed.next; stack = with_result result caller.stack })) (callers_conform (heap_typing state live) caller.method.descriptor callers) g.conforms p.1);
      })

  -- a value of a type is held where more was left
  gives_then : (state : State) → Follows r.state live state live → (type : MethodType) (result : Option Value)
      → Gives (heap_typing r.state live) type result → Gives (heap_typing state live) type result
  gives_then state f type _ (nothing none) = nothing none
  gives_then state f type _ (a_value t value some operand held) = a_value t value some operand
      (subst (λ (w : World). holds (record { world = w; type_at = (heap_typing state live).type_at }) t value ≡ true) (sym f.same_world)
      (holds_kept r.state.world (heap_typing r.state live).type_at (heap_typing state live).type_at f.grows t value held))

  -- a return with a result that the method gives is right
  pub return_with_is_right : (result : Option Value) → Gives (heap_typing r.state live) ready.e.type result
      → IsTypedDeed r.state.world (return_with r result)
  return_with_is_right result gives =
      let of = of_frame r.state.world r.frame ready.e ready.is_environment in
      let f = leaving r.thread r.frame r.state live ready.conforms in
      either (is_synchronized_frame r.state.world r.frame && not (owns r.thread r.state r.frame)) _
      (leaves_rightly (left_by r.thread r.frame r.state) f ready.e.type result (ap method_type_of (sym of.same_descriptor) ∙ of.is_type) (gives_then (left_by r.thread r.frame r.state) f ready.e.type result gives) r.callers
      (callers_then r live ready (left_by r.thread r.frame r.state) live f))
    where
      either : (b : Bool) (deed : Deed) → IsTypedDeed r.state.world deed → IsTypedDeed r.state.world (if b then illegal_monitor_state else deed)
      either true deed right = throws_rightly r live ready (codes "java/lang/IllegalMonitorStateException") false refl
      either false deed right = right

  -- `return` is right
  pub return_void_is_right : returned ready.e ready.before ≡ Some ready.at.applies.after
      → IsTypedDeed r.state.world (return_with r None)
  return_void_is_right h =
      let w = when_is (is_none ready.e.type.result && not (is_constructor ready.e && has this ready.before.locals)) (Some ready.before) ready.at.applies.after h in
      return_with_is_right None (nothing (is_nothing ready.e.type.result (and_parts (is_none ready.e.type.result) (not (is_constructor ready.e && has this ready.before.locals)) w.0).0))
    where
      is_nothing : (o : Option FieldType) → is_none o ≡ true → o ≡ None
      is_nothing None h = refl
      is_nothing (Some t) h = absurd cc

  -- `ireturn`, `lreturn` and `areturn` are right
  pub return_value_is_right : (kind : ValueKind) → value_returned ready.e kind ready.before ≡ Some ready.at.applies.after
      → IsTypedDeed r.state.world (return_of r kind)
  return_value_is_right kind h =
      let type = bind_is (λ result. if is_of_kind kind result then popped (to ready.e result ∷ []) ready.before else None) (option_map type_of ready.e.type.result) ready.at.applies.after h in
      let field = map_is type_of ready.e.type.result type.0 type.1 in
      let w = when_is (is_of_kind kind type.0) (popped (to ready.e type.0 ∷ []) ready.before) ready.at.applies.after type.2 in
      let p = popped_is (to ready.e type.0 ∷ []) ready.before ready.at.applies.after w.1 in
      let operand = kind_operand kind type.0 w.0 in
      let x = take_wanted (heap_typing r.state live) ready.e (subsumes (heap_typing r.state live) ready.runnable.verified ready.e ready.typed) type.0 [] ready.before.stack p.0 r.frame.stack operand p.1 (operands_fit r live ready) in
      rw (ap (taken_of kind) x.is ∙ taken_onto kind x.value x.others (value_of_kind (heap_typing r.state live) ready.e kind type.0 x.value w.0 x.of))
      (return_with_is_right (Some x.value) (a_value field.0 x.value field.1 (ap is_operand field.2 ∙ operand)
      (of_type_held (heap_typing r.state live) ready.e field.0 x.value (ap is_operand field.2 ∙ operand) (subst (λ (t : VerificationType). is_of_type (heap_typing r.state live) ready.e t x.value ≡ true) (sym field.2) x.of))))
