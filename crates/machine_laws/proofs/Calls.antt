-- Calls of methods with code are right.
use Rattle.std.proofs.Common.{◌≡◌, ℕ, [], ◌∷◌, Option, Some, None, Bool, true, false, refl, ap, sym, subst, ◌∙◌, if◌then◌else◌, length, reverse, take, drop, inl, inr}
use Rattle.std.specs.Prelude.{◌⊎◌, is_some, not, ◌&&◌}
use Rattle.std.proofs.lemmas.Bool.{or_right}
use lib.Pointwise.{pointwise}
use Rattle.jv_model.specs.Operand.{Operand}
use Rattle.jv_model.specs.Code.{Body}
use Rattle.world_model.specs.World.{World, Method, is_static_method}
use Rattle.world_model.specs.LookUp.{Found, method_found}
use Rattle.typing_model.specs.Environment.{Environment}
use Rattle.typing_model.specs.DescriptorFrame.{parameter_locals}
use Rattle.typing_model.specs.InstructionTypes.{type_step}
use Rattle.machine_model.specs.Deed.{Deed, blocked, is_deep, does, Running, with_frames}
use Rattle.machine_model.specs.Monitors.{is_synchronized, held_by}
use Rattle.machine_model.specs.CallSteps.{fits_stack, first_locals, new_frame, waits, entered_by, calling, call_code}
use Rattle.machine_model.specs.TypedValues.{HeapTyping, heap_typing, is_in_use, is_of_type, are_of_types}
use Rattle.machine_model.specs.Conforms.{calls, result_types, current_types, waiting_types, holds_rightly, frame_environment, frame_conforms, callers_conform}
use Rattle.frame_laws.proofs.Outcome.{both}
use Rattle.frame_laws.proofs.Standing.{conforms_by}
use Rattle.frame_laws.proofs.Growing.{frame_kept}
use Rattle.machine_laws.proofs.TypedStates.{IsTypedDeed}
use Rattle.machine_laws.proofs.Ready.{Ready, frames_set, locals_then, operands_then, held_then, callers_then}
use Rattle.machine_laws.proofs.Beginning.{Begins, begins, entering}

-- what a method holds is right: its receiver where it's synchronized and not static
pub held_right : (heap : HeapTyping) (method : Method) (receiver : Option ℕ)
    → ((id : ℕ) → receiver ≡ Some id → is_in_use heap id ≡ true)
    → (is_static_method method ≡ true) ⊎ (is_some receiver ≡ true) → holds_rightly heap method (held_by method receiver) ≡ true
held_right heap method receiver used which = go (is_synchronized method) refl (is_static_method method) refl receiver used which
  where
    go : (a : Bool) → is_synchronized method ≡ a → (b : Bool) → is_static_method method ≡ b → (receiver : Option ℕ)
        → ((id : ℕ) → receiver ≡ Some id → is_in_use heap id ≡ true)
        → (is_static_method method ≡ true) ⊎ (is_some receiver ≡ true)
        → holds_rightly heap method (if a then (if b then None else receiver) else None) ≡ true
    go false s b t receiver used which = rw s refl
    go true s true t receiver used which = or_right (not (is_synchronized method)) (is_static_method method) t
    go true s false t None used (inl static) = absurd cc
    go true s false t None used (inr some) = absurd cc
    go true s false t (Some id) used which =
        both (is_synchronized method && not (is_static_method method)) (is_in_use heap id)
        (both (is_synchronized method) (not (is_static_method method)) s (ap not t)) (used id refl)

module _ (r : Running) (live : ℕ → Bool) (ready : Ready r live) where
  abbrev heap : HeapTyping
  heap = heap_typing r.state live

  -- A call of a method with code, on arguments that fit its first locals: the caller waits at the call.
  pub call_code_is_right : (found : Found Method) (body : Body Operand) (places : ℕ) (receiver : Option ℕ) (e : Environment)
      → frame_environment r.state.world (new_frame (method_found found) None []) ≡ Some e → e.method ≡ found.member → e.body ≡ body
      → pointwise (is_of_type heap e) (parameter_locals e) (reverse (take places r.frame.stack)) ≡ true
      → ((id : ℕ) → receiver ≡ Some id → is_in_use heap id ≡ true)
      → (is_static_method found.member ≡ true) ⊎ (is_some receiver ≡ true)
      → calls found.member.descriptor ready.at.placed.instruction ≡ true
      → are_of_types heap ready.e (drop (length (result_types found.member.descriptor)) ready.at.applies.after.stack) (drop places r.frame.stack) ≡ true
      → IsTypedDeed r.state.world (call_code r found body places receiver)
  unfolding callers_conform
  call_code_is_right found body places receiver e environment same_method same_body fit used which is_call rest =
      let held = held_right heap found.member receiver used which in
      let b = begins heap ready.runnable.verified (method_found found) e (held_by found.member receiver) (reverse (take places r.frame.stack)) environment fit
      (subst (λ (method : Method). holds_rightly heap method (held_by found.member receiver) ≡ true) (sym same_method) held) in
      rw (ap (λ (b : Body Operand). first_locals b (reverse (take places r.frame.stack))) (sym same_body) ∙ b.are_first)
      (either (waits r.thread r.state found receiver) (not (fits_stack r.state.world body (r.frame ∷ r.callers))) _ (called_right b))
    where
      either : (wait deep : Bool) (deed : Deed) → IsTypedDeed r.state.world deed
          → IsTypedDeed r.state.world (if wait then blocked else if deep then is_deep else deed)
      either true deep deed right = tt
      either false true deed right = tt
      either false false deed right = right

      called_right : (b : Begins heap (method_found found) e (held_by found.member receiver) (reverse (take places r.frame.stack)))
          → IsTypedDeed r.state.world (does 0 true (with_frames r (new_frame (method_found found) (held_by found.member receiver) b.locals ∷ calling r places ∷ r.callers) (entered_by r.thread found receiver r.state)))
      called_right b =
          let after = entered_by r.thread found receiver r.state in
          let f = entering r.thread found receiver r.state live ready.conforms in
          let descriptor = found.member.descriptor in
          let step : type_step ready.e r.frame.pc ready.at.placed.instruction ready.before ≡ Some ready.at.applies.after =
          ap (λ (pc : ℕ). type_step ready.e pc ready.at.placed.instruction ready.before) (sym ready.at.is_pc) ∙ ready.at.applies.is_after in
          let waiting : waiting_types descriptor ready.e r.frame.pc ≡ Some (record ready.before { stack = drop (length (result_types descriptor)) ready.at.applies.after.stack }) =
          rw (ready.is_before, ready.at.is_placed, step, is_call) refl in
          let begun : frame_conforms (heap_typing after live) (λ e. current_types e 0) (new_frame (method_found found) (held_by found.member receiver) b.locals) ≡ true =
          subst (λ (w : World). frame_conforms (record { world = w; type_at = (heap_typing after live).type_at }) (λ e. current_types e 0) (new_frame (method_found found) (held_by found.member receiver) b.locals) ≡ true) (sym f.same_world)
          (frame_kept r.state.world heap.type_at (heap_typing after live).type_at f.grows (λ e. current_types e 0) (new_frame (method_found found) (held_by found.member receiver) b.locals) b.conforms) in
          let caller : frame_conforms (heap_typing after live) (λ e. waiting_types descriptor e r.frame.pc) (calling r places) ≡ true =
          conforms_by (heap_typing after live) (λ e. waiting_types descriptor e r.frame.pc) (calling r places) (record {
            e = ready.e;
            types = record ready.before { stack = drop (length (result_types descriptor)) ready.at.applies.after.stack };
            is_environment = ap (λ (w : World). frame_environment w r.frame) f.same_world ∙ ready.is_environment;
            are_types = waiting;
            fits = both (pointwise (is_of_type (heap_typing after live) ready.e) ready.before.locals r.frame.locals) (are_of_types (heap_typing after live) ready.e (drop (length (result_types descriptor)) ready.at.applies.after.stack) (drop places r.frame.stack))
                (locals_then r live ready after live f) (operands_then r live ready after live f (drop (length (result_types descriptor)) ready.at.applies.after.stack) (drop places r.frame.stack) rest);
            held = held_then r live ready after live f;
          }) in
          record {
            live = live;
            is = frames_set after live r.thread (new_frame (method_found found) (held_by found.member receiver) b.locals ∷ calling r places ∷ r.callers) f.conforms
                (both (frame_conforms (heap_typing after live) (λ e. current_types e 0) (new_frame (method_found found) (held_by found.member receiver) b.locals)) (frame_conforms (heap_typing after live) (λ e. waiting_types descriptor e r.frame.pc) (calling r places) && callers_conform (heap_typing after live) r.frame.method.descriptor r.callers) begun
                (both (frame_conforms (heap_typing after live) (λ e. waiting_types descriptor e r.frame.pc) (calling r places)) (callers_conform (heap_typing after live) r.frame.method.descriptor r.callers) caller (callers_then r live ready after live f)));
          }
