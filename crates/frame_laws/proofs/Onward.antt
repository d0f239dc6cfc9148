-- Where a frame of verified code goes on, it conforms there; and so a local step keeps it conforming.
use Rattle.std.proofs.Common.{◌≡◌, ℕ, Option, Some, true, ap, sym, subst, inl, inr, option_and_then}
use Rattle.std.proofs.Math.Path.{◌∙◌}
use Rattle.std.specs.Prelude.{◌⊎◌}
use Rattle.jv_model.specs.Operand.{MemberReference}
use Rattle.world_model.specs.World.{Class, class_in, declared_method}
use Rattle.typing_model.specs.VerificationType.{TypeFrame}
use Rattle.typing_model.specs.Assignable.{frame_assignable}
use Rattle.typing_model.specs.Environment.{Environment, environment_of}
use Rattle.machine_model.specs.State.{Frame}
use Rattle.machine_model.specs.LocalStep.{Local, goes_to, not_local, wrong, local_step_of, local_step, local_step_at}
use Rattle.machine_model.specs.TypedValues.{HeapTyping, fits_frame}
use Rattle.machine_model.specs.Conforms.{current_types, holds_rightly, frame_environment, frame_conforms}
use Rattle.frame_laws.specs.Worlds.{IsVerified}
use Rattle.frame_laws.specs.Laws.{Keeps}
use Rattle.frame_laws.proofs.Outcome.{some_inj, IsNextPlace, IsSound}
use Rattle.frame_laws.proofs.LocalSoundness.{local_step_is_sound}
use Rattle.frame_laws.proofs.Verified.{Subsumes, frame_goes}
use Rattle.frame_laws.proofs.Subsumption.{subsumes_in}
use Rattle.frame_laws.proofs.Ordered.{has_orders}
use Rattle.frame_laws.proofs.Standing.{Typed, At, at_pc, typed_frame, Parts, conforms_is, conforms_by}

module _ (heap : HeapTyping) (verified : IsVerified heap.world) where
  -- types subsume in the world of a typed method
  pub subsumes : (e : Environment) → Typed heap.world e → Subsumes heap e
  subsumes e t = subsumes_in heap (has_orders heap.world verified.orderly) e t.same_world

  -- a frame that fits types conforms where they go to
  pub arrives : (frame : Frame) (e : Environment) → Typed heap.world e → (after g : TypeFrame)
      → frame_environment heap.world frame ≡ Some e → current_types e frame.pc ≡ Some g
      → (g ≡ after) ⊎ (frame_assignable e.world after g ≡ true) → fits_frame heap e frame after ≡ true
      → holds_rightly heap e.method frame.held ≡ true
      → frame_conforms heap (λ e. current_types e frame.pc) frame ≡ true
  arrives frame e t after g environment at goes fits held = conforms_by heap (λ e. current_types e frame.pc) frame (record {
    e = e;
    types = g;
    is_environment = environment;
    are_types = at;
    fits = either goes;
    held = held;
  })
    where
      either : (g ≡ after) ⊎ (frame_assignable e.world after g ≡ true) → fits_frame heap e frame g ≡ true
      either (inl same) = subst (λ (types : TypeFrame). fits_frame heap e frame types ≡ true) (sym same) fits
      either (inr goes) = frame_goes heap e (subsumes e t) frame after g goes fits

  -- the same at a place to which flow goes from an instruction
  pub arrives_next : (frame next : Frame) (e : Environment) → Typed heap.world e → (before : TypeFrame) (at : At e frame.pc before)
      → frame_environment heap.world next ≡ Some e → IsNextPlace at.placed next.pc
      → fits_frame heap e next at.applies.after ≡ true → holds_rightly heap e.method next.held ≡ true
      → frame_conforms heap (λ e. current_types e next.pc) next ≡ true
  arrives_next frame next e t before at environment (inl (is, on)) fits held =
      let g = at.next on in
      arrives next e t at.applies.after g.0 environment (ap (current_types e) is ∙ g.1) g.2 fits held
  arrives_next frame next e t before at environment (inr (k, is)) fits held =
      let g = at.target k next.pc is in
      arrives next e t at.applies.after g.0 environment g.1 (inr g.2) fits held

  pub sound_keeps : (frame : Frame) (p : Parts heap (λ e. current_types e frame.pc) frame) (t : Typed heap.world p.e)
      (at : At p.e frame.pc p.types) (step : Local)
      → IsSound heap p.e at.placed frame at.applies.after step → Keeps heap frame step
  sound_keeps frame p t at wrong sound = sound
  sound_keeps frame p t at not_local sound = tt
  sound_keeps frame p t at (goes_to next) sound = (
    arrives_next frame next p.e t p.types at
        (ap (λ (m : MemberReference). option_and_then (λ (c : Class). option_and_then (environment_of heap.world c) (declared_method m.name m.descriptor c)) (class_in heap.world m.class)) sound.same_method ∙ p.is_environment)
        sound.place sound.fits (subst (λ (o : Option ℕ). holds_rightly heap p.e.method o ≡ true) (sym sound.same_held) p.held),
    sound.same_method,
  )

  -- A local step of a frame that conforms, in its code, isn't wrong, and leads to a frame that conforms.
  pub local_step_keeps : (frame : Frame) (e : Environment) → frame_conforms heap (λ e. current_types e frame.pc) frame ≡ true
      → frame_environment heap.world frame ≡ Some e → Keeps heap frame (local_step e.body frame)
  local_step_keeps frame e conforms is =
      let p = conforms_is heap (λ e. current_types e frame.pc) frame conforms in
      subst (λ (d : Environment). Keeps heap frame (local_step d.body frame)) (some_inj (sym p.is_environment ∙ is)) (of_own p)
    where
      of_own : (p : Parts heap (λ e. current_types e frame.pc) frame) → Keeps heap frame (local_step p.e.body frame)
      of_own p =
          let t = typed_frame heap.world verified frame p.e p.is_environment in
          let at = at_pc heap.world p.e t frame.pc p.types p.are_types in
          let sound = local_step_is_sound heap p.e at.placed frame p.types at.applies.after p.fits at.applies.is_after in
          subst (λ o. Keeps heap frame (local_step_at p.e.body frame o)) (sym at.is_placed) (sound_keeps frame p t at (local_step_of p.e.body at.placed frame at.placed.instruction) sound)
