-- What a live thread's next instruction comes to is right, and so are steps and entries of steps.
use Rattle.std.proofs.Common.{◌≡◌, ℕ, suc, zero, List, [], ◌∷◌, Option, Some, None, Bool, true, false, refl, ap, sym, subst, ◌∙◌, if◌then◌else◌, length, slice_get, option_map, unwrap_or, arith}
use Rattle.std.specs.Prelude.{◌&&◌, not, ◌==◌, ◌||◌, is_some}
use Rattle.std.specs.List.{list_all}
use Rattle.std.proofs.lemmas.Bool.{and_parts, ne_eqb}
use Rattle.jv_model.specs.Journal.{Entry, run, attempt}
use Rattle.machine_model.specs.State.{Frame, Thread, State, has_ended}
use Rattle.machine_model.specs.Deed.{Deed, throws, blocked, is_deep, is_crowded, is_full, does, wrong, Running}
use Rattle.machine_model.specs.SharedStep.{deed_of_frames, deed_of}
use Rattle.machine_model.specs.Machine.{Machine}
use Rattle.machine_model.specs.Ability.{lives}
use Rattle.machine_model.specs.Queue.{is_due}
use Rattle.machine_model.specs.Step.{Stepped, made, cannot, wrong_step, lacks_room, meets, counted, step_by_doing, step_by, step_of}
use Rattle.jv_model.specs.End.{End, heap_full}
use Rattle.machine_model.specs.Reach.{reach_words}
use Rattle.machine_model.specs.Ability.{is_at_safe_point}
use Rattle.machine_model.specs.Step.{pops_watched}
use Rattle.machine_model.specs.Legal.{readies, ends_entry, further_steps}
use Rattle.machine_model.specs.TypedValues.{heap_typing}
use Rattle.machine_model.specs.Conforms.{current_types, frame_conforms, callers_conform, frames_conform, can_begin, thread_conforms, Conforms}
use Rattle.journal_model.specs.Journal.{made as made_by, replayed}
use Rattle.frame_laws.proofs.Outcome.{some_inj, bind_is, all_of}
use Rattle.frame_laws.proofs.Standing.{conforms_is, typed_frame, at_pc}
use Rattle.run_laws.proofs.Runs.{run_is, no_run}
use Rattle.run_laws.proofs.StepKeeps.{step_keeps, run_keeps}
use Rattle.run_laws.proofs.Fronts.{behind_not}
use Rattle.machine_laws.specs.Runnable.{IsRunnable}
use Rattle.machine_laws.specs.Deeds.{IsRight, IsRightStep, is_run}
use Rattle.state_laws.specs.Laws.{KeptIn}
use Rattle.state_laws.proofs.Changes.{mark_kept}
use Rattle.state_laws.proofs.Steps.{deed_is_kept, throw_is_kept}
use Rattle.world_model.specs.World.{World}
use Rattle.machine_model.specs.Throwing.{throws_new}
use Rattle.machine_laws.proofs.TypedStates.{IsTypedDeed}
use Rattle.machine_laws.proofs.Calling.{of_frame}
use Rattle.machine_laws.proofs.Beginning.{thread_set}
use Rattle.machine_laws.proofs.Catching.{throws_new_is_right}
use Rattle.machine_laws.proofs.Deeds.{instruction_right}

-- ---- deeds

-- a deed that is typed and leaves what is well kept is right
both_right : (world : World) (deed : Deed) → IsTypedDeed world deed → KeptIn deed → IsRight world deed
both_right world (throws class native) typed kept = typed
both_right world blocked typed kept = tt
both_right world is_deep typed kept = tt
both_right world is_crowded typed kept = tt
both_right world is_full typed kept = tt
both_right world (does words mark state) typed kept = record { live = typed.live; is = typed.is; kept = kept }
both_right world wrong typed kept = typed

module _ (state : State) (runnable : IsRunnable state.world) (c : Conforms state) where
  frames_typed : (t : ℕ) (thread : Thread) → slice_get state.threads t ≡ Some thread → (frames : List Frame)
      → thread.frames ≡ frames → (length frames == 0) ≡ false → IsTypedDeed state.world (deed_of_frames state t frames)
  frames_typed t thread there [] are live = absurd cc
  frames_typed t thread there (frame ∷ callers) are live =
      let all = all_of (thread_conforms (heap_typing state c.live)) state.threads t thread c.is.threads there in
      let conform = subst (λ (fs : List Frame). frames_conform (heap_typing state c.live) fs ≡ true) are (and_parts (frames_conform (heap_typing state c.live) thread.frames) (list_all (can_begin state.world) thread.to_start) all).0 in
      let q = and_parts (frame_conforms (heap_typing state c.live) (λ e. current_types e frame.pc) frame) (callers_conform (heap_typing state c.live) frame.method.descriptor callers) conform in
      let p = conforms_is (heap_typing state c.live) (λ e. current_types e frame.pc) frame q.0 in
      let typed = typed_frame state.world runnable.verified frame p.e p.is_environment in
      let at = at_pc state.world p.e typed frame.pc p.types p.are_types in
      let of = of_frame state.world frame p.e p.is_environment in
      let r : Running = record { state = state; thread = t; frame = frame; callers = callers; body = p.e.body; placed = at.placed } in
      rw (of.body, at.is_placed) (instruction_right r c.live (record {
        runnable = runnable;
        conforms = c.is;
        thread = thread;
        is_thread = there;
        are_frames = are;
        e = p.e;
        before = p.types;
        is_environment = p.is_environment;
        is_before = p.are_types;
        typed = typed;
        fits = p.fits;
        held = p.held;
        at = at;
        same_body = refl;
        same_placed = refl;
        callers = q.1;
      }) at.placed.instruction refl at.applies.is_after (runnable.uses frame p.e frame.pc at.placed p.is_environment at.is_placed))

  -- A live thread's deed is typed.
  deed_is_typed : (t : ℕ) → lives state t ≡ true → IsTypedDeed state.world (deed_of state t)
  unfolding deed_of
  deed_is_typed t live = go (slice_get state.threads t) refl live
    where
      alive : (b : Bool) → not b ≡ true → b ≡ false
      alive false h = refl
      alive true h = absurd cc

      go : (o : Option Thread) → slice_get state.threads t ≡ o → unwrap_or (option_map (λ th. not (has_ended th)) o) false ≡ true
          → IsTypedDeed state.world (deed_of state t)
      go None at live = absurd cc
      go (Some thread) at live = rw at (frames_typed t thread at thread.frames refl (alive (has_ended thread) live))

  -- A live thread's deed is right.
  pub deed_is_right : (t : ℕ) → lives state t ≡ true → IsRight state.world (deed_of state t)
  deed_is_right t live =
      both_right state.world (deed_of state t) (deed_is_typed t live) (deed_is_kept state t runnable.frames_fit c.kept)

-- ---- steps

module _ (machine : Machine) (c : Conforms machine.state) (t : ℕ) where
  -- a step that does something leads to a machine that conforms
  doing_right : (words : ℕ) (mark : Bool) (state : State) → Conforms state
      → IsRightStep (step_by_doing machine t (does words mark state))
  doing_right words mark state after =
      go (lacks_room machine.state machine.program.half words) (heap_full words (reach_words machine.state) machine.program.half)
    where
      go : (b : Bool) (end : End) → IsRightStep (if b then meets machine end else counted machine t mark state)
      go true end = c
      go false end = record {
        live = after.live;
        is = thread_set state after.live t (λ (th : Thread). record th { mark = mark }) after.is (λ th h. h);
        kept = mark_kept state t mark after.kept;
      }

  -- a right deed makes a right step
  by_deed : IsRunnable machine.state.world → (deed : Deed) → deed_of machine.state t ≡ deed → IsRight machine.state.world deed → IsRightStep (step_by machine t deed)
  unfolding step_by
  by_deed runnable (throws name native) is right =
      thrown_right (throws_new t name native machine.state) refl (throws_new_is_right machine.state c.live runnable c.is t name native right)
      (throw_is_kept machine.state t name native runnable.frames_fit c.kept is)
    where
      thrown_right : (deed : Deed) → throws_new t name native machine.state ≡ deed → IsTypedDeed machine.state.world deed → KeptIn deed
          → IsRightStep (step_by_doing machine t deed)
      thrown_right (does words mark state) same typed kept = doing_right words mark state (record { live = typed.live; is = typed.is; kept = kept })
      thrown_right other same typed kept = absurd cc
  by_deed runnable blocked is right = tt
  by_deed runnable is_deep is right = c
  by_deed runnable is_crowded is right = c
  by_deed runnable is_full is right = c
  by_deed runnable (does words mark state) is right = doing_right words mark state right
  by_deed runnable wrong is right = right

-- A step of a live thread is right.
pub step_is_right : (machine : Machine) → IsRunnable machine.state.world
    → Conforms machine.state → (t : ℕ) → lives machine.state t ≡ true → IsRightStep (step_of machine t)
step_is_right machine runnable c t live =
    by_deed machine c t runnable (deed_of machine.state t) refl (deed_is_right machine.state runnable c t live)

-- ---- entries

-- of two tests that don't hold together neither does
or_false : (a b : Bool) → (a || b) ≡ false → (a ≡ false) × (b ≡ false)
or_false true b h = absurd cc
or_false false b h = (refl, h)

-- a step behind which the entry goes on leaves its thread alive
goes_on_alive : (due : Bool) (t : ℕ) (before after : Machine) → ends_entry due t before after ≡ false → lives after.state t ≡ true
goes_on_alive due t before after h =
    let a = or_false (is_some after.met || not (lives after.state t) || readies before after || pops_watched before.updating before.state after.state t) (due && is_at_safe_point after.state t) h in
    let b = or_false (is_some after.met || not (lives after.state t) || readies before after) (pops_watched before.updating before.state after.state t) a.0 in
    let d = or_false (is_some after.met || not (lives after.state t)) (readies before after) b.0 in
    alive (lives after.state t) (or_false (is_some after.met) (not (lives after.state t)) d.0).1
  where
    alive : (b : Bool) → not b ≡ false → b ≡ true
    alive true h = refl
    alive false h = absurd cc

-- a thread that doesn't live makes no step
dead_is_wrong : (state : State) (t : ℕ) → lives state t ≡ false → deed_of state t ≡ wrong
unfolding deed_of
dead_is_wrong state t dead = go (slice_get state.threads t) refl dead
  where
    no_frames : (frames : List Frame) → not (length frames == 0) ≡ false → deed_of_frames state t frames ≡ wrong
    no_frames [] h = refl
    no_frames (frame ∷ callers) h =
        absurd (let some : (suc (length callers) == 0) ≡ false = ne_eqb (suc (length callers)) 0 (λ same. omega arith) in cc)

    go : (o : Option Thread) → slice_get state.threads t ≡ o → unwrap_or (option_map (λ th. not (has_ended th)) o) false ≡ false
        → deed_of state t ≡ wrong
    go None at h = rw at refl
    go (Some thread) at h = rw at (no_frames thread.frames h)

wrong_is : (machine : Machine) (t : ℕ) → step_by machine t wrong ≡ wrong_step
unfolding step_by
wrong_is machine t = refl

no_steps : (due : Bool) (t count : ℕ) (machine : Machine) → further_steps due t count machine wrong_step ≡ None
unfolding further_steps
no_steps due t zero machine = refl
no_steps due t (suc count) machine = refl

-- so many steps after a right one lead to a machine that conforms
further_conforms : (due : Bool) (t count : ℕ) (before : Machine) (stepped : Stepped) (end : Machine)
    → IsRunnable before.state.world → IsRightStep stepped → step_of before t ≡ stepped
    → further_steps due t count before stepped ≡ Some end → Conforms end.state
unfolding further_steps
further_conforms due t zero before (made after) end runnable right is e = subst (λ (m : Machine). Conforms m.state) (some_inj e) right
further_conforms due t (suc count) before (made after) end runnable right is e =
    let b = behind_not (ends_entry due t before after) (further_steps due t count after (step_of after t)) end e in
    let same = (step_keeps before t after is).world in
    let runnable_then = subst IsRunnable (sym same) runnable in
    further_conforms due t count after (step_of after t) end runnable_then
    (step_is_right after runnable_then right t (goes_on_alive due t before after b.0)) refl b.1
further_conforms due t zero before cannot end runnable right is e = absurd cc
further_conforms due t zero before wrong_step end runnable right is e = absurd cc
further_conforms due t (suc count) before cannot end runnable right is e = absurd cc
further_conforms due t (suc count) before wrong_step end runnable right is e = absurd cc

-- After a legal entry of steps the machine conforms, in the same world.
pub run_conforms : (machine end : Machine) → IsRunnable machine.state.world
    → Conforms machine.state → (t count : ℕ) → made_by (run t count) machine ≡ Some end
    → Conforms end.state × (end.state.world ≡ machine.state.world)
run_conforms machine end runnable c t zero e = absurd (no_run t machine end e)
run_conforms machine end runnable c t (suc count) e =
    let steps = (run_is t count machine end e).steps in
    (go (lives machine.state t) refl steps, (run_keeps t (suc count) machine end e).world)
  where
    go : (b : Bool) → lives machine.state t ≡ b → further_steps (is_due machine) t count machine (step_of machine t) ≡ Some end
        → Conforms end.state
    go true live steps =
        further_conforms (is_due machine) t count machine (step_of machine t) end runnable (step_is_right machine runnable c t live) refl steps
    go false dead steps =
        let stuck : step_of machine t ≡ wrong_step = ap (step_by machine t) (dead_is_wrong machine.state t dead) ∙ wrong_is machine t in
        absurd (let k = no_steps (is_due machine) t count machine in let j = ap (further_steps (is_due machine) t count machine) stuck in let l = steps in cc)

-- After legal entries of steps, one after another, the machine conforms, in the same world.
pub journal_conforms : (entries : List Entry) (machine end : Machine) → IsRunnable machine.state.world → Conforms machine.state → list_all is_run entries ≡ true
    → replayed entries machine ≡ Some end → Conforms end.state × (end.state.world ≡ machine.state.world)
unfolding replayed
journal_conforms [] machine end runnable c runs e = (
  subst (λ (m : Machine). Conforms m.state) (some_inj e) c,
  ap (λ (m : Machine). m.state.world) (sym (some_inj e)),
)
journal_conforms (run t count ∷ entries) machine end runnable c runs e =
    let next = bind_is (λ next. replayed entries next) (made_by (run t count) machine) end e in
    let first = run_conforms machine next.0 runnable c t count next.1 in
    let rest = journal_conforms entries next.0 end (subst IsRunnable (sym first.1) runnable) first.0 runs next.2 in
    (rest.0, rest.1 ∙ first.1)
journal_conforms (attempt ∷ entries) machine end runnable c runs e = absurd cc
