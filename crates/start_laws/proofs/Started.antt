-- The start conforms, and so does what legal entries of steps lead to.
use Rattle.std.proofs.Common.{◌≡◌, ◌≤◌, ℕ, zero, suc, List, [], ◌∷◌, None, arith, Some, true, refl, sym, subst, ◌∙◌}
use Rattle.std.specs.Prelude.{◌⊎◌, flat_map}
use Rattle.std.specs.List.{list_all}
use Rattle.jv_model.specs.Journal.{Entry, run, attempt}
use Rattle.world_model.specs.World.{World}
use Rattle.machine_model.specs.State.{State}
use Rattle.machine_model.specs.Deed.{Deed, throws, blocked, is_deep, is_crowded, is_full, does, wrong}
use Rattle.machine_model.specs.ReturnSteps.{starts_next}
use Rattle.machine_model.specs.Machine.{Program, Machine}
use Rattle.machine_model.specs.Start.{string_constants, first_methods, with_first_objects, first_state, started, state_of, start}
use Rattle.machine_model.specs.Conforms.{can_begin, Conforms}
use Rattle.machine_model.specs.Queue.{is_due}
use Rattle.machine_model.specs.Step.{step_of}
use Rattle.machine_model.specs.Ends.{end_of}
use Rattle.machine_model.specs.Legal.{may_attempt}
use Rattle.journal_model.specs.Journal.{made as made_by, replayed}
use Rattle.frame_laws.proofs.Outcome.{some_inj, bind_is}
use Rattle.run_laws.specs.Keeps.{KeepsIn}
use Rattle.run_laws.proofs.Keeping.{same}
use Rattle.run_laws.proofs.Runs.{run_is, no_run}
use Rattle.run_laws.proofs.Steps.{further_counts}
use Rattle.run_laws.proofs.CallFamilies.{starts_next_keeps}
use Rattle.state_laws.specs.Laws.{KeptIn}
use Rattle.machine_laws.specs.Runnable.{IsRunnable}
use Rattle.machine_laws.specs.Deeds.{is_run}
use Rattle.machine_laws.proofs.TypedStates.{IsTypedDeed}
use Rattle.machine_laws.proofs.Beginning.{starts_next_is_right}
use Rattle.machine_laws.proofs.Steps.{journal_conforms}
use Rattle.machine_laws.proofs.Going.{goes_on}
use Rattle.start_laws.specs.Startable.{IsStartable}
use Rattle.start_laws.proofs.First.{Begun, first_thread}
use Rattle.start_laws.proofs.Changes.{first_kept}
use Rattle.start_laws.proofs.Objects.{objects_begun}
use Rattle.start_laws.proofs.Strings.{strings_begun}

-- what the first thread begins with conforms, and else the state as it was
first_begins : (world : World) (before : State) (b : Begun world before) (deed : Deed) → IsTypedDeed before.world deed → KeptIn deed
    → KeepsIn 0 before deed → Conforms (state_of deed before) × ((state_of deed before).world ≡ world)
first_begins world before b (does words mark state) typed kept keeps =
    (record { live = typed.live; is = typed.is; kept = kept }, keeps.world ∙ b.mid.same_world)
first_begins world before b wrong typed kept keeps = absurd typed
first_begins world before b (throws class native) typed kept keeps = (record { live = b.live; is = b.is; kept = b.mid.kept }, b.mid.same_world)
first_begins world before b blocked typed kept keeps = (record { live = b.live; is = b.is; kept = b.mid.kept }, b.mid.same_world)
first_begins world before b is_deep typed kept keeps = (record { live = b.live; is = b.is; kept = b.mid.kept }, b.mid.same_world)
first_begins world before b is_crowded typed kept keeps = (record { live = b.live; is = b.is; kept = b.mid.kept }, b.mid.same_world)
first_begins world before b is_full typed kept keeps = (record { live = b.live; is = b.is; kept = b.mid.kept }, b.mid.same_world)

-- The machine as a program starts conforms, in the program's world.
pub start_conforms : (program : Program) → IsStartable program
    → Conforms (start program).state × ((start program).state.world ≡ program.world)
unfolding start
start_conforms program s =
    let b = strings_begun program.half program.world (flat_map string_constants program.world.classes) s.strings (with_first_objects program.half (first_state program.world)) (objects_begun program s) in
    let before = (started program).state in
    let runnable = subst IsRunnable (sym b.mid.same_world) s.runnable in
    first_begins program.world before b (starts_next 0 before (first_methods program))
    (starts_next_is_right before b.live runnable 0 (first_methods program) b.is (subst (λ (w : World). list_all (can_begin w) (first_methods program) ≡ true) (sym b.mid.same_world) s.methods))
    (first_kept program.world 0 first_thread before (first_methods program) s.runnable.frames_fit b.mid refl refl)
    (starts_next_keeps 0 before before (first_methods program) (same 0 before))

-- After legal entries of steps, one after another, it still does.
pub started_conforms : (program : Program) (entries : List Entry) (end : Machine) → IsStartable program
    → list_all is_run entries ≡ true → replayed entries (start program) ≡ Some end
    → Conforms end.state × (end.state.world ≡ program.world)
started_conforms program entries end s runs e =
    let first = start_conforms program s in
    let rest = journal_conforms entries (start program) end (subst IsRunnable (sym first.1) s.runnable) first.0 runs e in
    (rest.0, rest.1 ∙ first.1)

-- ---- runs go on

-- legal entries of steps make no more steps than the program may
steps_within : (entries : List Entry) (machine end : Machine) → list_all is_run entries ≡ true
    → replayed entries machine ≡ Some end → machine.steps ≤ machine.program.steps → end.steps ≤ end.program.steps
unfolding replayed
steps_within [] machine end runs e few = subst (λ (m : Machine). m.steps ≤ m.program.steps) (some_inj e) few
steps_within (run t count ∷ entries) machine end runs e few =
    let next = bind_is (λ next. replayed entries next) (made_by (run t count) machine) end e in
    steps_within entries next.0 end runs next.2 (one count next.0 next.1)
  where
    one : (count : ℕ) (after : Machine) → made_by (run t count) machine ≡ Some after → after.steps ≤ after.program.steps
    one zero after e = absurd (no_run t machine after e)
    one (suc count) after e =
        let is = run_is t count machine after e in
        let counts = further_counts (is_due machine) t count machine (step_of machine t) after refl is.steps in
        let left = is.left in
        subst (λ (p : Program). after.steps ≤ p.steps) (sym counts.program) (omega (arith, counts.steps, left, few))
steps_within (attempt ∷ entries) machine end runs e few = absurd cc

-- Where the run has no end after them, some thread can make a step, or an attempt may be made.
pub started_goes_on : (program : Program) (entries : List Entry) (end : Machine) → IsStartable program
    → list_all is_run entries ≡ true → replayed entries (start program) ≡ Some end → end_of end ≡ None
    → ((t : ℕ) × (after : Machine) × (made_by (run t 1) end ≡ Some after)) ⊎ (may_attempt end ≡ true)
unfolding start
started_goes_on program entries end s runs e none =
    let c = started_conforms program entries end s runs e in
    goes_on end (subst IsRunnable (sym c.1) s.runnable) c.0 (steps_within entries (start program) end runs e (omega arith)) none
