-- Where a run of verified code has no end, some entry is legal.
use Rattle.std.proofs.Common.{◌≡◌, ℕ, suc, zero, ◌-◌, ◌≤◌, List, [], ◌∷◌, Option, Some, None, Bool, true, false, refl, ap, ◌∙◌, if◌then◌else◌, cond, inl, inr, arith}
use Rattle.std.specs.Prelude.{◌⊎◌, ◌&&◌, not, ◌==◌, ◌||◌, is_none}
use Rattle.std.specs.List.{list_all}
use Rattle.std.proofs.lemmas.Bool.{and_parts, eq-eqb, cases_lt}
use Rattle.jv_model.specs.End.{End, heap_full}
use Rattle.jv_model.specs.Journal.{run}
use Rattle.machine_model.specs.State.{State, has_ended}
use Rattle.machine_model.specs.Reach.{reach_words}
use Rattle.machine_model.specs.Deed.{Deed, throws, blocked, is_deep, is_crowded, is_full, does, wrong}
use Rattle.machine_model.specs.SharedStep.{deed_of}
use Rattle.machine_model.specs.Machine.{Machine}
use Rattle.machine_model.specs.Ability.{is_blocked, lives, is_able, is_marked, is_at_safe_point, thread_numbers, some_is_able, all_at_safe_points}
use Rattle.machine_model.specs.Queue.{is_due}
use Rattle.machine_model.specs.Ends.{end_of, met_or}
use Rattle.machine_model.specs.Step.{made, lacks_room, meets, counted, step_by, step_by_doing}
use Rattle.machine_model.specs.Legal.{further_steps, may_attempt}
use Rattle.machine_model.specs.Conforms.{Conforms}
use Rattle.journal_model.specs.Journal.{made as made_by}
use Rattle.frame_laws.proofs.Outcome.{both}
use Rattle.run_laws.proofs.Runs.{run_from}
use Rattle.machine_laws.specs.Runnable.{IsRunnable}
use Rattle.machine_laws.specs.Deeds.{IsRight}
use Rattle.machine_laws.proofs.Calling.{any_at}
use Rattle.machine_laws.proofs.Steps.{deed_is_right}

-- ---- no end

-- What it takes for a run to have no end.
record Open (machine : Machine) : Type 0 where
  able : (some_is_able machine.state || is_due machine) ≡ true
  left : (machine.steps == machine.program.steps) ≡ false

is_open : (machine : Machine) → end_of machine ≡ None → Open machine
is_open machine h = go machine.met h
  where
    third : (c : Bool) (end : End) → (machine.steps == machine.program.steps) ≡ c → (some_is_able machine.state || is_due machine) ≡ true
        → cond c (Some end) None ≡ None → Open machine
    third true end is able h = absurd cc
    third false end is able h = record { able = able; left = is }

    second : (b : Bool) (dead end : End) → (some_is_able machine.state || is_due machine) ≡ b
        → cond (not b) (Some dead) (cond (machine.steps == machine.program.steps) (Some end) None) ≡ None → Open machine
    second false dead end is h = absurd cc
    second true dead end is h = third (machine.steps == machine.program.steps) end refl is h

    first : (a : Bool) (thrown dead end : End)
        → cond a (Some thrown) (cond (not (some_is_able machine.state || is_due machine)) (Some dead) (cond (machine.steps == machine.program.steps) (Some end) None)) ≡ None
        → Open machine
    first true thrown dead end h = absurd cc
    first false thrown dead end h = second (some_is_able machine.state || is_due machine) dead end refl h

    go : (met : Option End) → met_or machine met ≡ None → Open machine
    go (Some end) h = absurd cc
    go None h = first (list_all has_ended machine.state.threads) _ _ _ h

-- ---- a step is made

-- what asks for room is made, or meets an end
doing_made : (machine : Machine) (t words : ℕ) (mark : Bool) (state : State)
    → (after : Machine) × (step_by_doing machine t (does words mark state) ≡ made after)
doing_made machine t words mark state = go (lacks_room machine.state machine.program.half words) (heap_full words (reach_words machine.state) machine.program.half)
  where
    go : (b : Bool) (end : End) → (after : Machine) × ((if b then meets machine end else counted machine t mark state) ≡ made after)
    go true end = (_, refl)
    go false end = (_, refl)

deed_made : (machine : Machine) (t : ℕ) (deed : Deed) → is_blocked deed ≡ false → IsRight machine.state.world deed
    → (after : Machine) × (step_by machine t deed ≡ made after)
unfolding step_by
deed_made machine t (throws name native) able right = doing_made machine t _ _ _
deed_made machine t blocked able right = absurd cc
deed_made machine t is_deep able right = (_, refl)
deed_made machine t is_crowded able right = (_, refl)
deed_made machine t is_full able right = (_, refl)
deed_made machine t (does words mark state) able right = doing_made machine t words mark state
deed_made machine t wrong able right = absurd right

-- some element fails a test that not all pass
some_fails : {A : Type 0} (test : A → Bool) (xs : List A) → list_all test xs ≡ false → (x : A) × (test x ≡ false)
some_fails test [] h = absurd cc
some_fails test (x ∷ xs) h = go (test x) refl h (λ k. some_fails test xs k)
  where
    go : (b : Bool) → test x ≡ b → (b && list_all test xs) ≡ false → (list_all test xs ≡ false → (y : _) × (test y ≡ false))
        → (y : _) × (test y ≡ false)
    go false is h rest = (x, is)
    go true is h rest = rest h

not_false : (b : Bool) → not b ≡ true → b ≡ false
not_false false h = refl
not_false true h = absurd cc

module _ (machine : Machine) (runnable : IsRunnable machine.state.world)
    (c : Conforms machine.state) (within : machine.steps ≤ machine.program.steps) (none : end_of machine ≡ None) where
  -- a step of a thread that is able and may begin is legal
  able_steps : (t : ℕ) → is_able machine.state t ≡ true → (is_due machine && is_at_safe_point machine.state t) ≡ false
      → (end : Machine) × (made_by (run t 1) machine ≡ Some end)
  unfolding further_steps
  able_steps t able free =
      let p = and_parts (lives machine.state t) (not (is_blocked (deed_of machine.state t))) able in
      let d = deed_made machine t (deed_of machine.state t) (not_false (is_blocked (deed_of machine.state t)) p.1) (deed_is_right machine.state runnable c t p.0) in
      let open_run = is_open machine none in (
        d.0,
        run_from t zero machine d.0 (record {
          short = omega arith;
          left = some_left open_run.left;
          begins = both (is_none (end_of machine)) (not (is_due machine && is_at_safe_point machine.state t)) (ap is_none none) (ap not free);
          steps = ap (further_steps (is_due machine) t zero machine) d.1;
        }),
      )
    where
      some_left : (machine.steps == machine.program.steps) ≡ false → suc zero ≤ machine.program.steps - machine.steps
      some_left differ = elim (cases_lt machine.steps machine.program.steps) [
        | inl less ↦ omega arith
        | inr more ↦ absurd (let same : machine.steps ≡ machine.program.steps = omega (arith, within, more) in let yes = eq-eqb machine.steps machine.program.steps same in cc)
      ]

  -- Some thread can make a step, or an attempt to update may be made.
  pub goes_on : ((t : ℕ) × (end : Machine) × (made_by (run t 1) machine ≡ Some end)) ⊎ (may_attempt machine ≡ true)
  goes_on = by_due (is_due machine) refl
    where
      step : (t : ℕ) → is_able machine.state t ≡ true → (is_due machine && is_at_safe_point machine.state t) ≡ false
          → ((t : ℕ) × (end : Machine) × (made_by (run t 1) machine ≡ Some end)) ⊎ (may_attempt machine ≡ true)
      step t able free = let s = able_steps t able free in inl (t, s.0, s.1)

      by_points : (b : Bool) → is_due machine ≡ true → all_at_safe_points machine.state ≡ b
          → ((t : ℕ) × (end : Machine) × (made_by (run t 1) machine ≡ Some end)) ⊎ (may_attempt machine ≡ true)
      by_points true due all = inr (both (is_none (end_of machine) && is_due machine) (all_at_safe_points machine.state) (both (is_none (end_of machine)) (is_due machine) (ap is_none none) due) all)
      by_points false due all =
          let t = some_fails (is_at_safe_point machine.state) (thread_numbers machine.state) all in
          step t.0 (unmarked (is_marked machine.state t.0) (is_able machine.state t.0) t.1) (ap (λ (b : Bool). b && is_at_safe_point machine.state t.0) due ∙ t.1)
        where
          unmarked : (a b : Bool) → (a || not b) ≡ false → b ≡ true
          unmarked false true h = refl
          unmarked false false h = absurd cc
          unmarked true b h = absurd cc

      by_due : (b : Bool) → is_due machine ≡ b → ((t : ℕ) × (end : Machine) × (made_by (run t 1) machine ≡ Some end)) ⊎ (may_attempt machine ≡ true)
      by_due true due = by_points (all_at_safe_points machine.state) due refl
      by_due false due =
          let able : some_is_able machine.state ≡ true = either (some_is_able machine.state) (is_open machine none).able in
          let t = any_at (is_able machine.state) (thread_numbers machine.state) able in
          step t.1 t.3 (ap (λ (b : Bool). b && is_at_safe_point machine.state t.1) due)
        where
          either : (a : Bool) → (a || is_due machine) ≡ true → a ≡ true
          either true h = refl
          either false h = absurd (let no_due = due in cc)
