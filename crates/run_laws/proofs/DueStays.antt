-- What is due stays due while steps are made.
use Rattle.std.proofs.Common.{◌≡◌, ℕ, ◌+◌, ◌≤◌, Bool, true, false, eqb, ◌||◌, Option, Some, None, refl, ap, ◌∙◌, arith}
use Rattle.std.specs.Prelude.{IsTrue, nat_le, ◌==◌}
use Rattle.std.proofs.lemmas.Bool.{and_parts, and_from, le-leb, leb-true}
use Rattle.jv_model.specs.Limits.{most_steps_between}
use Rattle.jv_model.specs.Updates.{When, at_step, on_call}
use Rattle.jv_model.specs.Journal.{run}
use Rattle.machine_model.specs.Machine.{Machine, Update}
use Rattle.machine_model.specs.Queue.{current, calls_before, is_ready_when, is_ready, is_due}
use Rattle.journal_model.specs.Journal.{made}
use Rattle.run_laws.specs.Kept.{Counts}
use Rattle.run_laws.proofs.Runs.{run_counts}
use Rattle.run_laws.proofs.StepKeeps.{run_keeps}

ready_when_stays : (count : ℕ) (before after : Machine) (ready_when : When) → Counts count before after
    → before.state.requests ≤ after.state.requests → IsTrue (is_ready_when before ready_when)
    → IsTrue (is_ready_when after ready_when)
ready_when_stays count before after (at_step steps) counts more h =
    le-leb _ _ (omega (arith, counts.steps, leb-true steps before.steps h))
ready_when_stays count before after on_call counts more h =
    let calls : calls_before after ≡ calls_before before = cc (counts.program, counts.results) in
    le-leb _ _ (omega (arith, calls, leb-true (calls_before before) before.state.requests h))

ready_stays : (count : ℕ) (before after : Machine) (update : Option Update)
    → Counts count before after → before.state.requests ≤ after.state.requests → IsTrue (is_ready before update)
    → IsTrue (is_ready after update)
ready_stays count before after None counts more h = absurd cc
ready_stays count before after (Some update) counts more h =
    ready_when_stays count before after update.ready_when counts more h

waited_stays : (count : ℕ) (before after : Machine) → Counts count before after
    → IsTrue ((before.updating.attempts == 0) || before.updating.popped || nat_le (before.updating.last_attempt + most_steps_between) before.steps)
    → IsTrue ((after.updating.attempts == 0) || after.updating.popped || nat_le (after.updating.last_attempt + most_steps_between) after.steps)
waited_stays count before after counts h =
    by_cases (before.updating.attempts == 0) before.updating.popped (nat_le (before.updating.last_attempt + most_steps_between) before.steps)
    (after.updating.attempts == 0) after.updating.popped (nat_le (after.updating.last_attempt + most_steps_between) after.steps)
    (λ h. ap (λ (n : ℕ). eqb n 0) counts.attempts ∙ h) counts.popped (λ h. le-leb _ _ (omega (arith, counts.steps, counts.last_attempt, leb-true (before.updating.last_attempt + most_steps_between) before.steps h))) h
  where
    by_cases : (a b c d e f : Bool) → (a ≡ true → d ≡ true) → (b ≡ true → e ≡ true) → (c ≡ true → f ≡ true) → IsTrue (a || b || c) → IsTrue (d || e || f)
    by_cases a b c true e f p q r h = refl
    by_cases a b c false true f p q r h = refl
    by_cases a b c false false true p q r h = refl
    by_cases true b c false false false p q r h = absurd (cc (p refl))
    by_cases false true c false false false p q r h = absurd (cc (q refl))
    by_cases false false true false false false p q r h = absurd (cc (r refl))
    by_cases false false false false false false p q r h = absurd cc

-- What is due stays due where steps lead, as long as no attempt is made.
pub due_stays : (count : ℕ) (before after : Machine) → Counts count before after
    → before.state.requests ≤ after.state.requests → is_due before ≡ true → is_due after ≡ true
due_stays count before after counts more h =
    let same : current after ≡ current before = cc (counts.program, counts.results) in
    let parts = and_parts (is_ready before (current before)) _ h in
    and_from _ _ (ap (is_ready after) same ∙ ready_stays count before after (current before) counts more parts.0) (waited_stays count before after counts parts.1)

pub run_due_stays : (t count : ℕ) (machine end : Machine) → made (run t count) machine ≡ Some end
    → is_due machine ≡ true → is_due end ≡ true
run_due_stays t count machine end e =
    due_stays count machine end (run_counts t count machine end e) (run_keeps t count machine end e).no_fewer_requests
