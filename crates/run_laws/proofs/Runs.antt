-- Laws of Runs.
use Rattle.std.proofs.Common.{◌≡◌, ℕ, zero, suc, ◌-◌, ◌≤◌, Bool, true, false, ◌&&◌, Some, refl, ◌∙◌, arith}
use Rattle.std.specs.Prelude.{IsTrue, nat_le}
use Rattle.std.proofs.lemmas.Bool.{le-leb, leb-true}
use Rattle.jv_model.specs.Limits.{most_entry_steps}
use Rattle.jv_model.specs.Journal.{run}
use Rattle.machine_model.specs.Machine.{Machine}
use Rattle.machine_model.specs.Queue.{is_due}
use Rattle.machine_model.specs.Step.{step_of}
use Rattle.machine_model.specs.Legal.{further_steps, may_begin, steps_made}
use Rattle.journal_model.specs.Journal.{made}
use Rattle.run_laws.specs.Kept.{Counts}
use Rattle.run_laws.proofs.Fronts.{behind_test, through, further_front}
use Rattle.run_laws.proofs.Steps.{further_counts}

-- ---- what a legal Run is

pub record IsRun (t count : ℕ) (machine end : Machine) : Type 0 where
  pub short : suc count ≤ most_entry_steps
  pub left : suc count ≤ machine.program.steps - machine.steps
  pub begins : IsTrue (may_begin machine t)
  pub steps : further_steps (is_due machine) t count machine (step_of machine t) ≡ Some end

both3 : (a b c : Bool) → IsTrue (a && b && c) → IsTrue a × IsTrue b × IsTrue c
both3 true true c e = (refl, refl, e)
both3 true false c e = absurd cc
both3 false b c e = absurd cc

from3 : (a b c : Bool) → IsTrue a → IsTrue b → IsTrue c → IsTrue (a && b && c)
from3 a b c p q r = rw (p, q, r) refl

pub run_is : (t count : ℕ) (machine end : Machine) → made (run t (suc count)) machine ≡ Some end
    → IsRun t count machine end
unfolding made steps_made
run_is t count machine end e =
    let short = nat_le (suc count) most_entry_steps in
    let left = nat_le (suc count) (machine.program.steps - machine.steps) in
    let begins = may_begin machine t in
    let parts = behind_test (short && left && begins) (further_steps (is_due machine) t count machine (step_of machine t)) end e in
    let tests = both3 short left begins parts.0 in
    record { short = leb-true _ _ tests.0; left = leb-true _ _ tests.1; begins = tests.2; steps = parts.1 }

pub run_from : (t count : ℕ) (machine end : Machine) → IsRun t count machine end
    → made (run t (suc count)) machine ≡ Some end
unfolding made steps_made
run_from t count machine end is =
    through _ _ (from3 _ _ _ (le-leb _ _ is.short) (le-leb _ _ is.left) is.begins) ∙ is.steps

-- no Run of no steps is legal
pub no_run : (t : ℕ) (machine end : Machine) → made (run t zero) machine ≡ Some end → ⊥
unfolding made steps_made
no_run t machine end e = absurd cc

-- ---- fronts

-- A front of a legal Run is legal.
pub run_front : (t few more : ℕ) (machine end : Machine) → made (run t more) machine ≡ Some end → 1 ≤ few
    → few ≤ more
    → (middle : Machine) × (made (run t few) machine ≡ Some middle)
run_front t zero more machine end e some within = absurd (omega arith)
run_front t (suc few) zero machine end e some within = absurd (omega arith)
run_front t (suc few) (suc more) machine end e some within =
    let is = run_is t more machine end e in
    let front = further_front (is_due machine) t few more machine (step_of machine t) end is.steps (omega arith) in
    (front.0, run_from t few machine front.0 (record { short = omega (arith, is.short); left = omega (arith, is.left); begins = is.begins; steps = front.1 }))

-- ---- how Runs count

-- A legal Run of so many steps counts as many.
pub run_counts : (t count : ℕ) (machine end : Machine) → made (run t count) machine ≡ Some end
    → Counts count machine end
run_counts t zero machine end e = absurd (no_run t machine end e)
run_counts t (suc count) machine end e =
    further_counts (is_due machine) t count machine (step_of machine t) end refl (run_is t count machine end e).steps
