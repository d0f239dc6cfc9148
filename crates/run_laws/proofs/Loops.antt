-- A Run made step by step, as a loop makes it, and when it can be made no longer.
use Rattle.std.proofs.Common.{◌≡◌, ℕ, zero, suc, ◌+◌, ◌-◌, ◌<◌, ◌≤◌, Bool, false, List, ◌∷◌, Option, Some, None, is_some, refl, sym, ap, subst, ◌∙◌, arith, inl, inr}
use Rattle.std.specs.Prelude.{IsTrue, ◌⊎◌}
use Rattle.std.proofs.lemmas.Bool.{cases_lt}
use Rattle.jv_model.specs.Limits.{most_entry_steps, most_slice_steps}
use Rattle.jv_model.specs.Journal.{Entry, run}
use Rattle.machine_model.specs.Machine.{Machine, Program}
use Rattle.machine_model.specs.Queue.{is_due}
use Rattle.machine_model.specs.Step.{Stepped, made as stepped_to, cannot, wrong_step, step_of}
use Rattle.machine_model.specs.Legal.{ends_entry, further_steps, may_begin}
use Rattle.journal_model.specs.Journal.{made, replayed}
use Rattle.journal_model.specs.RoundRobin.{IsSlice}
use Rattle.run_laws.specs.Seam.{last_ends, ends_behind}
use Rattle.run_laws.proofs.Fronts.{behind_not, bind_some, bind_again, further_parts, further_joined}
use Rattle.run_laws.proofs.Runs.{run_is, run_from, no_run, run_counts}
use Rattle.run_laws.proofs.Joins.{runs_are_one}

-- ---- one step more

one_step : (due : Bool) (t : ℕ) (before next : Machine) (stepped : Stepped) → stepped ≡ stepped_to next
    → (further_steps due t zero before stepped ≡ Some next)
    × (last_ends due t zero before stepped ≡ ends_entry due t before next)
unfolding further_steps last_ends
one_step due t before next stepped is = (ap (further_steps due t zero before) is, ap (last_ends due t zero before) is)

last_more : (due : Bool) (t few : ℕ) (before : Machine) (stepped : Stepped) (middle next : Machine)
    → further_steps due t few before stepped ≡ Some middle → step_of middle t ≡ stepped_to next
    → last_ends due t (suc few) before stepped ≡ ends_entry due t middle next
unfolding further_steps last_ends
last_more due t zero before (stepped_to after) middle next e is =
    let same : after ≡ middle = cc in
    subst (λ (m : Machine). last_ends due t zero m (step_of m t) ≡ ends_entry due t middle next) (sym same) (one_step due t middle next (step_of middle t) is).1
last_more due t (suc few) before (stepped_to after) middle next e is =
    last_more due t few after (step_of after t) middle next (behind_not _ _ middle e).1 is
last_more due t zero before cannot middle next e is = absurd cc
last_more due t zero before wrong_step middle next e is = absurd cc
last_more due t (suc few) before cannot middle next e is = absurd cc
last_more due t (suc few) before wrong_step middle next e is = absurd cc

-- a Run of so many steps, and whether its last one ends the entry
pub record Ran (t count : ℕ) (machine end : Machine) (ends : Bool) : Type 0 where
  pub legal : made (run t count) machine ≡ Some end
  pub ends_here : ends_behind t count machine ≡ ends

-- the first step of a Run
pub run_one : (t : ℕ) (machine next : Machine) → IsTrue (may_begin machine t)
    → 1 ≤ machine.program.steps - machine.steps → step_of machine t ≡ stepped_to next
    → Ran t 1 machine next (ends_entry (is_due machine) t machine next)
run_one t machine next begins left is =
    let one = one_step (is_due machine) t machine next (step_of machine t) is in
    record {
      legal = run_from t zero machine next (record { short = omega arith; left = left; begins = begins; steps = one.0 });
      ends_here = one.1;
    }

-- the next step of a Run, where the last one didn't end it
pub run_more : (t count : ℕ) (machine middle next : Machine) → Ran t count machine middle false
    → suc count ≤ most_entry_steps → 1 ≤ middle.program.steps - middle.steps → step_of middle t ≡ stepped_to next
    → Ran t (suc count) machine next (ends_entry (is_due machine) t middle next)
run_more t zero machine middle next ran short left is = absurd (no_run t machine middle ran.legal)
run_more t (suc count) machine middle next ran short left is =
    let run = run_is t count machine middle ran.legal in
    let counts = run_counts t (suc count) machine middle ran.legal in
    let limit : middle.program.steps ≡ machine.program.steps = ap (λ (p : Program). p.steps) counts.program in
    let sum : count + 1 ≡ suc count = omega arith in
    let joined = further_joined (is_due machine) t count zero machine (step_of machine t) middle next run.steps ran.ends_here (one_step (is_due machine) t middle next (step_of middle t) is).0 in
    record {
      legal = run_from t (suc count) machine next (record {
        short = short;
        left = omega (arith, run.left, left, limit, counts.steps);
        begins = run.begins;
        steps = subst (λ (n : ℕ). further_steps (is_due machine) t n machine (step_of machine t) ≡ Some next) sum joined;
      });
      ends_here = last_more (is_due machine) t count machine (step_of machine t) middle next run.steps is;
    }

-- ---- the end of a Run

is_stepped : (due : Bool) (t more : ℕ) (before : Machine) (stepped : Stepped) (end : Machine)
    → further_steps due t more before stepped ≡ Some end → (next : Machine) × (stepped ≡ stepped_to next)
unfolding further_steps
is_stepped due t more before (stepped_to next) end e = (next, refl)
is_stepped due t zero before cannot end e = absurd cc
is_stepped due t zero before wrong_step end e = absurd cc
is_stepped due t (suc more) before cannot end e = absurd cc
is_stepped due t (suc more) before wrong_step end e = absurd cc

-- what is known at a place of a longer Run
pub record GoesOn (t count : ℕ) (machine middle : Machine) : Type 0 where
  pub open_end : ends_behind t count machine ≡ false
  pub left : 1 ≤ middle.program.steps - middle.steps
  pub short : suc count ≤ most_entry_steps
  pub next : Machine
  pub stepped : step_of middle t ≡ stepped_to next

-- Where a longer Run is legal, the shorter one can go on.
pub run_goes_on : (t few more : ℕ) (machine middle end : Machine)
    → made (run t few) machine ≡ Some middle → made (run t more) machine ≡ Some end → few < more
    → GoesOn t few machine middle
run_goes_on t zero more machine middle end first whole less = absurd (no_run t machine middle first)
run_goes_on t (suc few) zero machine middle end first whole less = absurd (omega arith)
run_goes_on t (suc few) (suc more) machine middle end first whole less =
    let one = run_is t few machine middle first in
    let all = run_is t more machine end whole in
    let counts = run_counts t (suc few) machine middle first in
    let limit : middle.program.steps ≡ machine.program.steps = ap (λ (p : Program). p.steps) counts.program in
    let sum : more ≡ few + suc (more - suc few) = omega arith in
    let parts = further_parts (is_due machine) t few (more - suc few) machine (step_of machine t) end (subst (λ (n : ℕ). further_steps (is_due machine) t n machine (step_of machine t) ≡ Some end) sum all.steps) in
    let same : parts.0 ≡ middle = some_same (sym parts.1 ∙ one.steps) in
    let stepped = is_stepped (is_due machine) t (more - suc few) parts.0 (step_of parts.0 t) end parts.3 in
    record {
      open_end = parts.2;
      left = omega (arith, all.left, limit, counts.steps);
      short = omega (arith, all.short);
      next = stepped.0;
      stepped = ap (λ (m : Machine). step_of m t) (sym same) ∙ stepped.1;
    }
  where
    some_same : {A : Type 0} {a b : A} → Some a ≡ Some b → a ≡ b
    some_same e = cc

-- ---- slices

legal_is : {A : Type 0} (found : Option A) → IsTrue (is_some found) → (a : A) × (found ≡ Some a)
legal_is None h = absurd cc
legal_is (Some a) h = (a, refl)

-- A Run within a slice that has the slice's length or can't go on is the slice.
pub slice_is : (t count : ℕ) (machine middle : Machine) → made (run t count) machine ≡ Some middle
    → count ≤ most_slice_steps → (count ≡ most_slice_steps) ⊎ (GoesOn t count machine middle → ⊥)
    → IsSlice machine t count
slice_is t count machine middle first within stops = record {
  legal = ap is_some first;
  within = within;
  greatest = λ more most legal. at_most more most (legal_is (made (run t more) machine) legal) stops;
}
  where
    at_most : (more : ℕ) → more ≤ most_slice_steps → (end : Machine) × (made (run t more) machine ≡ Some end) → (count ≡ most_slice_steps) ⊎ (GoesOn t count machine middle → ⊥) → more ≤ count
    at_most more most whole (inl full) = omega (arith, full)
    at_most more most whole (inr stop) = elim (cases_lt count more) [
      | inl less ↦ absurd (stop (run_goes_on t count more machine middle whole.0 first whole.1 less))
      | inr enough ↦ enough
    ]

-- the slice of a thread is one number
pub one_slice : (t one other : ℕ) (machine : Machine) → IsSlice machine t one → IsSlice machine t other
    → one ≡ other
one_slice t one other machine first second =
    omega (arith, first.greatest other second.within second.legal, second.greatest one first.within first.legal)

-- ---- in a journal

-- Two Runs of a journal may be written as one.
pub written_as_one : (t few more : ℕ) (rest : List Entry) (machine end : Machine)
    → replayed (run t few ∷ run t more ∷ rest) machine ≡ Some end → ends_behind t few machine ≡ false
    → few + more ≤ most_entry_steps
    → replayed (run t (few + more) ∷ rest) machine ≡ Some end
unfolding replayed
written_as_one t few more rest machine end e seam short =
    let first = bind_some (made (run t few) machine) _ end e in
    let second = bind_some (made (run t more) first.0) _ end first.2 in
    bind_again (made (run t (few + more)) machine) (replayed rest) second.0 end (runs_are_one t few more machine first.0 second.0 first.1 seam second.1 short) second.2
