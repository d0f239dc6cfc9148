-- Two Runs of one thread one after the other, and one Run of them both.
use Rattle.std.proofs.Common.{◌≡◌, ℕ, zero, suc, ◌+◌, ◌-◌, ◌≤◌, Bool, true, false, Some, sym, ap, subst, arith}
use Rattle.jv_model.specs.Limits.{most_entry_steps}
use Rattle.jv_model.specs.Journal.{run}
use Rattle.machine_model.specs.Machine.{Machine, Program}
use Rattle.machine_model.specs.Queue.{is_due}
use Rattle.machine_model.specs.Step.{step_of}
use Rattle.journal_model.specs.Journal.{made}
use Rattle.run_laws.specs.Laws.{IsCut}
use Rattle.run_laws.specs.Seam.{ends_behind}
use Rattle.run_laws.proofs.Fronts.{further_parts, further_joined}
use Rattle.run_laws.proofs.Runs.{run_is, run_from, no_run, run_counts}
use Rattle.run_laws.proofs.DueStays.{run_due_stays}
use Rattle.run_laws.proofs.Seams.{seam_unended, less_due, may_begin_at}

-- Two Runs are one of the sum, where nothing ends the entry at the seam, and an attempt that is due at the begin is due
-- at the seam.
pub runs_joined : (t few more : ℕ) (machine middle end : Machine)
    → (is_due machine ≡ true → is_due middle ≡ true)
    → made (run t few) machine ≡ Some middle → ends_behind t few machine ≡ false → made (run t more) middle ≡ Some end → few + more ≤ most_entry_steps → made (run t (few + more)) machine ≡ Some end
runs_joined t zero more machine middle end due first seam second short = absurd (no_run t machine middle first)
runs_joined t (suc few) zero machine middle end due first seam second short = absurd (no_run t middle end second)
runs_joined t (suc few) (suc more) machine middle end due first seam second short =
    let one = run_is t few machine middle first in
    let other = run_is t more middle end second in
    let counts = run_counts t (suc few) machine middle first in
    let limit : middle.program.steps ≡ machine.program.steps = ap (λ (p : Program). p.steps) counts.program in
    let rest = less_due (is_due middle) (is_due machine) t more middle (step_of middle t) end due other.steps in
    let sum : suc few + suc more ≡ suc (few + suc more) = omega arith in
    subst (λ (n : ℕ). made (run t n) machine ≡ Some end) (sym sum) (run_from t (few + suc more) machine end (record {
      short = omega (arith, short);
      left = omega (arith, one.left, other.left, limit, counts.steps);
      begins = one.begins;
      steps = further_joined (is_due machine) t few more machine (step_of machine t) middle end one.steps seam rest;
    }))

-- the parts of a Run: its front leads to a place where nothing ends the entry, from which on the rest can be a Run
pub run_cut : (t few more : ℕ) (machine end : Machine) → made (run t (few + more)) machine ≡ Some end
    → 1 ≤ few → 1 ≤ more → (middle : Machine) × IsCut t few more machine middle end
run_cut t zero more machine end whole some others = absurd (omega arith)
run_cut t (suc few) zero machine end whole some others = absurd (omega arith)
run_cut t (suc few) (suc more) machine end whole some others =
    let sum : suc few + suc more ≡ suc (few + suc more) = omega arith in
    let is = run_is t (few + suc more) machine end (subst (λ (n : ℕ). made (run t n) machine ≡ Some end) sum whole) in
    let parts = further_parts (is_due machine) t few more machine (step_of machine t) end is.steps in
    let first = run_from t few machine parts.0 (record { short = omega (arith, is.short); left = omega (arith, is.left); begins = is.begins; steps = parts.1 }) in
    let counts = run_counts t (suc few) machine parts.0 first in
    let limit : parts.0.program.steps ≡ machine.program.steps = ap (λ (p : Program). p.steps) counts.program in
    let left : suc more ≤ parts.0.program.steps - parts.0.steps = omega (arith, is.left, limit, counts.steps) in
    let known = seam_unended (is_due machine) t few machine (step_of machine t) parts.0 parts.1 parts.2 in (
      parts.0,
      record {
        first = first;
        seam = parts.2;
        second = λ less.
            let rest = less_due (is_due machine) (is_due parts.0) t more parts.0 (step_of parts.0 t) end less parts.3 in
            run_from t more parts.0 end (record {
              short = omega (arith, is.short);
              left = left;
              begins = may_begin_at (is_due machine) t more parts.0 end known (omega (arith, left)) less rest;
              steps = rest;
            });
      },
    )

-- ---- whatever is due

differ : (b : Bool) → b ≡ false → b ≡ true → ⊥
differ b p q = absurd cc

-- Two Runs are one of the sum where nothing ends the entry at the seam.
pub runs_are_one : (t few more : ℕ) (machine middle end : Machine)
    → made (run t few) machine ≡ Some middle → ends_behind t few machine ≡ false → made (run t more) middle ≡ Some end → few + more ≤ most_entry_steps → made (run t (few + more)) machine ≡ Some end
runs_are_one t few more machine middle end first =
    runs_joined t few more machine middle end (run_due_stays t few machine middle first) first

-- where nothing is due at the seam
pub undue_cut : (t few more : ℕ) (machine end : Machine) → made (run t (few + more)) machine ≡ Some end
    → 1 ≤ few → 1 ≤ more
    → (middle : Machine) × (made (run t few) machine ≡ Some middle) × (ends_behind t few machine ≡ false) × (is_due middle ≡ false → made (run t more) middle ≡ Some end)
undue_cut t few more machine end whole some others =
    let cut = run_cut t few more machine end whole some others in
    (cut.0, cut.1.first, cut.1.seam, λ none. cut.1.second (λ is. absurd (differ _ none is)))
