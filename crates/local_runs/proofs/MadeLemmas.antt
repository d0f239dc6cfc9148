-- A copy of which more steps were made.
use Rattle.std.proofs.Common.{◌≡◌, ℕ, ◌+◌, ◌≤◌, List, refl, sym, ap, ◌∙◌, arith}
use Rattle.std.specs.Prelude.{Bool, Option, Some, None}
use Rattle.jv_model.specs.Operand.{Operand}
use Rattle.jv_model.specs.Code.{Body}
use Rattle.local_runs.specs.declared.run.Ran.{Ran}
use Rattle.local_runs.specs.Lent.{Copy, FrameWords, frame_of, step_shown, IsMade, FitsAfter, first_in, mark_in}
use Rattle.local_runs.specs.Runs.{first_reached, reaches, IsRun}
use Rattle.local_runs.proofs.RunLemmas.{after_plus, first_plus, mark_plus}

pub made_more : (table : List (Body Operand)) (before : Copy) (current : FrameWords) (first : Option ℕ) (mark : Bool) (max : ℕ) (ran : Ran) → IsMade table before → IsRun (step_shown table before.code) (frame_of before.current) (frame_of current) max ran → first ≡ first_in before.first before.steps ran.first → mark ≡ mark_in before.mark ran.steps ran.mark → IsMade table (record before { current = current; steps = before.steps + ran.steps; first = first; mark = mark })
made_more table before current first mark max ran made more is_first is_mark =
    let step = step_shown table before.code in
    let start = frame_of before.start in
    let between = frame_of before.current in
    record {
      reached = after_plus step start between before.steps ran.steps made.reached ∙ more.reached;
      first =
          is_first
          ∙ ap (λ o. first_in o before.steps ran.first) made.first
          ∙ ap (first_in (first_reached step start before.steps) before.steps) more.first
          ∙ sym (first_plus step start between before.steps ran.steps made.reached);
      mark =
          is_mark
          ∙ ap (λ b. mark_in b ran.steps ran.mark) made.mark
          ∙ ap (mark_in (reaches step start before.steps) ran.steps) more.mark
          ∙ sym (mark_plus step start between before.steps ran.steps made.reached);
    }

pub fits_after : (steps : ℕ) (first : Option ℕ) (n max : ℕ) → ((k : ℕ) → first ≡ Some k → k ≤ n) → n ≤ max → steps + max ≤ 4096 → FitsAfter steps first
fits_after steps None n max h l s = tt
fits_after steps (Some k) n max h l s = omega (arith, h k refl)
