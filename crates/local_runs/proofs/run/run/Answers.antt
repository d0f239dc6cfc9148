use Rattle.std.proofs.Common.{◌≡◌, ◌+◌, suc, Some, sym, ap, ◌∙◌, subst, arith}
use Rattle.local_runs.specs.Places.{step_of, frame_at, IsIn}
use Rattle.local_runs.specs.Runs.{frame_after, first_reached, reaches, first_with}
use Rattle.local_runs.specs.declared.run.Ran.{Ran}
use Rattle.local_runs.proofs.RunLemmas.{can_go_on, after_more, reaches_more, first_more}
use Rattle.local_runs.proofs.run.run.Goals as goal

pub step_at-requires-clause-right : goal.step_at-requires-clause-right
step_at-requires-clause-right c =
    can_go_on (step_of c.args.pool.now c.args.body.now) (frame_at c.args.body.now c.args.place c.args.locals.now c.args.stack.now) _ c.loop-made._made c.requires.right c.loop-made.invariant.reached

pub loop-made-preserved : goal.loop-made-preserved
loop-made-preserved c =
    let body = c.args.body.now in
    let step = step_of c.args.pool.now body in
    let start = frame_at body c.args.place c.args.locals.now c.args.stack.now in
    let before = frame_at body c.loop-made.ran.place c.loop-made.locals c.loop-made.stack in
    let after = frame_at body c.in-Some.stepped.place c.step_at.new.locals c.step_at.new.stack in
    let n = c.loop-made._made in
    let one : suc n ≡ n + 1 = omega arith in
    let is = c.and-ran.ensures in
    let more = subst (λ k. frame_after step start k ≡ Some after) one (after_more step start before after n c.loop-made.invariant.reached c.in-Some.ensures.reached) in
    let marked = sym (reaches_more step start before after n c.loop-made.invariant.reached c.in-Some.ensures.reached) in
    let mark = c.in-Some.ensures.placed.1 ∙ marked in
    record {
      at = subst (λ (r : Ran). IsIn body r.place) (sym is) c.in-Some.ensures.placed.0;
      made = ap (λ (r : Ran). r.steps) is ∙ ap (λ k. k + 1) c.loop-made.invariant.made;
      reached = more ∙ ap (λ (r : Ran). Some (frame_at body r.place c.step_at.new.locals c.step_at.new.stack)) (sym is);
      first =
          ap (λ (r : Ran). r.first) is
          ∙ ap (λ k. first_with c.loop-made.ran.first c.in-Some.stepped.mark k) (ap (λ k. k + 1) c.loop-made.invariant.made ∙ sym one)
          ∙ ap (λ first. first_with first c.in-Some.stepped.mark (suc n)) c.loop-made.invariant.first
          ∙ sym (first_more step start n c.in-Some.stepped.mark (sym mark))
          ∙ ap (first_reached step start) one;
      mark = ap (λ (r : Ran). r.mark) is ∙ mark ∙ ap (reaches step start) one;
    }
