use Rattle.std.proofs.Common.{◌≡◌, ◌<◌, Some, sym, ap, ◌∙◌, subst, arith}
use Rattle.std.specs.Prelude.{slice_get}
use Rattle.machine_model.specs.State.{Frame}
use Rattle.machine_model.specs.LocalStep.{Local, not_local}
use Rattle.local_runs.specs.Lent.{Copy, FrameWords, frame_of, step_shown}
use Rattle.local_runs.specs.Places.{step_of}
use Rattle.local_runs.specs.Runs.{NeverWrong, IsRun, frame_after}
use Rattle.local_runs.proofs.RunLemmas.{first_within}
use Rattle.local_runs.proofs.CodeLemmas.{step_is_shown}
use Rattle.local_runs.proofs.MadeLemmas.{made_more, fits_after}
use Rattle.local_runs.proofs.lent.run_local.Goals as goal

pub run-ran-requires-clause-right : goal.run-ran-requires-clause-right
run-ran-requires-clause-right g c =
    let a = c.args in
    let shown = step_is_shown (slice_get g.C.Codes.table a.lent.now.code.body) a.code.pool.now a.code.body.now c.requires.code in
    let current = ap (λ (copy : Copy). copy.current) c.lent.view_is in
    subst (λ (step : Frame → Local). NeverWrong step (frame_of c.lent.inside.current)) shown
    (subst (λ (words : FrameWords). NeverWrong (step_shown g.C.Codes.table a.lent.now.code) (frame_of words)) (sym current) c.requires.right)

pub first_joined-lent-inside-requires : goal.first_joined-lent-inside-requires
first_joined-lent-inside-requires g c =
    let a = c.args in
    let steps = ap (λ (copy : Copy). copy.steps) c.lent.view_is in
    let ran = c.run-ran.ensures.ran in
    fits_after c.lent.inside.steps c.run-ran.result.first c.run-ran.result.steps a.max
    (λ k e. first_within (step_of a.code.pool.now a.code.body.now) (frame_of c.lent.inside.current) c.run-ran.result.steps k (sym ran.first ∙ e))
    ran.few (omega (arith, c.requires.sum, steps))

pub invariant_of-lent : goal.invariant_of-lent
invariant_of-lent g c =
    let a = c.args in
    let s = c.lent.inside in
    let before : Copy = record { thread = s.thread; code = s.code; start = s.start; current = s.current; steps = s.steps; first = s.first; mark = s.mark } in
    let code = ap (λ (copy : Copy). step_shown g.C.Codes.table copy.code) c.lent.view_is in
    let shown = code ∙ step_is_shown (slice_get g.C.Codes.table a.lent.now.code.body) a.code.pool.now a.code.body.now c.requires.code in
    let ran = subst (λ (step : Frame → Local). IsRun step (frame_of s.current) (frame_of c.run-ran.new.self) a.max c.run-ran.result) (sym shown) c.run-ran.ensures.ran in
    made_more g.C.Codes.table before c.run-ran.new.self c.first_joined-lent-inside.result c.mark_joined-lent-inside.result a.max c.run-ran.result c.lent.invariant ran c.first_joined-lent-inside.ensures c.mark_joined-lent-inside.ensures

pub returns-clause-made : goal.returns-clause-made
returns-clause-made g c =
    let a = c.args in
    let s = c.lent.inside in
    let before : Copy = record { thread = s.thread; code = s.code; start = s.start; current = s.current; steps = s.steps; first = s.first; mark = s.mark } in
    let code = ap (λ (copy : Copy). step_shown g.C.Codes.table copy.code) c.lent.view_is in
    let shown = code ∙ step_is_shown (slice_get g.C.Codes.table a.lent.now.code.body) a.code.pool.now a.code.body.now c.requires.code in
    let ran = subst (λ (step : Frame → Local). IsRun step (frame_of s.current) (frame_of c.run-ran.new.self) a.max c.run-ran.result) (sym shown) c.run-ran.ensures.ran in
    made_more g.C.Codes.table before c.run-ran.new.self c.first_joined-lent-inside.result c.mark_joined-lent-inside.result a.max c.run-ran.result c.lent.invariant ran c.first_joined-lent-inside.ensures c.mark_joined-lent-inside.ensures

pub returns-clause-reached : goal.returns-clause-reached
returns-clause-reached g c =
    let a = c.args in
    let shown = step_is_shown (slice_get g.C.Codes.table a.lent.now.code.body) a.code.pool.now a.code.body.now c.requires.code in
    let current = ap (λ (copy : Copy). copy.current) c.lent.view_is in
    subst (λ (step : Frame → Local). frame_after step (frame_of a.lent.now.current) c.run-ran.result.steps ≡ Some (frame_of c.run-ran.new.self)) (sym shown)
    (subst (λ (words : FrameWords). frame_after (step_of a.code.pool.now a.code.body.now) (frame_of words) c.run-ran.result.steps ≡ Some (frame_of c.run-ran.new.self)) current c.run-ran.ensures.ran.reached)

pub returns-clause-most : goal.returns-clause-most
returns-clause-most g c =
    let a = c.args in
    let shown = step_is_shown (slice_get g.C.Codes.table a.lent.now.code.body) a.code.pool.now a.code.body.now c.requires.code in
    subst (λ (step : Frame → Local). c.run-ran.result.steps < a.max → step (frame_of c.run-ran.new.self) ≡ not_local) (sym shown) c.run-ran.ensures.ran.most
