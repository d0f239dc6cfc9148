use Rattle.std.proofs.Common.{refl, Some}
use Rattle.std.proofs.lemmas.Result.{err_from_is_err_and}
use Rattle.jv_model.specs.Refusal.{truncated}
use Rattle.class_reader.proofs.Loops.Counted.{goes_on, is_refused, is_done}
use Rattle.code_reader.specs.Gives.{site_of}
use Rattle.code_reader.proofs.Counts.{targets_kind, targets, behind_both}
use Rattle.code_reader.proofs.switch.read_targets.Goals as goal

pub returns-in_err-target-clause-targets : goal.returns-in_err-target-clause-targets
returns-in_err-target-clause-targets c =
    let site = site_of c.args.site in
    let error = err_from_is_err_and c.from_residual.result c.from_residual.ensures.1 in
    rw (error.1, error.2) (is_refused (targets_kind site) (targets site) _ tt _ _ _ _
    c.loop.invariant.so_far (Some (truncated c.in_err-target.field-0.0.at)) c.loop-test.true
    c.in_err-target.ensures.target)

pub loop-preserved : goal.loop-preserved
loop-preserved c =
    let site = site_of c.args.site in
    record {
      so_far = rw c.in_ok-push.ensures.ok (goes_on (targets_kind site) (targets site) _ tt _ _ _ _
          c.loop.invariant.so_far _ _ c.loop-test.true c.in_ok-target.ensures.target);
      on = behind_both _ _ _ c.loop.invariant.on c.in_ok-target.ensures.on;
    }

pub returns-clause-targets : goal.returns-clause-targets
returns-clause-targets c =
    let site = site_of c.args.site in
    is_done (targets_kind site) (targets site) _ tt _ _ _ _ c.loop.invariant.so_far
    c.loop-test.false refl
