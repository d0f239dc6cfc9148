use Rattle.std.proofs.Common.{sym, arith}
use Rattle.std.proofs.lemmas.Result.{err_from_is_err_and}
use Rattle.typing_model.specs.FailingPlace.{world_failure}
use Rattle.verifier_laws.proofs.Failures.{class_failure, failure_by_class}
use Rattle.verifier_laws.proofs.Firsts.{first_here, first_later, first_end}
use Rattle.stackmap_verify.proofs.Members.{told_further}
use Rattle.stackmap_verify.proofs.world.verify_classes.Goals as goal

pub loop-class-init : goal.loop-class-init
loop-class-init g c = sym (failure_by_class c.args.world.now)

pub returns-in_err-verify_class : goal.returns-in_err-verify_class
returns-in_err-verify_class g c =
    let w = c.args.world.now in
    let told = c.in_err-verify_class.ensures in
    let error = err_from_is_err_and c.from_residual.result c.from_residual.ensures.1 in
    rw (error.1, error.2)
    (told_further (class_failure w told.0) (world_failure w) c.in_err-verify_class.field-0.0
    (λ cause it. first_here (class_failure w) w.classes c.loop-class.class (world_failure w) c.loop-class.invariant told.0 cause told.1 it)
    told.2)

pub loop-class-preserved : goal.loop-class-preserved
loop-class-preserved g c =
    let w = c.args.world.now in
    let told = c.in_ok-verify_class.ensures in
    first_later (class_failure w) w.classes c.loop-class.class (world_failure w) c.loop-class.invariant told.0 told.1 told.2

pub returns : goal.returns
returns g c =
    let w = c.args.world.now in
    first_end (class_failure w) w.classes c.loop-class.class (world_failure w) c.loop-class.invariant (omega arith)
