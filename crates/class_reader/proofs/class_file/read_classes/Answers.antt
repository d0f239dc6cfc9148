use Rattle.std.proofs.lemmas.Result.{err_from_is_err_and}
use Rattle.class_reader.proofs.Loops.Counted.{goes_on, is_refused, is_done}
use Rattle.class_reader.proofs.Loops.Lists.{classes_kind, classes}
use Rattle.std.proofs.Common.{refl}
use Rattle.class_reader.proofs.class_file.read_classes.Goals as goal

pub returns-in_err-class : goal.returns-in_err-class
returns-in_err-class c =
    let pool = c.args.pool.now in
    let error = err_from_is_err_and c.from_residual.result c.from_residual.ensures.1 in
    rw (error.1, error.2) (is_refused (classes_kind pool)
    (classes pool) _ tt _ _ _ _ c.loop.invariant _ c.loop-test.true c.in_err-class.ensures)

pub loop-preserved : goal.loop-preserved
loop-preserved c =
    let pool = c.args.pool.now in
    rw c.in_ok-push.ensures.ok (goes_on (classes_kind pool)
    (classes pool) _ tt _ _ _ _ c.loop.invariant _ _ c.loop-test.true c.in_ok-class.ensures)

pub returns : goal.returns
returns c = let pool = c.args.pool.now in
    is_done (classes_kind pool) (classes pool) _ tt _ _ _ _ c.loop.invariant c.loop-test.false refl
