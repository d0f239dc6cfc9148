use Rattle.std.proofs.Common.{refl}
use Rattle.std.proofs.lemmas.Result.{err_from_is_err_and}
use Rattle.std.proofs.lemmas.List.{map_push}
use Rattle.jv_types.specs.Code.{handler_of}
use Rattle.class_reader.proofs.Loops.Counted.{goes_on, is_refused, is_done}
use Rattle.code_reader.proofs.Counts.{handlers_kind, handlers}
use Rattle.code_reader.proofs.parts.read_handlers.Goals as goal

pub returns-in_err-row : goal.returns-in_err-row
returns-in_err-row c =
    let error = err_from_is_err_and c.from_residual.result c.from_residual.ensures.1 in
    rw (error.1, error.2) (is_refused handlers_kind handlers _ tt _ _ _ _
    c.loop.invariant _ c.loop-test.true c.in_err-row.ensures)

pub loop-preserved : goal.loop-preserved
loop-preserved c =
    rw (c.in_ok-push.ensures.ok, map_push handler_of c.loop.rows.items c.in_ok-row.row)
    (goes_on handlers_kind handlers _ tt _ _ _ _ c.loop.invariant _ _ c.loop-test.true
    c.in_ok-row.ensures)

pub returns : goal.returns
returns c =
    is_done handlers_kind handlers _ tt _ _ _ _ c.loop.invariant c.loop-test.false refl
