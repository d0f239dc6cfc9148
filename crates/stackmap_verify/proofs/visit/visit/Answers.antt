use Rattle.std.proofs.Common.{ap}
use Rattle.std.proofs.lemmas.Result.{err_from_is_err_and}
use Rattle.jv_model.specs.Code.{Placed}
use Rattle.jv_model.specs.Operand.{Operand}
use Rattle.stackmap_verify.proofs.visit.visit.Goals as goal

pub returns-in_err-frame-clause-leaves : goal.returns-in_err-frame-clause-leaves
returns-in_err-frame-clause-leaves g c = λ e is v placed flows last.
    let error = err_from_is_err_and c.from_residual.result c.from_residual.ensures.1 in
    rw (error.1, error.2) (c.in_err-frame.ensures.enters e is v (ap (λ (p : Placed Operand). p.pc) placed) flows)
