use Rattle.std.proofs.lemmas.Result.{err_from_is_err_and}
use Rattle.jv_types.specs.ClassData.{class_data_of}
use Rattle.class_laws.proofs.ClassFile.{one_spelling}
use Rattle.class_round_trip.proofs.Errors.{too_long_or_memory}
use Rattle.class_round_trip.proofs.round_trip.read_again.Goals as goal

pub returns-in_err-again-clause-only : goal.returns-in_err-again-clause-only
returns-in_err-again-clause-only c is =
    let file = class_data_of c.args.file.now in
    let residual = c.from_residual-in_err-again in
    let error = err_from_is_err_and residual.result residual.ensures.1 in
    let spells = rw (← c.as_slice.ensures) at c.in_ok-bytes.ensures.spelled is.in_profile in
    rw (error.1, error.2) (too_long_or_memory _ c.as_slice.result.now file spells
    (c.in_err-again.ensures.only file spells))

pub returns-clause-same : goal.returns-clause-same
returns-clause-same c is =
    let file = class_data_of c.args.file.now in
    let spells = rw (← c.as_slice.ensures) at c.in_ok-bytes.ensures.spelled is.in_profile in
    one_spelling c.as_slice.result.now
    (class_data_of c.in_ok-again.again) file c.in_ok-again.ensures.found spells
