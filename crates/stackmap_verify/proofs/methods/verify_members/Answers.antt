use Rattle.std.proofs.Common.{arith}
use Rattle.std.proofs.lemmas.Result.{err_from_is_err_and}
use Rattle.link_model.specs.WorldOf.{class_of}
use Rattle.typing_model.specs.FailingPlace.{method_failure}
use Rattle.jv_types.specs.Loaded.{loaded_of}
use Rattle.verifier_laws.proofs.Failures.{class_failure}
use Rattle.verifier_laws.proofs.Firsts.{first_here, first_later, first_end}
use Rattle.stackmap_verify.proofs.Members.{member_count, told_further}
use Rattle.stackmap_verify.proofs.methods.verify_members.Goals as goal

pub returns-in_err-pass_method : goal.returns-in_err-pass_method
returns-in_err-pass_method g c =
    let w = c.args.world.now in
    let class = class_of (loaded_of c.args.loaded.now) in
    let told = c.in_err-pass_method.ensures in
    let error = err_from_is_err_and c.from_residual.result c.from_residual.ensures.1 in
    rw (error.1, error.2)
    (told_further (method_failure w class told.0) (class_failure w class) c.in_err-pass_method.field-0.0
    (λ cause it. first_here (method_failure w class) class.methods c.loop-index.index (class_failure w class)
    c.loop-index.invariant told.0 cause told.1 it) told.2)

pub loop-index-preserved : goal.loop-index-preserved
loop-index-preserved g c =
    let w = c.args.world.now in
    let class = class_of (loaded_of c.args.loaded.now) in
    let told = c.in_ok-pass_method.ensures in
    first_later (method_failure w class) class.methods c.loop-index.index (class_failure w class) c.loop-index.invariant told.0 told.1 told.2.0

pub returns : goal.returns
returns g c =
    let w = c.args.world.now in
    let class = class_of (loaded_of c.args.loaded.now) in
    first_end (method_failure w class) class.methods c.loop-index.index (class_failure w class) c.loop-index.invariant
    (omega (arith, member_count c.args.loaded.now))
