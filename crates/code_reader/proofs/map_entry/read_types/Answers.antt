use Rattle.std.proofs.Common.{refl}
use Rattle.std.proofs.lemmas.Result.{err_from_is_err_and}
use Rattle.std.proofs.lemmas.List.{map_push}
use Rattle.jv_model.specs.Refusal.{wrong_map_frame}
use Rattle.class_reader.proofs.Loops.Counted.{goes_on, is_refused, is_done}
use Rattle.code_reader.specs.Parts.{entry_type_of}
use Rattle.code_reader.proofs.Counts.{types_kind, types}
use Rattle.code_reader.proofs.map_entry.read_types.Goals as goal

pub returns-in_err-each : goal.returns-in_err-each
returns-in_err-each c =
    let unknown = wrong_map_frame c.args.method c.args.index in
    let error = err_from_is_err_and c.from_residual.result c.from_residual.ensures.1 in
    rw (error.1, error.2) (is_refused (types_kind unknown) (types unknown) _ tt _ _ _ _
    c.loop.invariant _ c.loop-test.true c.in_err-each.ensures)

pub loop-preserved : goal.loop-preserved
loop-preserved c =
    let unknown = wrong_map_frame c.args.method c.args.index in
    rw (c.in_ok-push.ensures.ok, map_push entry_type_of c.loop.types.items c.in_ok-each.each)
    (goes_on (types_kind unknown) (types unknown) _ tt _ _ _ _ c.loop.invariant _ _
    c.loop-test.true c.in_ok-each.ensures)

pub returns : goal.returns
returns c =
    let unknown = wrong_map_frame c.args.method c.args.index in
    is_done (types_kind unknown) (types unknown) _ tt _ _ _ _ c.loop.invariant
    c.loop-test.false refl
