use Rattle.std.proofs.Common.{◌∙◌, sym, ap, map, option_map, arith}
use Rattle.std.proofs.lemmas.List.{length-map}
use Rattle.std.proofs.lemmas.Option.{slice_get-map}
use Rattle.jv_types.specs.ClassData.{pool_of}
use Rattle.jv_types.specs.Code.{handler_of}
use Rattle.code_reader.proofs.Starts.{handler_here, handler_later, no_handler}
use Rattle.code_reader.proofs.places.wrong_handler.Goals as goal

pub returns-then-not-is_handler : goal.returns-then-not-is_handler
returns-then-not-is_handler c = λ method.
    let rows = map handler_of c.args.rows.now.items in
    sym (handler_here (pool_of c.args.pool.now.items) method c.args.end c.args.instructions.now
    rows c.loop-index.index (handler_of c.get.result.now)
    (slice_get-map handler_of c.args.rows.now.items c.loop-index.index ∙ ap (option_map handler_of) c.get.ensures)
    (sym c.is_handler.ensures ∙ c.if-not-is_handler.true))
    ∙ c.loop-index.invariant method

pub loop-index-preserved : goal.loop-index-preserved
loop-index-preserved c = λ method.
    let rows = map handler_of c.args.rows.now.items in
    sym (handler_later (pool_of c.args.pool.now.items) method c.args.end c.args.instructions.now
    rows c.loop-index.index (handler_of c.get.result.now)
    (slice_get-map handler_of c.args.rows.now.items c.loop-index.index ∙ ap (option_map handler_of) c.get.ensures)
    (sym c.is_handler.ensures ∙ c.if-not-is_handler.false))
    ∙ c.loop-index.invariant method

pub returns : goal.returns
returns c = λ method.
    let rows = map handler_of c.args.rows.now.items in
    sym (no_handler (pool_of c.args.pool.now.items) method c.args.end c.args.instructions.now
    rows c.loop-index.index
    (omega (
      arith,
      length-map c.args.rows.now.items handler_of,
      c.len-index-end.ensures,
      c.loop-index-test.false,
    )))
    ∙ c.loop-index.invariant method
