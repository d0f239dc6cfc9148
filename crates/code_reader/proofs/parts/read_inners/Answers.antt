use Rattle.std.proofs.Common.{◌≡◌, suc, ◌+◌, ◌-◌, ◌∙◌, sym, ap, arith, option_map}
use Rattle.std.proofs.lemmas.Result.{err_from_is_err_and}
use Rattle.jv_types.specs.ClassData.{pool_of}
use Rattle.code_model.specs.CodeShape.{inners_at}
use Rattle.code_reader.specs.Parts.{table_of}
use Rattle.code_reader.proofs.MapTables.{inner_more, inner_refused, inner_none}
use Rattle.code_reader.proofs.parts.read_inners.Goals as goal

pub returns-in_err-map : goal.returns-in_err-map
returns-in_err-map c =
    let pool = pool_of c.args.pool.now.items in
    let method = c.args.method in
    let map = option_map (table_of method) c.loop.map in
    let left : c.args.count - c.loop.counter ≡ suc (c.args.count - (c.loop.counter + 1)) =
    omega (arith, c.loop-test.true) in
    let error = err_from_is_err_and c.from_residual.result c.from_residual.ensures.1 in
    rw (error.1, error.2, ← c.loop.invariant, left)
    (inner_refused pool method (c.args.count - (c.loop.counter + 1)) map c.loop.input _
    c.in_err-map.ensures)

pub loop-preserved : goal.loop-preserved
loop-preserved c =
    let pool = pool_of c.args.pool.now.items in
    let method = c.args.method in
    let map = option_map (table_of method) c.loop.map in
    let left : c.args.count - c.loop.counter ≡ suc (c.args.count - (c.loop.counter + 1)) =
    omega (arith, c.loop-test.true) in
    sym (inner_more pool method (c.args.count - (c.loop.counter + 1)) map c.loop.input _ _
    c.in_ok-map.ensures)
    ∙ ap (λ n. inners_at pool method n map c.loop.input) (sym left) ∙ c.loop.invariant

pub returns : goal.returns
returns c =
    let pool = pool_of c.args.pool.now.items in
    let method = c.args.method in
    let map = option_map (table_of method) c.loop.map in
    let left : c.args.count - c.loop.counter ≡ 0 = omega (arith, c.loop-test.false) in
    sym c.loop.invariant ∙ ap (λ n. inners_at pool method n map c.loop.input) left
    ∙ inner_none pool method map c.loop.input
