use Rattle.std.proofs.Common.{◌≡◌, Some, None, slice_get, option_map, sym, ap, ◌∙◌, arith}
use Rattle.std.proofs.lemmas.Grind.{common_steps}
use Rattle.std.proofs.lemmas.Option.{gets}
use Rattle.code_model.specs.Names.{operand_at}
use Rattle.machine_model.specs.Start.{first_value}
use Rattle.jv_types.specs.ClassData.{pool_of}
use Rattle.class_members.proofs.Constants.{operand_there, operand_past}
use Rattle.class_members.proofs.constant.first_value.Goals as goal

pub returns-in-Some-get : goal.returns-in-Some-get
returns-in-Some-get c = λ field same.
    let pool = pool_of c.args.pool.now in
    let at : slice_get c.args.pool.now c.from.result ≡ Some c.in-Some-get.entry.now =
    grind (arith, common_steps, gets, c.in-Some-get.ensures.lookup) in
    let there = operand_there c.args.pool.now c.in-Some.index c.in-Some-get.entry.now (ap (slice_get c.args.pool.now) (sym c.from.ensures) ∙ at) in
    c.value_named.ensures field pool same ∙ ap (λ o. first_value field (Some o)) (sym there)
    ∙ ap (λ o. first_value field (option_map (operand_at pool) o)) (sym c.in-Some.is)

pub returns-in-None-get : goal.returns-in-None-get
returns-in-None-get c = λ field same.
    let pool = pool_of c.args.pool.now in
    let at : slice_get c.args.pool.now c.from.result ≡ None =
    grind (arith, common_steps, gets, c.in-None-get.ensures.lookup) in
    let past = operand_past c.args.pool.now c.in-Some.index (ap (slice_get c.args.pool.now) (sym c.from.ensures) ∙ at) in
    c.zero_value.ensures field.descriptor same ∙ ap (λ o. first_value field (Some o)) (sym past)
    ∙ ap (λ o. first_value field (option_map (operand_at pool) o)) (sym c.in-Some.is)
