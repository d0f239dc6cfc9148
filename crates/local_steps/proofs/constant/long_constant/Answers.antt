use Rattle.std.proofs.Common.{◌∙◌, refl, sym, ap, arith, get_or}
use Rattle.std.proofs.lemmas.Int.{to_z-of_z}
use Rattle.std.proofs.lemmas.List.{get_or_past}
use Rattle.jv_types.specs.ClassData.{pool_of}
use Rattle.jv_types.specs.declared.class_data.Const.TheVariants.{Gap}
use Rattle.local_steps.specs.Constants.{long_named}
use Rattle.local_steps.proofs.ListLemmas.{operand_is, entry_read, no_long}
use Rattle.local_steps.proofs.constant.long_constant.Goals as goal

pub returns-then-index-pool : goal.returns-then-index-pool
returns-then-index-pool c =
    let past = get_or_past c.args.pool.now c.args.index Gap (omega arith) in
    rw (operand_is c.args.pool.now c.args.index, past) refl

pub returns-in-Long : goal.returns-in-Long
returns-in-Long c =
    let read = entry_read c.args.pool.now c.from-index.result c.args.index _ c.from-index.ensures c.if-index-pool.false c.index-pool-index.is in
    rw (operand_is c.args.pool.now c.args.index, read ∙ c.in-Long.is) (grind (arith, to_z-of_z))

pub returns-in_default : goal.returns-in_default
returns-in_default c =
    let read = entry_read c.args.pool.now c.from-index.result c.args.index _ c.from-index.ensures c.if-index-pool.false c.index-pool-index.is in
    sym (ap long_named (operand_is c.args.pool.now c.args.index)
    ∙ no_long (pool_of c.args.pool.now) (get_or c.args.pool.now c.args.index Gap) (λ n e. c.in_default.not-Long n (sym read ∙ e)))
