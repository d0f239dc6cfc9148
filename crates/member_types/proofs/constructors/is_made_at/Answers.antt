use Rattle.std.proofs.Common.{sym, ◌∙◌}
use Rattle.jv_types.specs.ClassData.{pool_of}
use Rattle.member_types.proofs.MadeAt.{made-there, made-nowhere}
use Rattle.member_types.proofs.constructors.is_made_at.Goals as goal

pub returns-in-Some : goal.returns-in-Some
returns-in-Some c =
    c.is_new_of.ensures
    ∙ sym (made-there (pool_of c.args.pool.now) c.args.class.now c.args.pc c.args.instructions.now c.in-Some.number _
    c.number_at.ensures.order (sym c.number_at.ensures.found ∙ c.in-Some.is) c.get.ensures)

pub returns-in-None : goal.returns-in-None
returns-in-None c =
    sym (made-nowhere (pool_of c.args.pool.now) c.args.class.now c.args.pc c.args.instructions.now
    (sym c.number_at.ensures.found ∙ c.in-None.is))
