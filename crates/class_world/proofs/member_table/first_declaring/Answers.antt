use Rattle.std.proofs.Common.{sym, ◌∙◌, arith}
use Rattle.class_world.proofs.Searches.{first_with-more, first_with-end}
use Rattle.class_world.proofs.member_table.first_declaring.Goals as goal

pub returns-in-Some-clause-found : goal.returns-in-Some-clause-found
returns-in-Some-clause-found g c =
    sym (first_with-more c.args.declared.now c.args.signature c.args.order.now c.loop-class.class-index (record { 0 = 0 })
    _ _ c.requires (omega arith) c.index-declared-class.is c.in-Some.ensures.number)
    ∙ c.loop-class.invariant.searched

pub loop-class-preserved : goal.loop-class-preserved
loop-class-preserved g c = record {
  searched =
      sym (first_with-more c.args.declared.now c.args.signature c.args.order.now c.loop-class.class-index (record { 0 = 0 })
      _ _ c.requires (omega arith) c.index-declared-class.is c.in_default.ensures.number)
      ∙ c.loop-class.invariant.searched;
  counted = omega arith;
}

pub returns-clause-found : goal.returns-clause-found
returns-clause-found g c =
    sym (first_with-end c.args.declared.now c.args.signature c.args.order.now c.loop-class.class-index (omega arith))
    ∙ c.loop-class.invariant.searched
