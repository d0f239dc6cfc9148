use Rattle.std.proofs.Common.{arith}
use Rattle.class_world.proofs.MethodOrders.{interfaces_more}
use Rattle.class_world.proofs.hierarchy.interfaces_of_all.Goals as goal

pub loop-number-preserved : goal.loop-number-preserved
loop-number-preserved c =
    interfaces_more c.args.classes.now c.args.numbers.now c.loop-number.number-index _ _ _ _ (omega arith) c.requires
    c.index-classes-number.is c.in_ok-push_interfaces.ensures c.loop-number.invariant
