use Rattle.std.proofs.Common.{arith}
use Rattle.class_world.proofs.Declaring.{declared_begins, declared_goes_on, declared_ends, gives_some}
use Rattle.class_world.proofs.signatures.declare_members.Goals as goal

pub loop-class-init : goal.loop-class-init
loop-class-init c = declared_begins c.args.classes.now _ _ _ c.requires.texts c.new-fields.ensures c.new-methods.ensures

pub loop-class-preserved : goal.loop-class-preserved
loop-class-preserved c =
    declared_goes_on c.args.classes.now c.loop-class.class-index c.class-item.result (omega arith) c.class-item.is _ _ _ _ _ _ _ _ _
    c.loop-class.invariant (gives_some _ _ _ _ _ c.in_ok-own_fields.ensures c.in-Some.is) (gives_some _ _ _ _ _ c.in_ok-own_methods.ensures c.in-Some-2.is)
    c.in_ok-push.ensures.ok c.in_ok-push-2.ensures.ok

pub returns : goal.returns
returns c = declared_ends c.args.classes.now c.loop-class.class-index _ _ (omega arith) c.loop-class.invariant
