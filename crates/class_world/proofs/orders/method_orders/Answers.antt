use Rattle.std.proofs.Common.{◌≡◌, ap, ◌∙◌, arith}
use Rattle.world_model.specs.Supertypes.{method_order}
use Rattle.class_world.specs.World.{world_of_infos, name_at, numbers_of}
use Rattle.class_world.proofs.Numbers.{number}
use Rattle.class_world.proofs.MethodOrders.{row_added, orders_are}
use Rattle.class_world.proofs.orders.method_orders.Goals as goal

pub loop-number-preserved : goal.loop-number-preserved
loop-number-preserved c =
    let world = world_of_infos c.args.classes.now in
    let is_number : c.in-Ok.number ≡ c.loop-number.number = omega (arith, c.in-Ok.ensures) in
    let added = row_added (λ order. order.items) c.loop-number.orders.items c.push.new.self.items c.in_ok-order.order c.loop-number.number
    (λ k. numbers_of world (method_order world (name_at world (number k)))) c.loop-number.invariant.count c.loop-number.invariant.each_order c.in_ok-push.ensures.ok
    (c.in_ok-order.ensures c.requires.acyclic ∙ ap (λ k. numbers_of world (method_order world (name_at world (number k)))) is_number) in
    record { count = added.0; each_order = added.1 }

pub returns : goal.returns
returns c =
    orders_are c.args.classes.now (method_order (world_of_infos c.args.classes.now)) (λ order. order.items) c.loop-number.orders.items c.loop-number.number
    (omega arith) c.loop-number.invariant.count c.loop-number.invariant.each_order
