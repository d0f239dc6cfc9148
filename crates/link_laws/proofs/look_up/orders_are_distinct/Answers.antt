use Rattle.link_laws.proofs.Orders.{field_order_is_distinct, method_order_is_distinct}
use Rattle.link_laws.proofs.look_up.orders_are_distinct.Goals as goal

pub returns : goal.returns
returns c = λ world name. (field_order_is_distinct world name, method_order_is_distinct world name)
