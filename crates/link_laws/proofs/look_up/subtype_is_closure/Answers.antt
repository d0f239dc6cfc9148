use Rattle.link_laws.proofs.Orders.{is_sub_is_closure}
use Rattle.link_laws.proofs.look_up.subtype_is_closure.Goals as goal

pub returns : goal.returns
returns c = is_sub_is_closure
