use Rattle.run_laws.proofs.ReachOrders as laws
use Rattle.run_laws.proofs.reach.reach_order_lists.Goals as goal

pub returns : goal.returns
returns c = laws.below_lists
