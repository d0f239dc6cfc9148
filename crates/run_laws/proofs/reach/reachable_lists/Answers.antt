use Rattle.run_laws.proofs.ReachOrders as laws
use Rattle.run_laws.proofs.reach.reachable_lists.Goals as goal

pub returns : goal.returns
returns c = laws.reachable_lists
