use Rattle.reach_laws.proofs.Listed as laws
use Rattle.reach_laws.proofs.reaching.conforming_lists.Goals as goal

pub returns : goal.returns
returns c = laws.conforming_lists
