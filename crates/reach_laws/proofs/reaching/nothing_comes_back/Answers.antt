use Rattle.reach_laws.proofs.Steps as laws
use Rattle.reach_laws.proofs.reaching.nothing_comes_back.Goals as goal

pub returns : goal.returns
returns c = laws.nothing_comes_back
