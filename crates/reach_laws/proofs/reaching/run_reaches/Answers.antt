use Rattle.reach_laws.proofs.Steps as laws
use Rattle.reach_laws.proofs.reaching.run_reaches.Goals as goal

pub returns : goal.returns
returns c = laws.run_reaches
