use Rattle.reach_laws.proofs.Steps as laws
use Rattle.reach_laws.proofs.reaching.typed_reaches.Goals as goal

pub returns : goal.returns
returns c = laws.typed_reaches
