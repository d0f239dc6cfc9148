use Rattle.reach_laws.proofs.Steps as laws
use Rattle.reach_laws.proofs.reaching.journal_reaches.Goals as goal

pub returns : goal.returns
returns c = laws.journal_reaches
