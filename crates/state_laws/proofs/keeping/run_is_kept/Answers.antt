use Rattle.state_laws.proofs.Steps as laws
use Rattle.state_laws.proofs.keeping.run_is_kept.Goals as goal

pub returns : goal.returns
returns c = laws.run_is_kept
