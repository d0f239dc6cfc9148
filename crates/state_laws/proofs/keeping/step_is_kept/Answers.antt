use Rattle.state_laws.proofs.Steps as laws
use Rattle.state_laws.proofs.keeping.step_is_kept.Goals as goal

pub returns : goal.returns
returns c = laws.step_is_kept
