use Rattle.start_laws.proofs.Started as laws
use Rattle.start_laws.proofs.start.started_conforms.Goals as goal

pub returns : goal.returns
returns c = laws.started_conforms
