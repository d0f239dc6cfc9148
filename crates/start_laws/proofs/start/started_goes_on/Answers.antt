use Rattle.start_laws.proofs.Started as laws
use Rattle.start_laws.proofs.start.started_goes_on.Goals as goal

pub returns : goal.returns
returns c = laws.started_goes_on
