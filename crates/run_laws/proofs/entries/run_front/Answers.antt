use Rattle.run_laws.proofs.Runs as laws
use Rattle.run_laws.proofs.entries.run_front.Goals as goal

pub returns : goal.returns
returns c = laws.run_front
