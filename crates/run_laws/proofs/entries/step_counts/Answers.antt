use Rattle.run_laws.proofs.Steps as laws
use Rattle.run_laws.proofs.entries.step_counts.Goals as goal

pub returns : goal.returns
returns c = laws.step_counts
