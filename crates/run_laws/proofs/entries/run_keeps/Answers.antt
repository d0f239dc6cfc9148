use Rattle.run_laws.proofs.StepKeeps as laws
use Rattle.run_laws.proofs.entries.run_keeps.Goals as goal

pub returns : goal.returns
returns c = laws.run_keeps
