use Rattle.run_laws.proofs.StepKeeps as laws
use Rattle.run_laws.proofs.entries.step_keeps.Goals as goal

pub returns : goal.returns
returns c = laws.step_keeps
