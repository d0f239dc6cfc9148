use Rattle.machine_laws.proofs.Steps as laws
use Rattle.machine_laws.proofs.progress.step_is_right.Goals as goal

pub returns : goal.returns
returns c = laws.step_is_right
