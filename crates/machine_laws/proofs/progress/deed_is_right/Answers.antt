use Rattle.machine_laws.proofs.Steps as laws
use Rattle.machine_laws.proofs.progress.deed_is_right.Goals as goal

pub returns : goal.returns
returns c = laws.deed_is_right
