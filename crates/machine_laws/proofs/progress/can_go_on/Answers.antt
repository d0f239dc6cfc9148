use Rattle.machine_laws.proofs.Going as laws
use Rattle.machine_laws.proofs.progress.can_go_on.Goals as goal

pub returns : goal.returns
returns c = laws.goes_on
