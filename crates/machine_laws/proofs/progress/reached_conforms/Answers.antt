use Rattle.machine_laws.proofs.InUse as laws
use Rattle.machine_laws.proofs.progress.reached_conforms.Goals as goal

pub returns : goal.returns
returns c = λ state conforms id reached. laws.reached_conforms state conforms.live conforms.is id reached
