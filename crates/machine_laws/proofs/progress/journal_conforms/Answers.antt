use Rattle.machine_laws.proofs.Steps as laws
use Rattle.machine_laws.proofs.progress.journal_conforms.Goals as goal

pub returns : goal.returns
returns c = laws.journal_conforms
