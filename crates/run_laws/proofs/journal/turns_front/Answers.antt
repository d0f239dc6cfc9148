use Rattle.run_laws.proofs.OneJournal as laws
use Rattle.run_laws.proofs.journal.turns_front.Goals as goal

pub returns : goal.returns
returns c = laws.turns_front
