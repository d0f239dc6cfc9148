use Rattle.run_laws.proofs.Journals as laws
use Rattle.run_laws.proofs.journal.journal_front.Goals as goal

pub returns : goal.returns
returns c = laws.journal_front
