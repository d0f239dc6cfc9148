use Rattle.run_laws.proofs.Journals as laws
use Rattle.run_laws.proofs.journal.journals_are_one.Goals as goal

pub returns : goal.returns
returns c = laws.journals_are_one
