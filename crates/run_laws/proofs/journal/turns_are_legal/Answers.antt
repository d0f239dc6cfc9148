use Rattle.run_laws.proofs.OneJournal as laws
use Rattle.run_laws.proofs.journal.turns_are_legal.Goals as goal

pub returns : goal.returns
returns c = laws.round_robin_is_legal
