use Rattle.run_laws.proofs.OneJournal as laws
use Rattle.run_laws.proofs.journal.one_in_turns.Goals as goal

pub returns : goal.returns
returns c = laws.one_round_robin
