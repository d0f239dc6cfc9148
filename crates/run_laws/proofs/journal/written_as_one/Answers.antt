use Rattle.run_laws.proofs.Loops as laws
use Rattle.run_laws.proofs.journal.written_as_one.Goals as goal

pub returns : goal.returns
returns c = laws.written_as_one
