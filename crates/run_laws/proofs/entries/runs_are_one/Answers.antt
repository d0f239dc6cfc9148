use Rattle.run_laws.proofs.Joins as laws
use Rattle.run_laws.proofs.entries.runs_are_one.Goals as goal

pub returns : goal.returns
returns c = laws.runs_are_one
