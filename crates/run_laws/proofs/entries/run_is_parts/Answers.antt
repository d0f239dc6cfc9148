use Rattle.run_laws.proofs.Joins as laws
use Rattle.run_laws.proofs.entries.run_is_parts.Goals as goal

pub returns : goal.returns
returns c = laws.run_cut
