use Rattle.manifest_laws.proofs.LawLemmas.{told_is}
use Rattle.manifest_laws.proofs.laws.first_fault_is_told.Goals as goal

pub returns : goal.returns
returns c = told_is
