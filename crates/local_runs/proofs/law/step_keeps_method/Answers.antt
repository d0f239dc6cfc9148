use Rattle.local_runs.proofs.LawLemmas.{keeps_method}
use Rattle.local_runs.proofs.law.step_keeps_method.Goals as goal

pub returns : goal.returns
returns c = keeps_method
