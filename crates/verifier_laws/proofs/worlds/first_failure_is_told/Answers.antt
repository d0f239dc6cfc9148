use Rattle.verifier_laws.proofs.Failures.{failure_first, first_failure}
use Rattle.verifier_laws.proofs.worlds.first_failure_is_told.Goals as goal

pub returns : goal.returns
returns c = λ world cause. (failure_first world cause, first_failure world cause)
