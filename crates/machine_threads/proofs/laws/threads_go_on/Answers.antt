use Rattle.machine_threads.proofs.Going as going
use Rattle.machine_threads.proofs.laws.threads_go_on.Goals as goal

pub returns : goal.returns
returns c = going.threads_go_on
