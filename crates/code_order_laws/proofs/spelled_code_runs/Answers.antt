use Rattle.code_order_laws.proofs.Orders as laws
use Rattle.code_order_laws.proofs.spelled_code_runs.Goals as goal

pub returns : goal.returns
returns c = laws.spelled_code_runs
