use Rattle.code_order_laws.proofs.Orders as laws
use Rattle.code_order_laws.proofs.loaded_codes_run.Goals as goal

pub returns : goal.returns
returns c = laws.loaded_codes_run
