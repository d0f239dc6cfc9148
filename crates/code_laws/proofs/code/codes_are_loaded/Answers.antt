use Rattle.code_laws.proofs.Loading as laws
use Rattle.code_laws.proofs.code.codes_are_loaded.Goals as goal

pub returns : goal.returns
returns c = laws.codes_are_loaded
