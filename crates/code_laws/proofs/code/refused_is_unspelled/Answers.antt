use Rattle.code_laws.proofs.Bodies as laws
use Rattle.code_laws.proofs.code.refused_is_unspelled.Goals as goal

pub returns : goal.returns
returns c = laws.refused_is_unspelled
