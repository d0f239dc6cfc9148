use Rattle.code_laws.proofs.Bodies as laws
use Rattle.code_laws.proofs.code.one_body.Goals as goal

pub returns : goal.returns
returns c = laws.one_body
