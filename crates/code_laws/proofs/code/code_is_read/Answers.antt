use Rattle.code_laws.proofs.Bodies.{code_read}
use Rattle.code_laws.proofs.code.code_is_read.Goals as goal

pub returns : goal.returns
returns c = code_read
