use Rattle.linked_world_laws.proofs.RightCode.{code_stands_right}
use Rattle.linked_world_laws.proofs.code.code_stands_right.Goals as goal

pub returns : goal.returns
returns c = code_stands_right
