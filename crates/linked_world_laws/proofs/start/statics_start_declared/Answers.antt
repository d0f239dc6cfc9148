use Rattle.linked_world_laws.proofs.Constants.{statics_start_declared}
use Rattle.linked_world_laws.proofs.start.statics_start_declared.Goals as goal

pub returns : goal.returns
returns c = statics_start_declared
