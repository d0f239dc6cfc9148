use Rattle.linked_world_laws.proofs.UsesThere.{instructions_use_what_is_there}
use Rattle.linked_world_laws.proofs.code.instructions_use_what_is_there.Goals as goal

pub returns : goal.returns
returns c = instructions_use_what_is_there
