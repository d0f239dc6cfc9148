use Rattle.linked_world_laws.proofs.RightCode.{frames_are_small}
use Rattle.linked_world_laws.proofs.code.frames_are_small.Goals as goal

pub returns : goal.returns
returns c = frames_are_small
