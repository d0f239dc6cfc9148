use Rattle.linked_world_laws.proofs.Beginning.{first_methods_can_begin}
use Rattle.linked_world_laws.proofs.start.first_methods_can_begin.Goals as goal

pub returns : goal.returns
returns c = first_methods_can_begin
