use Rattle.link_laws.proofs.Cycles.{is_cyclic_is_above_itself}
use Rattle.link_laws.proofs.look_up.cycle_is_found.Goals as goal

pub returns : goal.returns
returns c = is_cyclic_is_above_itself
