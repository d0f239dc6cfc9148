use Rattle.link_laws.proofs.LookUps.{find_method_is_first}
use Rattle.link_laws.proofs.look_up.method_is_first.Goals as goal

pub returns : goal.returns
returns c = find_method_is_first
