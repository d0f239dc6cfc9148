use Rattle.link_laws.proofs.LookUps.{find_field_is_first}
use Rattle.link_laws.proofs.look_up.field_is_first.Goals as goal

pub returns : goal.returns
returns c = find_field_is_first
