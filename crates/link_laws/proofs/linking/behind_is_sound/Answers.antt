use Rattle.link_laws.proofs.Behind.{linked_behind_is_sound}
use Rattle.link_laws.proofs.linking.behind_is_sound.Goals as goal

pub returns : goal.returns
returns c = linked_behind_is_sound
