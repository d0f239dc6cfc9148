use Rattle.linked_world_laws.proofs.StringsAlone.{strings_stand_alone}
use Rattle.linked_world_laws.proofs.objects.strings_stand_alone.Goals as goal

pub returns : goal.returns
returns c = strings_stand_alone
