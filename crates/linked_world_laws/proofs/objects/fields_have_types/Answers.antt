use Rattle.linked_world_laws.proofs.StringsAlone.{fields_have_types}
use Rattle.linked_world_laws.proofs.objects.fields_have_types.Goals as goal

pub returns : goal.returns
returns c = fields_have_types
