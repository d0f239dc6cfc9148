use Rattle.linked_world_laws.proofs.Constants.{strings_are_for_strings}
use Rattle.linked_world_laws.proofs.start.strings_are_for_strings.Goals as goal

pub returns : goal.returns
returns c = strings_are_for_strings
