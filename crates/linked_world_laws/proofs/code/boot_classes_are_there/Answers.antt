use Rattle.linked_world_laws.proofs.BootThere.{boot_classes_are_there}
use Rattle.linked_world_laws.proofs.code.boot_classes_are_there.Goals as goal

pub returns : goal.returns
returns c = boot_classes_are_there
