-- The classes that the machine itself uses are there in a linked world.
use Rattle.std.proofs.Common.{sym, subst}
use Rattle.boot_laws.proofs.Computed.{boot_classes_hold}
use Rattle.boot_laws.specs.Laws.{BootClasses}
use Rattle.linked_laws.proofs.Classes.{is_linked}
use Rattle.linked_world_laws.specs.Laws.{BootClassesAreThere}

pub boot_classes_are_there : BootClassesAreThere
boot_classes_are_there world linked = subst BootClasses (sym (is_linked world linked).is) (boot_classes_hold linked.classes)
