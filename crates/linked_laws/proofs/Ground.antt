-- The classes that typing looks at are boot classes.
use Rattle.std.proofs.Common.{List, refl, sym, subst}
use Rattle.jv_model.specs.LoadedClass.{LoadedClass}
use Rattle.world_model.specs.BootTable.{boot_table}
use Rattle.link_model.specs.WorldOf.{world_of}
use Rattle.linked_laws.specs.Laws.{TypingIsGrounded, GroundIsThere}
use Rattle.linked_laws.proofs.Classes.{is_linked}

boot_ground : (classes : List LoadedClass) → TypingIsGrounded (world_of boot_table classes)
unfolding boot_table
boot_ground classes = record { object = refl; string = refl; throwable = refl }

pub ground_is_there : GroundIsThere
ground_is_there world linked = subst TypingIsGrounded (sym (is_linked world linked).is) (boot_ground linked.classes)
