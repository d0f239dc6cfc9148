use Rattle.type_rules.proofs.Classes.{boot-names_interface, program-names_interface}
use Rattle.type_rules.proofs.class.is_interface.Goals as goal

pub returns-in-Boot : goal.returns-in-Boot
returns-in-Boot c = boot-names_interface _ _ c.requires _ c.class.ensures _ c.in-Boot.is

pub returns-in-Program : goal.returns-in-Program
returns-in-Program c = program-names_interface _ _ c.requires _ c.class.ensures _ c.in-Program.is
