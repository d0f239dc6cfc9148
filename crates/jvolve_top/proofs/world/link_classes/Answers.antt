use Rattle.std.proofs.Common.{sym}
use Rattle.class_loader.specs.Items.{classes_in}
use Rattle.jvolve_top.proofs.ProgramLemmas.{linked_is}
use Rattle.jvolve_top.proofs.world.link_classes.Goals as goal

pub returns-in-Ok-clause-own : goal.returns-in-Ok-clause-own
returns-in-Ok-clause-own c =
    sym (linked_is (classes_in c.args.classes.now) c.args.main.now.items c.in-Ok.world
    c.in-Ok.ensures)
