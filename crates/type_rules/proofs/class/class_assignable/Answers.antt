use Rattle.std.proofs.Common.{◌∙◌}
use Rattle.type_rules.proofs.Classes.{class_assignable-by_sub, no_interface}
use Rattle.type_rules.proofs.class.class_assignable.Goals as goal

pub returns-else-is_interface : goal.returns-else-is_interface
returns-else-is_interface g c =
    let w = c.args.world.now in
    no_interface _ _ c.is_sub.result _ c.is_interface.ensures c.if-is_interface.false c.is_sub.ensures.found
    ∙ class_assignable-by_sub w c.args.from c.args.to c.requires.from
