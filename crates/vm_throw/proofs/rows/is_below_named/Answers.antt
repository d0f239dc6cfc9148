use Rattle.std.proofs.Common.{sym, ap, ◌∙◌}
use Rattle.world_model.specs.Supertypes.{is_sub}
use Rattle.class_world.specs.World.{name_at}
use Rattle.vm_throw.proofs.Missing.{named, absent_is_false}
use Rattle.vm_throw.proofs.rows.is_below_named.Goals as goal

pub returns-in-Some-clause-below : goal.returns-in-Some-clause-below
returns-in-Some-clause-below g c =
    c.is_sub.ensures.found
    ∙ ap (is_sub c.args.world.now (name_at c.args.world.now c.args.class))
    (named c.args.world.now c.args.name.now c.in-Some.above (sym c.in-Some.ensures))

pub returns-in-None-clause-below : goal.returns-in-None-clause-below
returns-in-None-clause-below g c =
    sym (absent_is_false c.args.world.now c.args.class c.args.name.now c.requires.world c.requires.class (sym c.in-None.ensures))
