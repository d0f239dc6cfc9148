use Rattle.std.proofs.Common.{subst}
use Rattle.world_model.specs.World as model
use Rattle.class_world.proofs.Infos.{HasInfo, info_at}
use Rattle.class_world.proofs.world.World.class.Goals as goal

pub returns : goal.returns
returns c =
    subst (λ (w : model.World). HasInfo w c.args.class.0 c.get.result.now) c.self.view_is
    (info_at c.self.inside.classes.items _ _ c.self.invariant.each_info c.get.ensures)
