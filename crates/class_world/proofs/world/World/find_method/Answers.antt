use Rattle.std.proofs.Common.{Some, option_map, ◌∙◌}
use Rattle.world_model.specs.LookUp.{find_method}
use Rattle.class_world.specs.World.{name_at}
use Rattle.class_world.proofs.world.World.find_method.Goals as goal

pub returns-clause-found : goal.returns-clause-found
returns-clause-found g c =
    c.method_named.ensures.found
    ∙ (λ i. option_map Some (find_method c.args.self.now (name_at c.args.self.now c.args.class) (c.as_slice.ensures i) (c.as_slice-2.ensures i)))
