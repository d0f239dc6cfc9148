use Rattle.std.proofs.Common.{ℕ, Option, ap, sym, ◌∙◌}
use Rattle.class_world.specs.World.{number_of}
use Rattle.jv_types.specs.ClassData.{pool_of}
use Rattle.stackmap_verify.proofs.Caught.{caught_by}
use Rattle.stackmap_verify.proofs.handlers.caught_class.Goals as goal

pub returns-in_default : goal.returns-in_default
returns-in_default c =
    let method = c.args.method.now in
    sym c.requires.ready.throwable
    ∙ ap (λ (o : Option ℕ). number_of method.world.now (caught_by (pool_of method.code.now.pool.now) o)) (sym c.in_default.is)
