use Rattle.std.proofs.Common.{◌∙◌}
use Rattle.jv_types.specs.ClassData.{pool_of}
use Rattle.look_up_cache.specs.Found.{found_in}
use Rattle.look_up_cache.specs.Targets.{named_target}
use Rattle.look_up_cache.proofs.Standing.{same_some}
use Rattle.look_up_cache.proofs.slots.is_named.Goals as goal

pub returns-clause-named : goal.returns-clause-named
returns-clause-named g c =
    c.is_some.ensures
    ∙ same_some (found_in c.args.world.now) c.look_up.result (named_target c.args.world.now (pool_of c.args.pool.now) c.args.index) c.look_up.ensures.found
