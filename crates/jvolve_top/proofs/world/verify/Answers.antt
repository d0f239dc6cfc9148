use Rattle.typing_model.specs.FailingPlace.{world_failure}
use Rattle.jvolve_top.proofs.ProgramLemmas.{not_verified_stops}
use Rattle.jvolve_top.proofs.world.verify.Goals as goal

pub returns-clause-placed : goal.returns-clause-placed
returns-clause-placed c =
    not_verified_stops c.args.world (world_failure c.args.world) c.verify_stop.result
    (c.verify_stop.ensures (world_failure c.args.world) c.in-Err.ensures.1)
