use Rattle.verifier_laws.proofs.Failures.{world_typed, typed_world}
use Rattle.verifier_laws.proofs.worlds.no_failure_is_typed.Goals as goal

pub returns : goal.returns
returns c = λ world. (world_typed world, typed_world world)
