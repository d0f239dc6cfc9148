-- What a verified world keeps.
use Rattle.std.specs.Prelude.{◌≡◌, None}
use Rattle.world_model.specs.World.{World}
use Rattle.typing_model.specs.FailingPlace.{world_failure}
use Rattle.linked_laws.specs.Worlds.{IsLinkedWorld}

-- It's linked, and no method of it breaks a rule.
pub record IsVerified (world : World) : Type 0 where
  pub linked : IsLinkedWorld world
  pub typed : world_failure world ≡ None
