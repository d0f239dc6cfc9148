-- Worlds and programs that were linked and verified (JVMS 5.4).
use Rattle.std.specs.Prelude.{◌≡◌, ◌≤◌, None}
use Rattle.world_model.specs.World.{World}
use Rattle.typing_model.specs.FailingPlace.{world_failure}
use Rattle.machine_model.specs.Machine.{Program}
use Rattle.linked_laws.specs.Worlds.{IsLinkedWorld}

-- It was linked, and no method of it fails to be well typed.
pub record IsVerifiedWorld (world : World) : Type 0 where
  pub linked : IsLinkedWorld world
  pub well_typed : world_failure world ≡ None

-- A program of such a world: it's started at the main class that the world was linked for, and there is room for the
-- first two objects.
pub record IsVerifiedProgram (program : Program) : Type 0 where
  pub verified : IsVerifiedWorld program.world
  pub main : verified.linked.main ≡ program.main
  pub room : 16 ≤ program.half
