-- What is asked of a world, of one that was linked (JVMS 5.4).
use Rattle.std.specs.Prelude.{bytes_eq}
use Rattle.std.specs.List.{IsDistinct}
use Rattle.world_model.specs.World.{World}
use Rattle.linked_laws.specs.Worlds.{IsLinkedWorld}
use Rattle.class_world.specs.World.{names_of, HaveMembersOnce}

abbrev pub LinkedWorldsAreApart : Type 0
LinkedWorldsAreApart = (world : World) → IsLinkedWorld world → IsDistinct bytes_eq (names_of world) × HaveMembersOnce world
