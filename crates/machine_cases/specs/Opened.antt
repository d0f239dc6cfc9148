-- A linked world, with the tables of its classes.
use Rattle.std.specs.Prelude.{bytes_eq}
use Rattle.std.specs.List.{IsDistinct}
use Rattle.world_model.specs.World.{World}
use Rattle.link_laws.specs.Above.{IsSound}
use Rattle.linked_laws.specs.Worlds.{IsLinkedWorld}
use Rattle.class_world.specs.World.{HaveMembersOnce, names_of}
use Rattle.class_versions.specs.Versions.{VersionTables, AreVersions}

pub record OpenedWorld : Type 0 where
  pub world : World
  pub tables : VersionTables

-- The world was linked, and the tables are its own.
pub record IsOpened (world : World) (tables : VersionTables) : Type 0 where
  pub linked : IsLinkedWorld world
  pub sound : IsSound world
  pub apart : IsDistinct bytes_eq (names_of world)
  pub once : HaveMembersOnce world
  pub are : AreVersions world tables
