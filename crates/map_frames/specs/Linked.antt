-- Types of a stack map of which the classes are there, as they are in code that was linked.
use Rattle.std.specs.Prelude.{ℕ, List}
use Rattle.std.specs.List.{All}
use Rattle.jv_model.specs.ClassData.{Const}
use Rattle.jv_model.specs.Code.{MapType, map_object, MapFrame}
use Rattle.world_model.specs.World.{World}
use Rattle.code_model.specs.Names.{operand_at}
use Rattle.linked_laws.specs.Operands.{ClassIsLinked}

-- where a type names a class
abbrev pub EntryIsLinked : World → List Const → MapType ℕ → Type 0
EntryIsLinked world pool (map_object index) = ClassIsLinked world (operand_at pool index)
EntryIsLinked world pool other = Unit {0}

abbrev pub AreLinkedEntries : World → List Const → List (MapType ℕ) → Type 0
AreLinkedEntries world pool types = All (EntryIsLinked world pool) types

-- The classes that the types of a frame name are there.
pub record HasLinkedEntries (world : World) (pool : List Const) (frame : MapFrame ℕ) : Type 0 where
  pub locals : AreLinkedEntries world pool frame.locals
  pub stack : AreLinkedEntries world pool frame.stack
