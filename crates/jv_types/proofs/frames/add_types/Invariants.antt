use Rattle.std.proofs.Common.{◌≡◌, ◌+◌, take}
use Rattle.jv_types.specs.MapFrame.{map_types_of}
use Rattle.jv_types.specs.Frames.{AddTypes}
use Rattle.jv_types.proofs.frames.add_types.Given as goal

-- the types so far are there, and the room that is left
abbrev pub invariant-loop-map_type : goal.invariant-loop-map_type
invariant-loop-map_type l = record {
  so_far : AddTypes l.fn.rows.items l.fn.types (map_types_of (take l.map_type-index l.more)) l.rows.items l.added;
  room : l.rows.spare + l.map_type-index ≡ l.fn.rows.spare;
}
