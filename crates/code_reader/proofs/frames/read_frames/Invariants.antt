use Rattle.std.proofs.Common.{◌≡◌, ◌<◌, drop}
use Rattle.std.specs.Prelude.{IfSome}
use Rattle.jv_types.specs.Code.{map_types_of}
use Rattle.jv_types.specs.Frames.{locals_behind}
use Rattle.jv_types.specs.Instructions.{most_places}
use Rattle.code_model.specs.CodeReading.{frames_from, frames_of}
use Rattle.code_reader.specs.Frames.{bounds_of}
use Rattle.code_reader.specs.Parts.{table_of}
use Rattle.code_reader.proofs.InstructionLists.{items_in_front}
use Rattle.code_reader.proofs.frames.read_frames.Given as goal

-- the frames so far, and those that are left
abbrev pub invariant-loop-index : goal.invariant-loop-index
invariant-loop-index l = record {
  so_far : items_in_front l.frames
      (frames_from (bounds_of l.bounds) l.method l.index l.place (locals_behind (map_types_of l.first.items) l.frames)
      (table_of l.method l.table).end (drop l.index (table_of l.method l.table).entries))
      ≡ frames_of (bounds_of l.bounds) l.method (map_types_of l.first.items)
      (table_of l.method l.table);
  near : IfSome l.place (λ before. before < most_places);
}
