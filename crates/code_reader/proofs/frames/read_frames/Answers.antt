use Rattle.std.proofs.Common.{◌∙◌, sym, ap, option_map, Option, Ok, arith, ℕ, List}
use Rattle.std.proofs.lemmas.List.{length-map, append-nil}
use Rattle.std.proofs.lemmas.Option.{slice_get-map}
use Rattle.jv_model.specs.Refusal.{wrong_map_frame}
use Rattle.jv_model.specs.Code.{MapFrame}
use Rattle.jv_types.specs.Code.{map_types_of}
use Rattle.jv_types.specs.Frames.{locals_behind}
use Rattle.code_model.specs.CodeReading.{frames_end}
use Rattle.code_reader.specs.Frames.{bounds_of}
use Rattle.code_reader.specs.Parts.{entry_of, entries_of, table_of}
use Rattle.code_reader.proofs.InstructionLists.{items_in_front}
use Rattle.code_reader.proofs.FrameLists.{frame_added, no_frame, frames_past}
use Rattle.code_reader.proofs.frames.read_frames.Goals as goal

pub returns-in_default : goal.returns-in_default
returns-in_default c =
    let entries = c.args.table.now.entries.items in
    let first = map_types_of c.args.first.now.items in
    let all = table_of c.args.method c.args.table.now in
    let none = rw c.in_default.is at c.in_ok-pc.ensures.added in
    sym c.loop-index.invariant.so_far
    ∙ no_frame (bounds_of c.args.bounds) c.args.method c.loop-index.index c.loop-index.place
    (locals_behind first c.loop-index.frames) all.end (entries_of entries) c.loop-index.index
    c.loop-index.frames (entry_of c.get-entry.result.now)
    (slice_get-map entry_of entries c.loop-index.index ∙ ap (option_map entry_of) c.get-entry.ensures)
    none

pub loop-index-preserved : goal.loop-index-preserved
loop-index-preserved c =
    let entries = c.args.table.now.entries.items in
    let first = map_types_of c.args.first.now.items in
    let all = table_of c.args.method c.args.table.now in
    let added = rw c.in-Some.is at c.in_ok-pc.ensures.added in
    let near = rw c.in-Some.is at c.in_ok-pc.ensures.near in
    record {
      so_far = sym (frame_added (bounds_of c.args.bounds) c.args.method c.loop-index.index c.loop-index.place
          (locals_behind first c.loop-index.frames) all.end (entries_of entries) c.loop-index.index
          c.loop-index.frames (entry_of c.get-entry.result.now)
          (slice_get-map entry_of entries c.loop-index.index ∙ ap (option_map entry_of) c.get-entry.ensures)
          first added.0 _ _ added.1 added.2 added.3)
          ∙ c.loop-index.invariant.so_far;
      near = near;
    }

pub returns-in-Some-end : goal.returns-in-Some-end
returns-in-Some-end c =
    let entries = c.args.table.now.entries.items in
    let first = map_types_of c.args.first.now.items in
    let all = table_of c.args.method c.args.table.now in
    sym c.loop-index.invariant.so_far
    ∙ frames_past (bounds_of c.args.bounds) c.args.method c.loop-index.index c.loop-index.place
    (locals_behind first c.loop-index.frames) all.end (entries_of entries) c.loop-index.index
    c.loop-index.frames
    (omega (arith, length-map entries entry_of, c.len-index-end.ensures, c.loop-index-test.false))
    ∙ ap (λ (end : Option ℕ). items_in_front c.loop-index.frames
    (frames_end (option_map (wrong_map_frame c.args.method) end))) c.in-Some-end.is

pub returns-in-None : goal.returns-in-None
returns-in-None c =
    let entries = c.args.table.now.entries.items in
    let first = map_types_of c.args.first.now.items in
    let all = table_of c.args.method c.args.table.now in
    sym c.loop-index.invariant.so_far
    ∙ frames_past (bounds_of c.args.bounds) c.args.method c.loop-index.index c.loop-index.place
    (locals_behind first c.loop-index.frames) all.end (entries_of entries) c.loop-index.index
    c.loop-index.frames
    (omega (arith, length-map entries entry_of, c.len-index-end.ensures, c.loop-index-test.false))
    ∙ ap (λ (end : Option ℕ). items_in_front c.loop-index.frames
    (frames_end (option_map (wrong_map_frame c.args.method) end))) c.in-None.is
    ∙ ap (λ (frames : List (MapFrame ℕ)). Ok frames) (append-nil c.loop-index.frames)
