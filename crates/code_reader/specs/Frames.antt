-- Which bounds, types and frames of the definitions these are.
use Rattle.std.specs.Prelude.{◌≡◌, ℕ, List, [], ◌∷◌, ◌++◌, Option, Some, None, take}
use Rattle.jv_types.specs.ClassData.{pool_of}
use Rattle.jv_types.specs.Code.{map_types_of}
use Rattle.jv_model.specs.Code.{MapType, MapFrame}
use Rattle.code_model.specs.StackMapEntries.{Entry}
use Rattle.code_model.specs.StackMaps as model
use Rattle.code_reader.specs.declared.frames.Bounds.{Bounds}
use Rattle.code_reader.specs.declared.frames.Change.{Change}

abbrev pub bounds_of : Bounds → model.Bounds
bounds_of bounds = record {
  pool = pool_of bounds.pool.now.items;
  max_stack = bounds.max_stack;
  max_locals = bounds.max_locals;
  instructions = bounds.instructions.now;
}

abbrev pub Locals : Type 0
Locals = List (MapType ℕ)

-- those of a frame, behind one with these locals
abbrev pub types_after : Locals → Change → model.Types
types_after before change =
    (take change.kept before ++ map_types_of change.locals.items, map_types_of change.stack.items)

-- The frame of an entry behind a frame at that place with these locals is added to the old ones, and
-- this is its place; without a place there is no such frame.
abbrev pub AddsFrame :
    model.Bounds → Option ℕ → Locals → Entry → List (MapFrame ℕ) → List (MapFrame ℕ) → Option ℕ → Type 0
AddsFrame bounds place before entry old new None = None ≡ model.frame_of bounds place before entry
AddsFrame bounds place before entry old new (Some pc) =
    (frame : MapFrame ℕ) × (Some frame ≡ model.frame_of bounds place before entry) × (new ≡ old ++ frame ∷ []) × (frame.pc ≡ pc)
