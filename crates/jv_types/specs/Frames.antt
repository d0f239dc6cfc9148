-- The frames of a stack map, told by rows that they share: a row is a type on top of those up to an
-- earlier row, and the locals and the stack of a frame are the types up to a row.
use Rattle.std.specs.Prelude.{◌≡◌, ℕ, ◌+◌, ◌≤◌, List, [], ◌∷◌, ◌++◌, Bool, Option, Some, None, length, map, flat_map, sum, get_or, slice_get}
use Rattle.std.specs.List.{list_any}
use Rattle.jv_model.specs.Code.{MapType, map_long, MapFrame}
use Rattle.jv_types.specs.MapFrame.{map_type_of}
use Rattle.jv_types.specs.declared.frames.TypeRow.{TypeRow}
use Rattle.jv_types.specs.declared.frames.FrameRow.{FrameRow}
use Rattle.jv_types.specs.declared.frames.SharedTypes.{SharedTypes}

-- ---- frames

-- the locals that a frame behind these frames is told from: those of the last, or those before
abbrev pub locals_behind : List (MapType ℕ) → List (MapFrame ℕ) → List (MapType ℕ)
locals_behind before [] = before
locals_behind before (frame ∷ frames) = locals_behind frame.locals frames

-- the locals of the last frame, where there is one
abbrev pub last_locals : List (MapFrame ℕ) → List (MapType ℕ)
last_locals frames = locals_behind [] frames

-- the words of a type, and of locals or of a stack: a Long counts as two
abbrev pub type_words : MapType ℕ → ℕ
type_words map_long = 2
type_words other = 1

abbrev pub words_of : List (MapType ℕ) → ℕ
words_of types = sum (map type_words types)

abbrev pub frame_types : MapFrame ℕ → List (MapType ℕ)
frame_types frame = frame.locals ++ frame.stack

-- the same items, in whatever order and however often
abbrev pub HaveSame : {A : Type 0} → List A → List A → Type 0
HaveSame {A} xs ys = (test : A → Bool) → list_any test xs ≡ list_any test ys

-- ---- rows

abbrev pub row_type : TypeRow → MapType ℕ
row_type row = map_type_of row.map_type

abbrev pub row_types : List TypeRow → List (MapType ℕ)
row_types rows = map row_type rows

-- the types up to a row, where those up to each row are these
abbrev pub types_up_to : List (List (MapType ℕ)) → Option ℕ → List (MapType ℕ)
types_up_to stacks None = []
types_up_to stacks (Some row) = get_or stacks row []

-- the types up to each row, the lowest first, behind those up to the rows before
abbrev pub stacks_from : List (List (MapType ℕ)) → List TypeRow → List (List (MapType ℕ))
stacks_from stacks [] = stacks
stacks_from stacks (row ∷ rows) =
    stacks_from (stacks ++ (types_up_to stacks row.below ++ row_type row ∷ []) ∷ []) rows

-- the types up to a row, the lowest first; none without one
unfoldable pub types_in : List TypeRow → Option ℕ → List (MapType ℕ)
types_in rows top = types_up_to (stacks_from [] rows) top

abbrev pub frame_in : List TypeRow → FrameRow → MapFrame ℕ
frame_in rows frame = record {
  pc = frame.pc;
  locals = types_in rows frame.locals;
  stack = types_in rows frame.stack;
}

abbrev pub frames_in : List TypeRow → List FrameRow → List (MapFrame ℕ)
frames_in rows frames = map (frame_in rows) frames

-- ---- rows that are right

-- how many rows there are up to one
abbrev pub rows_up_to : Option ℕ → ℕ
rows_up_to None = 0
rows_up_to (Some row) = row + 1

-- each row is on top of an earlier one
pub record AreRows (rows : List TypeRow) : Type 0 where
  pub earlier : (k : ℕ) (row : TypeRow) → slice_get rows k ≡ Some row → rows_up_to row.below ≤ k

-- they end in a row that is there, and are as many types and words as they say
pub record AreTypes (rows : List TypeRow) (types : SharedTypes) : Type 0 where
  pub inside : rows_up_to types.top ≤ length rows
  pub count : types.count ≡ length (types_in rows types.top)
  pub words : types.words ≡ words_of (types_in rows types.top)

-- the rows of a frame are there
pub record IsInside (rows : List TypeRow) (frame : FrameRow) : Type 0 where
  pub locals : rows_up_to frame.locals ≤ length rows
  pub stack : rows_up_to frame.stack ≤ length rows

-- Rows and frames over them, with the locals of the last frame. No row is there for nothing.
pub record AreFrames (rows : List TypeRow) (frames : List FrameRow) (locals : SharedTypes) : Type 0 where
  pub tree : AreRows rows
  pub kept : AreTypes rows locals
  pub inside : (n : ℕ) (frame : FrameRow) → slice_get frames n ≡ Some frame → IsInside rows frame
  pub last : types_in rows locals.top ≡ last_locals (frames_in rows frames)
  pub used : HaveSame (row_types rows) (flat_map frame_types (frames_in rows frames))

-- the types up to a row of the old ones are the same in the new ones
pub record Grows (old new : List TypeRow) : Type 0 where
  pub longer : length old ≤ length new
  pub same : (top : Option ℕ) → rows_up_to top ≤ length old → types_in new top ≡ types_in old top

-- The new rows have these types more, on top of the ones told of; together they are the result.
pub record AddTypes (old : List TypeRow) (types : SharedTypes) (more : List (MapType ℕ)) (new : List TypeRow) (result : SharedTypes) : Type 0 where
  pub tree : AreRows new
  pub ended : AreTypes new result
  pub grows : Grows old new
  pub added : types_in new result.top ≡ types_in old types.top ++ more
  pub all : row_types new ≡ row_types old ++ more
