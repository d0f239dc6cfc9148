-- The frame of an entry of a stack map (JVMS 4.7.4): all its locals and its stack, at its place.
use Rattle.std.specs.Prelude.{ℕ, ◌+◌, ◌-◌, List, [], ◌∷◌, ◌++◌, Bool, true, ◌&&◌, if◌then◌else◌, nat_le, Option, Some, None, length, take, sum, map}
use Rattle.jv_model.specs.Partial.{◌>>=◌}
use Rattle.jv_model.specs.ClassData.{Const}
use Rattle.jv_model.specs.Code.{MapType, map_long, map_object, MapFrame, Placed}
use Rattle.code_model.specs.StackMapEntries.{EntryType, FrameForm, same, same_with_item, chop, append, full, Entry}
use Rattle.code_model.specs.CodePlaces.{is_start}
use Rattle.jv_model.specs.ConstantPool.{names, class_tag}

-- a type that this machine has, whose class is one
abbrev pub is_known : List Const → MapType ℕ → Bool
is_known pool (map_object index) = names pool class_tag index
is_known pool other = true

abbrev pub known_type : List Const → EntryType → EntryType
known_type pool None = None
known_type pool (Some type) = if is_known pool type then Some type else None

unfoldable pub known_types : List Const → List EntryType → Option (List (MapType ℕ))
known_types pool [] = Some []
known_types pool (type ∷ types) = do
  first ← known_type pool type
  others ← known_types pool types
  Some (first ∷ others)

-- locals, and a stack
abbrev pub Types : Type 0
Types = List (MapType ℕ) × List (MapType ℕ)

-- those of a frame of that form behind these locals
unfoldable pub types_of : List Const → List (MapType ℕ) → FrameForm → Option Types
types_of pool before same = Some (before, [])
types_of pool before (same_with_item item) =
    known_type pool item >>= λ type. Some (before, type ∷ [])
types_of pool before (chop count) =
    if nat_le count (length before) then Some (take (length before - count) before, []) else None
types_of pool before (append types) = known_types pool types >>= λ more. Some (before ++ more, [])
types_of pool before (full locals stack) = do
  known_locals ← known_types pool locals
  known_stack ← known_types pool stack
  Some (known_locals, known_stack)

abbrev pub words_of_map_type : MapType ℕ → ℕ
words_of_map_type map_long = 2
words_of_map_type other = 1

abbrev pub words_of : List (MapType ℕ) → ℕ
words_of types = sum (map words_of_map_type types)

-- A frame stands this far behind the place of the frame before it, or behind the begin of the code.
abbrev pub place_behind : Option ℕ → ℕ → ℕ
place_behind None delta = delta
place_behind (Some place) delta = place + delta + 1

-- What frames have to fit.
pub record Bounds : Type 0 where
  pub pool : List Const
  pub max_stack : ℕ
  pub max_locals : ℕ
  pub instructions : List (Placed ℕ)

-- it stands at an instruction, with no more words than the method's frames have
abbrev pub fits : Bounds → MapFrame ℕ → Bool
fits bounds frame =
    is_start bounds.instructions frame.pc && nat_le (words_of frame.locals) bounds.max_locals
    && nat_le (words_of frame.stack) bounds.max_stack

abbrev pub frame_at : ℕ → Types → MapFrame ℕ
frame_at place types = record { pc = place; locals = types.0; stack = types.1 }

-- the frame of an entry, behind a frame at that place with these locals
unfoldable pub frame_of :
    Bounds → Option ℕ → List (MapType ℕ) → Entry → Option (MapFrame ℕ)
frame_of bounds place before entry = do
  types ← types_of bounds.pool before entry.form
  frame ← Some (frame_at (place_behind place entry.offset_delta) types)
  if fits bounds frame then Some frame else None
