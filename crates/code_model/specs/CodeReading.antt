-- Reading the code of a class's methods (JVMS 4.7.3, 4.9.1): what it is, or the first refusal.
use Rattle.std.specs.Prelude.{ℕ, ◌+◌, List, [], ◌∷◌, Option, Some, None, Result, Ok, Err, ok_or, unwrap_or, length, slice_get}
use Rattle.jv_model.specs.Fallible.{unless, ◌>>=◌}
use Rattle.jv_model.specs.Refusal.{Cause, wrong_map_frame, wrong_shape}
use Rattle.jv_model.specs.ClassData.{Member, ClassData}
use Rattle.jv_model.specs.Code.{MapType, Placed, MapFrame, Body}
use Rattle.code_model.specs.InstructionReading.{instructions_of}
use Rattle.code_model.specs.StackMapEntries.{Entry, MapTable}
use Rattle.code_model.specs.CodeShape.{code_bytes, Parts, parts_of, fitting_parts}
use Rattle.code_model.specs.CodePlaces.{target_fault, handler_fault}
use Rattle.code_model.specs.FirstLocals.{first_locals}
use Rattle.code_model.specs.StackMaps.{Bounds, frame_of}

-- ---- the stack map (JVMS 4.7.4)

-- the refusal that the entries end with, or no frame more
abbrev pub frames_end : Option Cause → Result (List (MapFrame ℕ)) Cause
frames_end None = Ok []
frames_end (Some refusal) = Err refusal

-- The frames of these entries of a method, from that index on, behind a frame at that place, where
-- there is one, with these locals.
unfoldable pub frames_from :
    Bounds → ℕ → ℕ → Option ℕ → List (MapType ℕ) → Option Cause → List Entry
    → Result (List (MapFrame ℕ)) Cause
frames_from bounds method index place before end [] = frames_end end
frames_from bounds method index place before end (entry ∷ entries) = do
  frame ← ok_or (frame_of bounds place before entry) (wrong_map_frame method index)
  others ← frames_from bounds method (index + 1) (Some frame.pc) frame.locals end entries
  Ok (frame ∷ others)

-- the frames of a method with these first locals
abbrev pub frames_of :
    Bounds → ℕ → List (MapType ℕ) → MapTable → Result (List (MapFrame ℕ)) Cause
frames_of bounds method first table = frames_from bounds method 0 None first table.end table.entries

-- ---- a method

abbrev pub bounds_of : ClassData → Parts → List (Placed ℕ) → Bounds
bounds_of file parts instructions =
    record {
      pool = file.pool;
      max_stack = parts.max_stack;
      max_locals = parts.max_locals;
      instructions = instructions;
    }

abbrev pub body_of : Parts → List (Placed ℕ) → List (MapFrame ℕ) → Body ℕ
body_of parts instructions frames =
    record {
      max_stack = parts.max_stack;
      max_locals = parts.max_locals;
      instructions = instructions;
      handlers = parts.handlers;
      frames = frames;
    }

-- The code of the method with that index, from the bytes of its attribute. Refused may be, in this
-- order: its shape, the words of a frame, an instruction, the target of a branch, a row of the
-- exception table, a frame of the stack map.
unfoldable pub body_at : ClassData → ℕ → Member → List ℕ → Result (Body ℕ) Cause
body_at file index method bytes = do
  shaped ← parts_of file.pool index bytes
  parts ← fitting_parts index shaped
  instructions ← instructions_of file index parts.code
  led ← unless (target_fault index instructions instructions) instructions
  handled ← unless (handler_fault file.pool index (length parts.code) led 0 parts.handlers) led
  frames ← frames_of (bounds_of file parts handled) index (first_locals file method) parts.map
  Ok (body_of parts handled frames)

abbrev pub body_of_method : ClassData → ℕ → Option Member → Result (Body ℕ) Cause
body_of_method file index None = Err (wrong_shape index 0)
body_of_method file index (Some method) =
    body_at file index method (unwrap_or (code_bytes file method) [])

-- the code of the method with that index, which has a Code attribute; without it, it's as if the
-- attribute were empty
unfoldable pub code_of : ClassData → ℕ → Result (Body ℕ) Cause
code_of file index = body_of_method file index (slice_get file.methods index)

-- ---- a class

abbrev pub code_or_none :
    ClassData → ℕ → Member → Option (List ℕ) → Result (Option (Body ℕ)) Cause
code_or_none file index method None = Ok None
code_or_none file index method (Some bytes) =
    body_at file index method bytes >>= λ body. Ok (Some body)

-- the code of these methods, from that index on
unfoldable pub codes_from :
    ClassData → ℕ → List Member → Result (List (Option (Body ℕ))) Cause
codes_from file index [] = Ok []
codes_from file index (method ∷ methods) = do
  first ← code_or_none file index method (code_bytes file method)
  others ← codes_from file (index + 1) methods
  Ok (first ∷ others)

-- the code of each method of a class, in their order, or the first refusal
abbrev pub load_of : ClassData → Result (List (Option (Body ℕ))) Cause
load_of file = codes_from file 0 file.methods
