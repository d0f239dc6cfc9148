-- The stages of reading a method's code.
use Rattle.std.specs.Prelude.{ℕ, List, length, Result, Ok}
use Rattle.jv_model.specs.Fallible.{unless, ◌>>=◌}
use Rattle.jv_model.specs.Refusal.{Cause}
use Rattle.jv_model.specs.ClassData.{Const, ClassData, Member}
use Rattle.jv_model.specs.Code.{Placed, Body}
use Rattle.code_model.specs.CodeShape.{Parts, parts_of, fitting_parts}
use Rattle.code_model.specs.CodePlaces.{target_fault, handler_fault}
use Rattle.code_model.specs.InstructionReading.{instructions_of}
use Rattle.code_model.specs.FirstLocals.{first_locals}
use Rattle.code_model.specs.CodeReading.{frames_of, bounds_of, body_of}

-- the parts, whose frames haven't too many words
abbrev pub fitting_parts_at : List Const → ℕ → List ℕ → Result Parts Cause
fitting_parts_at pool method bytes = parts_of pool method bytes >>= fitting_parts method

-- the instructions, whose branches and handlers lead to instructions
abbrev pub led_instructions : ClassData → ℕ → Parts → Result (List (Placed ℕ)) Cause
led_instructions file method parts = do
  instructions ← instructions_of file method parts.code
  led ← unless (target_fault method instructions instructions) instructions
  unless (handler_fault file.pool method (length parts.code) led 0 parts.handlers) led

-- the code, by these stages
abbrev pub staged_body : ClassData → ℕ → Member → List ℕ → Result (Body ℕ) Cause
staged_body file method member bytes = do
  parts ← fitting_parts_at file.pool method bytes
  instructions ← led_instructions file method parts
  frames ← frames_of (bounds_of file parts instructions) method (first_locals file member) parts.map
  Ok (body_of parts instructions frames)
