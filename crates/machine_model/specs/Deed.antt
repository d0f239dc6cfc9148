-- What the next instruction of a thread comes to, and words for the families that say it.
use Rattle.std.specs.Prelude.{ℕ, List, ◌∷◌, Bool, false, ◌||◌, if◌then◌else◌, nat_le, Option, Some, None, length, codes, option_and_then}
use Rattle.jv_model.specs.Operand.{Operand}
use Rattle.jv_model.specs.Code.{Placed, Body}
use Rattle.world_model.specs.World.{World}
use Rattle.world_model.specs.BootNames.{java_object, java_string}
use Rattle.machine_model.specs.Value.{Value, null, reference}
use Rattle.machine_model.specs.Heap.{Contents, instance, array, string, words_of, with_object, contents_at}
use Rattle.machine_model.specs.State.{Frame, Thread, State, with_thread}

-- The first that holds, in this order of the checks that an instruction makes.
pub data Deed : Type 0 where
  -- it throws a new object of this class; and whether a native method does
  throws : List ℕ → Bool → Deed
  -- it would enter a monitor that another thread owns, or wait for a thread that lives
  blocked : Deed
  -- it would pass the limit of a stack, of threads, or of output
  is_deep : Deed
  is_crowded : Deed
  is_full : Deed
  -- The words that it allocates, or 0; whether it reaches a safe point; the state after it.
  does : ℕ → Bool → State → Deed
  -- a value is of another kind than the instruction needs, something that it names isn't there, or the stack grows too
  -- high
  wrong : Deed

-- A thread at its next instruction.
pub record Running : Type 0 where
  pub state : State
  pub thread : ℕ
  -- the current frame and the older ones
  pub frame : Frame
  pub callers : List Frame
  -- the code of the current method, and the instruction
  pub body : Body Operand
  pub placed : Placed Operand

-- what follows where there is something, and else `wrong`
infixl 10 ◌>>=◌
abbrev pub ◌>>=◌ : {A : Type 0} → Option A → (A → Deed) → Deed
None >>= next = wrong
(Some a) >>= next = next a

abbrev pub world_of : Running → World
world_of running = running.state.world

-- the operands, from the top down
abbrev pub operands : Running → List Value
operands running = running.frame.stack

-- the class whose methods an object has
abbrev pub class_of_contents : Contents → List ℕ
class_of_contents (instance class values) = class
class_of_contents (array type elements) = java_object
class_of_contents (string units) = java_string

abbrev pub class_of : State → ℕ → Option (List ℕ)
class_of state id = option_and_then (λ contents. Some (class_of_contents contents)) (contents_at state.heap id)

-- ---- the state after a step

-- with these frames
abbrev pub with_frames : Running → List Frame → State → State
with_frames running frames state = with_thread running.thread (λ (th : Thread). record th { frames = frames }) state

-- the current frame behind its instruction, with these operands
abbrev pub frame_after : Running → List Value → Frame
frame_after running rest = record running.frame { pc = running.placed.next; stack = rest }

-- the stack doesn't grow too high, where it grows
abbrev pub has_room : Body Operand → List Value → List Value → Bool
has_room body before after = nat_le (length after) body.max_stack || nat_le (length after) (length before)

-- it allocates so many words or none, reaches a safe point or not, changes the state so, and leaves these operands
abbrev pub finishes : ℕ → Bool → Running → State → List Value → Deed
finishes words mark running state rest =
    if has_room running.body (operands running) rest
    then does words mark (with_frames running (frame_after running rest ∷ running.callers) state) else wrong

abbrev pub goes_on : Running → State → List Value → Deed
goes_on running state rest = finishes 0 false running state rest

-- it allocates an object, and leaves a reference to it on these operands
abbrev pub allocates : Bool → Running → Contents → List Value → Deed
allocates mark running contents rest =
    finishes (words_of contents) mark running (record running.state { heap = with_object contents running.state.heap })
    (reference (length running.state.heap) ∷ rest)

-- the id that a value names; of null it's a throw
abbrev pub on_object : Value → (ℕ → Deed) → Deed
on_object null next = throws (codes "java/lang/NullPointerException") false
on_object (reference id) next = next id
on_object other next = wrong
