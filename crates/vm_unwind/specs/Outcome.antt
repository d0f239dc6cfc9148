-- What the frames of a thread are once a throw is done.
use Rattle.std.specs.Prelude.{◌≡◌, ℕ, [], ◌∷◌, Some, drop}
use Rattle.jv_model.specs.Operand.{MemberReference}
use Rattle.machine_model.specs.Throwing.{caught_at}
use Rattle.jv_types.specs.declared.number.ClassNo.{ClassNo}
use Rattle.jv_values.specs.declared.value.Value.TheVariants.{Ref}
use Rattle.thread_frames.specs.Frames.{FrameState}
use Rattle.thread_frames.specs.Machine.{frame_named}
use Rattle.frame_stacks.specs.declared.thread.Thread.{Thread}
use Rattle.frame_stacks.specs.Threads.{with_frames, with_starts, finished}

-- the frame goes on at a handler, with the reference alone on its operands
abbrev pub with_caught : ℕ → ℕ → FrameState → FrameState
with_caught pc address frame = record frame { pc = pc; stack = Ref address ∷ [] }

-- the thread has ended with its newest frame by a throwable of that class, and starts no further method
abbrev pub ended_by : ClassNo → Thread → Thread
ended_by class thread = finished (Some class) (with_starts [] (with_frames (drop 1) thread))

-- It's the frame that the definitions go on with.
abbrev pub CaughtAsDefined : Type 0
CaughtAsDefined = (name : MemberReference) (pc address : ℕ) (frame : FrameState)
    → frame_named name (with_caught pc address frame) ≡ caught_at address (frame_named name frame) pc
