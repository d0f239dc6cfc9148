-- What holds of the threads of the machine where a step stays in its frame, and what the step comes to.
use Rattle.std.specs.Prelude.{◌≡◌, ◌≤◌, ℕ, List, ◌∷◌, Bool, Some, IsTrue, length, map, reverse, slice_get}
use Rattle.jv_model.specs.Operand.{Operand}
use Rattle.jv_model.specs.Code.{Body, Placed}
use Rattle.world_model.specs.World.{World}
use Rattle.machine_model.specs.Heap.{replace_at}
use Rattle.machine_model.specs.State as model
use Rattle.machine_model.specs.State.{State}
use Rattle.machine_model.specs.LocalStep.{not_local, local_step_of, instruction_at}
use Rattle.machine_model.specs.Reach.{ids_in}
use Rattle.machine_model.specs.Deed.{Running}
use Rattle.machine_model.specs.SharedStep.{deed_of, shared_step}
use Rattle.jv_values.specs.declared.value.Value.{Value}
use Rattle.jv_values.specs.Values.{values_of}
use Rattle.thread_frames.specs.Frames.{FrameState, change_newest}
use Rattle.thread_frames.specs.Machine.{frame_named, frames_named}
use Rattle.frame_stacks.specs.declared.thread.Thread.{Thread}
use Rattle.frame_stacks.specs.Threads.{Threads, change_thread}
use Rattle.heap_objects.specs.Ids.{Ids, are_live, frame_by, values_by}
use Rattle.member_names.specs.Names.{IsOrderly, method_name, code_at}
use Rattle.machine_threads.specs.Threads.{Marks, AreThreads}

-- ---- the newest frame

-- The thread of that number is there, and these are its newest frame and the older ones.
pub record IsNewest (stacks : Threads) (t : ℕ) (frame : FrameState) (older : List FrameState) : Type 0 where
  pub thread : Thread
  pub there : slice_get stacks.threads t ≡ Some thread
  pub frames : thread.frames ≡ frame ∷ older

-- the frame of the definitions, and the older ones
abbrev pub frame_in : World → Ids → FrameState → model.Frame
frame_in world ids frame = frame_by ids.id (frame_named (method_name world frame.method) frame)

abbrev pub frames_in : World → Ids → List FrameState → List model.Frame
frames_in world ids frames = map (frame_by ids.id) (frames_named (method_name world) frames)

-- ---- where it goes on

-- the frame with another place and other operands
abbrev pub with_rest : ℕ → List Value → FrameState → FrameState
with_rest pc words frame = record frame { pc = pc; stack = words }

-- the thread with its newest frame at a place, with these operands, and whether it reached a safe point
abbrev pub goes_to : ℕ → List Value → Bool → Thread → Thread
goes_to pc words mark thread =
    record thread { frames = change_newest (with_rest pc words) thread.frames; mark = mark }

-- the thread of the definitions with that frame, and then with that mark
abbrev pub with_newest : model.Frame → List model.Frame → model.Thread → model.Thread
with_newest frame callers thread = record thread { frames = frame ∷ callers }

abbrev pub marked_as : Bool → model.Thread → model.Thread
marked_as mark thread = record thread { mark = mark }

-- Where the newest frame of a thread goes on with operands that it has room for and that name what is live, the threads
-- are those of the definitions with that frame.
abbrev pub ThreadsGoOn : Type 0
ThreadsGoOn = (world : World) (marks : Marks) (ids : Ids) (stacks : Threads) (threads : List model.Thread) (t : ℕ)
    (frame : FrameState) (older : List FrameState) (pc : ℕ) (words : List Value) (mark : Bool)
    → AreThreads world marks ids stacks threads → IsNewest stacks t frame older → length words ≤ frame.max_stack
    → IsTrue (are_live ids (ids_in (values_of words)))
    → AreThreads world marks ids (change_thread t (goes_to pc words mark) stacks)
    (replace_at (marked_as mark)
    (replace_at (with_newest
    (record (frame_in world ids frame) { pc = pc; stack = values_by ids.id (values_of (reverse words)) })
    (frames_in world ids older)) threads t) t)

-- ---- its next instruction

-- the thread at it
abbrev pub running_of : State → ℕ → Ids → FrameState → List FrameState → Body Operand → Placed Operand → Running
running_of state t ids frame older body placed = record {
  state = state;
  thread = t;
  frame = frame_in state.world ids frame;
  callers = frames_in state.world ids older;
  body = body;
  placed = placed;
}

-- What the next instruction of a thread comes to, where it isn't local, is what the definitions say of the instruction that
-- stands at the place of its newest frame.
abbrev pub DeedsAreAtInstructions : Type 0
DeedsAreAtInstructions = (state : State) (marks : Marks) (ids : Ids) (stacks : Threads) (t : ℕ)
    (frame : FrameState) (older : List FrameState) (body : Body Operand) (placed : Placed Operand)
    → IsOrderly state.world → AreThreads state.world marks ids stacks state.threads → IsNewest stacks t frame older
    → code_at state.world frame.method ≡ Some body → instruction_at body frame.pc ≡ Some placed
    → local_step_of body placed (frame_in state.world ids frame) placed.instruction ≡ not_local
    → deed_of state t ≡ shared_step (running_of state t ids frame older body placed) placed.instruction
