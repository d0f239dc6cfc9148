-- Which threads of the definitions the threads of the machine are.
use Rattle.std.specs.Prelude.{◌≡◌, ◌≤◌, ℕ, List, [], ◌∷◌, ◌++◌, ⊤, ◌==◌, Option, Some, IsTrue, length, map, flat_map, reverse, slice_get, option_to_list}
use Rattle.std.specs.List.{list_all}
use Rattle.jv_model.specs.Operand.{Operand}
use Rattle.jv_model.specs.Code.{Body}
use Rattle.world_model.specs.World.{World}
use Rattle.machine_model.specs.State as model
use Rattle.machine_model.specs.Reach.{ids_in}
use Rattle.class_world.specs.World.{name_at}
use Rattle.jv_types.specs.declared.number.MethodNo.{MethodNo}
use Rattle.code_store.specs.declared.mark.CodeMark.{CodeMark}
use Rattle.jv_values.specs.Values.{values_of}
use Rattle.thread_frames.specs.Frames.{FrameState}
use Rattle.thread_frames.specs.Machine.{held_in}
use Rattle.frame_stacks.specs.declared.thread.Thread.{Thread}
use Rattle.frame_stacks.specs.Threads.{Threads}
use Rattle.frame_stacks.specs.Machine.{thread_named}
use Rattle.heap_objects.specs.Ids.{Ids, are_live, thread_by}
use Rattle.member_names.specs.Names.{method_name, code_at, has_method, has_class}

-- ---- threads with addresses in place of ids

abbrev pub thread_in : World → Thread → model.Thread
thread_in world thread = thread_named (method_name world) (name_at world) thread

abbrev pub threads_in : World → Threads → List model.Thread
threads_in world stacks = map (thread_in world) stacks.threads

-- ---- what they name, in the order of roots

-- the held receiver, the locals by number, the operands from the bottom
abbrev pub frame_addresses : FrameState → List ℕ
frame_addresses frame =
    option_to_list (held_in frame.held) ++ ids_in (values_of frame.locals) ++ ids_in (values_of frame.stack)

-- the oldest frame first
abbrev pub thread_addresses : Thread → List ℕ
thread_addresses thread = flat_map frame_addresses (reverse thread.frames)

-- ---- what holds of each

-- the mark of each method that has code
abbrev pub Marks : Type 0
Marks = MethodNo → Option CodeMark

-- The frame has the mark and the sizes of its method's code, and what it names is live.
pub record IsFrame (world : World) (marks : Marks) (ids : Ids) (frame : FrameState) : Type 0 where
  pub body : Body Operand
  pub code : code_at world frame.method ≡ Some body
  pub mark : marks frame.method ≡ Some frame.code
  pub locals : length frame.locals ≡ body.max_locals
  pub operands : frame.max_stack ≡ body.max_stack
  pub within : length frame.stack ≤ frame.max_stack
  pub live : IsTrue (are_live ids (frame_addresses frame))

abbrev pub AreFrames : World → Marks → Ids → List FrameState → Type 0
AreFrames world marks ids [] = ⊤
AreFrames world marks ids (frame ∷ older) = IsFrame world marks ids frame × AreFrames world marks ids older

-- Its methods and its throwable's class are there.
pub record IsThread (world : World) (marks : Marks) (ids : Ids) (thread : Thread) : Type 0 where
  pub frames : AreFrames world marks ids thread.frames
  pub to_start : IsTrue (list_all (has_method world) thread.to_start)
  pub thrown : IsTrue (list_all (has_class world) (option_to_list thread.thrown))

-- ---- all of them

pub record AreThreads (world : World) (marks : Marks) (ids : Ids) (stacks : Threads) (threads : List model.Thread) : Type 0 where
  pub same : map (thread_by ids.id) (threads_in world stacks) ≡ threads
  pub each : (t : ℕ) (thread : Thread) → slice_get stacks.threads t ≡ Some thread → IsThread world marks ids thread

-- A thread has ended where it has no frame. While a step ends frames or makes a thread it need not be so.
abbrev pub HaveEnded : Threads → Type 0
HaveEnded stacks = (t : ℕ) (thread : Thread) → slice_get stacks.threads t ≡ Some thread → thread.ended ≡ (length thread.frames == 0)
