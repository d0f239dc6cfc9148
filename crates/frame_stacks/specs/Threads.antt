-- The threads of a run as contracts see them: a list, by their numbers.
use Rattle.std.specs.Prelude.{◌≡◌, ◌≤◌, ◌<◌, ◌+◌, ℕ, List, [], ◌∷◌, Bool, true, false, length, Option, None, slice_get, IsSomeAnd}
use Rattle.jv_model.specs.Limits.{most_frames, most_stack_words}
use Rattle.jv_types.specs.declared.number.MethodNo.{MethodNo}
use Rattle.jv_types.specs.declared.number.ClassNo.{ClassNo}
use Rattle.machine_model.specs.Heap.{replace_at}
use Rattle.machine_model.specs.State.{Frame}
use Rattle.machine_model.specs.LocalStep.{Local}
use Rattle.local_runs.specs.declared.run.Ran.{Ran}
use Rattle.thread_frames.specs.Machine.{RunsNewest}
use Rattle.thread_frames.specs.Frames.{FrameState, words_in}
use Rattle.frame_stacks.specs.declared.thread.Thread.{Thread}

pub record Threads : Type 0 where
  -- by their numbers
  pub threads : List Thread
  -- for how many there is room
  pub room : ℕ

-- what holds of the thread with that number, which is there
abbrev pub IsOf : Threads → ℕ → (Thread → Type 0) → Type 0
IsOf all t P = IsSomeAnd (slice_get all.threads t) P

abbrev pub change_thread : ℕ → (Thread → Thread) → Threads → Threads
change_thread t change all = record all { threads = replace_at change all.threads t }

-- a thread that is to run a method, and has no frame yet. It's at a safe point.
abbrev pub new_thread : MethodNo → Thread
new_thread first = record {
  frames = [];
  to_start = first ∷ [];
  mark = true;
  ended = false;
  thrown = None;
}

abbrev pub with_frames : (List FrameState → List FrameState) → Thread → Thread
with_frames change thread = record thread { frames = change thread.frames }

abbrev pub with_starts : List MethodNo → Thread → Thread
with_starts starts thread = record thread { to_start = starts }

abbrev pub with_mark : Bool → Thread → Thread
with_mark mark thread = record thread { mark = mark }

abbrev pub finished : Option ClassNo → Thread → Thread
finished thrown thread = record thread { ended = true; thrown = thrown }

-- there is room for a frame of so many words
abbrev pub HasRoom : ℕ → List FrameState → Type 0
HasRoom size frames =
    (length frames < most_frames) × (words_in frames + size ≤ most_stack_words)

-- Local steps of the newest frame of a thread change the frames of that thread, and nothing else.
abbrev pub RunsThread : (Frame → Local) → ℕ → Ran → ℕ → Threads → Threads → Type 0
RunsThread step max ran t all after =
    (frames : List FrameState)
    × (after ≡ change_thread t (with_frames (λ before. frames)) all)
    × IsOf all t (λ thread. RunsNewest step max ran thread.frames frames)
