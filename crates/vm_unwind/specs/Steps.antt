-- Unwinding as a loop over the frames of a thread: as long as the newest frame doesn't catch, it leaves the monitor of its
-- method, and is gone.
use Rattle.std.specs.Prelude.{◌≡◌, ℕ, zero, suc, ◌<◌, List, [], ◌∷◌, Some, None, length}
use Rattle.machine_model.specs.State.{Frame, Thread, State, with_thread}
use Rattle.machine_model.specs.Throwing.{left_by, caught_at, frames_of, thrown_in}
use Rattle.vm_unwind.specs.Parts.{Catch, catch_in, ended_in}

abbrev pub with_frames : ℕ → List Frame → State → State
with_frames t frames state = with_thread t (λ (th : Thread). record th { frames = frames }) state

-- the newest of these frames of thread t ends
abbrev pub newest_ended : ℕ → List Frame → State → State
newest_ended t [] state = state
newest_ended t (frame ∷ callers) state = with_frames t callers (left_by t frame state)

-- so many frames of thread t end
unfoldable pub frames_ended : ℕ → ℕ → State → State
frames_ended t zero state = state
frames_ended t (suc count) state = frames_ended t count (newest_ended t (frames_of t state) state)

-- the newest of these frames of thread t goes on at a handler, with the object
abbrev pub newest_catches : ℕ → ℕ → ℕ → List Frame → State → State
newest_catches t id target [] state = state
newest_catches t id target (frame ∷ callers) state = with_frames t (caught_at id frame target ∷ callers) state

-- thread t has ended by an object of that class
abbrev pub thread_ended : ℕ → List ℕ → State → State
thread_ended t class state =
    with_thread t (λ (th : Thread). record th { frames = []; to_start = []; thrown = Some class }) state

-- thread t leaves the monitor of the newest of these frames
abbrev pub newest_left : ℕ → List Frame → State → State
newest_left t [] state = state
newest_left t (frame ∷ callers) state = left_by t frame state

-- What a throw comes to, frame by frame.
pub record GoesByFrames (t : ℕ) (class : List ℕ) (id : ℕ) (state : State) : Type 0 where
  -- where no frame catches, all but the oldest end, which leaves its monitor; with it the thread has ended
  pub uncaught : (count : ℕ) → length (frames_of t state) ≡ suc count
      → catch_in state.world class (frames_of t state) ≡ None
      → (after : State) → after ≡ frames_ended t count state
      → thrown_in t class id (frames_of t state) state ≡ thread_ended t class (newest_left t (frames_of t after) after)
  -- where one does, those above it end, and it goes on
  pub caught : (c : Catch) → catch_in state.world class (frames_of t state) ≡ Some c
      → (after : State) → after ≡ frames_ended t (length (ended_in state.world class (frames_of t state))) state
      → thrown_in t class id (frames_of t state) state ≡ newest_catches t id c.target (frames_of t after) after

abbrev pub UnwindingGoesByFrames : Type 0
UnwindingGoesByFrames = (t : ℕ) (class : List ℕ) (id : ℕ) (state : State) → t < length state.threads
    → GoesByFrames t class id state
