-- What a throw does with the frames of a thread (JVMS 2.10), in parts: which frame catches, the monitors that the frames
-- above it leave, one after the other, and what the thread is then.
use Rattle.std.specs.Prelude.{◌≡◌, ℕ, List, [], ◌∷◌, Option, Some, None}
use Rattle.world_model.specs.World.{World}
use Rattle.machine_model.specs.State.{Frame, Thread, State, with_thread}
use Rattle.machine_model.specs.Throwing.{handler_of, left_by, caught_at, match_option, thrown_in}

-- The frame that catches, the place where it goes on, and the older frames.
pub record Catch : Type 0 where
  pub frame : Frame
  pub target : ℕ
  pub callers : List Frame

-- the newest of these frames that has a handler
abbrev pub catch_in : World → List ℕ → List Frame → Option Catch
catch_in world class [] = None
catch_in world class (frame ∷ callers) = match_option (handler_of world frame class)
    (λ target. Some (record { frame = frame; target = target; callers = callers }))
    (λ none. catch_in world class callers)

-- the frames above it, from the newest on, or all where none has a handler
abbrev pub ended_in : World → List ℕ → List Frame → List Frame
ended_in world class [] = []
ended_in world class (frame ∷ callers) = match_option (handler_of world frame class)
    (λ target. []) (λ none. frame ∷ ended_in world class callers)

-- thread t leaves the monitors of the methods of these frames
abbrev pub left_by_all : ℕ → List Frame → State → State
left_by_all t [] state = state
left_by_all t (frame ∷ frames) state = left_by_all t frames (left_by t frame state)

-- the thread goes on where the object is caught, or has ended
abbrev pub with_catch : ℕ → List ℕ → ℕ → Option Catch → State → State
with_catch t class id None state =
    with_thread t (λ (th : Thread). record th { frames = []; to_start = []; thrown = Some class }) state
with_catch t class id (Some c) state =
    with_thread t (λ (th : Thread). record th { frames = caught_at id c.frame c.target ∷ c.callers }) state

-- A throw comes to these parts.
abbrev pub UnwindingHasParts : Type 0
UnwindingHasParts = (t : ℕ) (class : List ℕ) (id : ℕ) (frames : List Frame) (state : State)
    → thrown_in t class id frames state
    ≡ with_catch t class id (catch_in state.world class frames)
    (left_by_all t (ended_in state.world class frames) state)
