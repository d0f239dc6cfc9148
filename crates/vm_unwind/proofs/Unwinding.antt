-- Unwinding in parts.
use Rattle.std.proofs.Common.{◌≡◌, ℕ, List, [], ◌∷◌, Bool, true, false, ◌&&◌, if◌then◌else◌, Option, Some, None, refl, ap, ◌∙◌}
use Rattle.world_model.specs.World.{World}
use Rattle.machine_model.specs.Heap.{exited}
use Rattle.machine_model.specs.State.{Frame, Thread, State, with_thread}
use Rattle.machine_model.specs.Monitors.{change_monitor}
use Rattle.machine_model.specs.Throwing.{handler_of, is_synchronized_frame, owns, left_by, caught_at, match_option, thrown_in}
use Rattle.vm_unwind.specs.Parts.{catch_in, ended_in, left_by_all, with_catch, UnwindingHasParts}

changed_world : (class : List ℕ) (held : Option ℕ) (state : State) → (change_monitor class held exited state).world ≡ state.world
changed_world class None state = refl
changed_world class (Some id) state = refl

-- to leave a monitor changes no class
pub left_world : (t : ℕ) (frame : Frame) (state : State) → (left_by t frame state).world ≡ state.world
left_world t frame state = by (is_synchronized_frame state.world frame && owns t state frame)
  where
    by : (leaves : Bool)
        → (if leaves then change_monitor frame.method.class frame.held exited state else state).world ≡ state.world
    by true = changed_world frame.method.class frame.held state
    by false = refl

pub unwinding_has_parts : UnwindingHasParts
unfolding thrown_in
unwinding_has_parts t class id [] state = refl
unwinding_has_parts t class id (frame ∷ callers) state =
    by (handler_of state.world frame class) (unwinding_has_parts t class id callers (left_by t frame state))
  where
    by : (handler : Option ℕ)
        → thrown_in t class id callers (left_by t frame state)
        ≡ with_catch t class id (catch_in (left_by t frame state).world class callers)
        (left_by_all t (ended_in (left_by t frame state).world class callers) (left_by t frame state))
        → match_option handler
        (λ target. with_thread t (λ (th : Thread). record th { frames = caught_at id frame target ∷ callers }) state)
        (λ none. thrown_in t class id callers (left_by t frame state))
        ≡ with_catch t class id
        (match_option handler (λ target. Some (record { frame = frame; target = target; callers = callers }))
        (λ none. catch_in state.world class callers))
        (left_by_all t (match_option handler (λ target. []) (λ none. frame ∷ ended_in state.world class callers)) state)
    by (Some target) rest = refl
    by None rest =
        rest
        ∙ ap (λ (world : World). with_catch t class id (catch_in world class callers)
        (left_by_all t (ended_in world class callers) (left_by t frame state))) (left_world t frame state)
