-- What the machine itself keeps, whatever code it runs: how much there is at the most, that ended threads are done, who
-- owns monitors, and that a literal has one string.
use Rattle.std.specs.Prelude.{ℕ, IsTrue, Bool, true, ◌&&◌, ◌==◌, if◌then◌else◌, is_none, nat_le, nat_lt, bytes_eq, length, map, sum, List}
use Rattle.std.specs.List.{list_all, IsDistinct}
use Rattle.jv_model.specs.Limits.{most_frames, most_stack_words, most_threads, most_output_bytes}
use Rattle.world_model.specs.World.{World}
use Rattle.machine_model.specs.Heap.{Monitor, free, owned, Object}
use Rattle.machine_model.specs.State.{Frame, Thread, ClassMonitor, Interned, State, has_ended}
use Rattle.machine_model.specs.CallSteps.{frame_words}

-- frames that a thread may have: no more than so many, with no more words than so many
abbrev pub frames_fit : World → List Frame → Bool
frames_fit world frames =
    nat_le (length frames) most_frames && nat_le (sum (map (frame_words world) frames)) most_stack_words

-- a thread that has ended has nothing to start, and one that lives was ended by no throwable
abbrev pub ended_rightly : Thread → Bool
ended_rightly thread = if has_ended thread then length thread.to_start == 0 else is_none thread.thrown

-- a monitor's owner is one of so many threads, and has entered it
abbrev pub owned_rightly : ℕ → Monitor → Bool
owned_rightly threads free = true
owned_rightly threads (owned owner count) = nat_lt owner threads && nat_le 1 count

pub record WellKept (state : State) : Type 0 where
  pub threads : IsTrue (nat_le (length state.threads) most_threads)
  pub frames : IsTrue (list_all (λ (th : Thread). frames_fit state.world th.frames) state.threads)
  pub output : IsTrue (nat_le (length state.output) most_output_bytes)
  pub ended : IsTrue (list_all ended_rightly state.threads)
  pub object_monitors :
      IsTrue (list_all (λ (o : Object). owned_rightly (length state.threads) o.monitor) state.heap)
  pub class_monitors :
      IsTrue (list_all (λ (m : ClassMonitor). owned_rightly (length state.threads) m.monitor) state.class_monitors)
  -- no two literals have equal units
  pub literals : IsDistinct bytes_eq (map (λ (i : Interned). i.units) state.interned)
